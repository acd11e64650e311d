-- One name that unfolds every rule of extraction: a worked case says `unfolding computing`.
use Rattle.scope.specs.Modules.{Modules}
use Rattle.tree.specs.Example.{reading}
use Rattle.tree.specs.Layout.{same}
use Rattle.tree.specs.Tree.{framed, encode, size}
use Rattle.scope.specs.Modules.{place_of, number_of, request, set_mark}
use Rattle.writer.specs.Finished.{has_room, delivered}
use Rattle.metadata.specs.Decimal.{decimal_by, decimal}
use Rattle.metadata.specs.Metadata.{context_attribute, append, attributes_for, with_metadata}
use Rattle.inputs.specs.Lists.{find, filter, among}
use Rattle.inputs.specs.Table.{atoms_in, rows_in, row_of, file_of, bad_externals, bad_table, repeats, table_of}
use Rattle.inputs.specs.Fields.{keep, find_field, sole}
use Rattle.inputs.specs.Buffer.{fits}
use Rattle.extraction_rules.specs.First.{external, module_for, holds_namespace, force_source, forget, force_id, on_ident, imported_as, used_record}
use Rattle.extraction_rules.specs.First.{add_usage, use_property, use_from, use_imported, usage, argument, not_external, required, with_callee}
use Rattle.extraction_rules.specs.First.{mark_cjs, mark_required, collect_in, collect, add_lazy, require, note_in, note_id, outside_name, note_named}
use Rattle.extraction_rules.specs.First.{note_specifier, note_all, with_context, import_first, exported_name, export_specifier, binding_of, bindings}
use Rattle.extraction_rules.specs.First.{require_lazily, declarator, stays}
use Rattle.extraction_rules.specs.Second.{usages_of, specifiers_from, extend, take_apart, on_sole, import_second, as_property, rewritten, wrap_module, wrap_all, lose_namespaces, finish}
use Rattle.extraction_rules.specs.Walk.{after_expression, after_import, rule_for, after, parts_for, walk, walk_module, walk_again}
use Rattle.extraction_rules.specs.Records.{record_fields, forced_fields, records_of}
use Rattle.extraction_rules.specs.Call.{Lent, Lengths, Left, bad_lists, passes, extracted, extraction}

unfoldable pub computing : Lent → Lengths → Modules → Left
unfolding reading same framed encode size place_of number_of request set_mark has_room delivered decimal_by decimal context_attribute append attributes_for
    with_metadata find filter among atoms_in rows_in row_of file_of bad_externals bad_table repeats table_of fits keep find_field sole external module_for
    holds_namespace force_source forget force_id on_ident imported_as used_record add_usage use_property use_from use_imported usage argument not_external
    required with_callee mark_cjs mark_required collect_in collect add_lazy require note_in note_id outside_name note_named note_specifier note_all with_context
    import_first exported_name export_specifier binding_of bindings require_lazily declarator stays usages_of specifiers_from extend take_apart on_sole
    import_second as_property rewritten wrap_module wrap_all lose_namespaces finish after_expression after_import rule_for after parts_for walk walk_module
    walk_again record_fields forced_fields records_of bad_lists passes extracted extraction
computing l room ms = extraction l room ms
