-- `put_record`: a source that the table does not name is refused (`record-nowhere`). Otherwise `record-file` splits the rule's field
-- into its heading and its specifiers. The source has a number (`number-known`), and asking again gives it (`module-again`).
use mathlib.Core.Path.{refl, sym, ap, ◌∙◌}
use Prim.Native.Nat.{◌+◌}
use Rattle.std.proofs.lemmas.Result.{err_from_is_err_and}
use Rattle.std.proofs.lemmas.Slice.{between_is}
use Rattle.inputs.specs.Table.{rows_in}
use Rattle.inputs.specs.ResolvedValue.{file_by}
use Rattle.scope.specs.ScopeValue.{modules_of}
use Rattle.tree.specs.Rows.{tree_of}
use Rattle.resolving_rules.specs.Resolve.{forced_in, kind_byte}
use Rattle.resolving.specs.Records.{FieldsIn, records_in}
use Rattle.tree.proofs.PartLaws.{row-there}
use Rattle.resolving.proofs.WritesLaws.{puts-refused, puts-as, puts-field, puts-parts}
use Rattle.resolving.proofs.ListLaws.{number-known, module-again, source-file, record-nowhere, record-file}
use Rattle.resolving.proofs.list.put_record.Goals as goal

pub returns-in_default : goal.returns-in_default
returns-in_default c =
    let a = c.args in
    puts-refused refl
    (record-nowhere (rows_in a.table.now) (forced_in (records_in a.part.bytes.now)) (modules_of a.scope) c.requires.1
    c.literal_value.ensures (sym c.resolve.ensures ∙ ap file_by c.in_default.is))

pub unwrap-numbers-requires : goal.unwrap-numbers-requires
unwrap-numbers-requires c =
    let a = c.args in
    let named = source-file (rows_in a.table.now) (forced_in (records_in a.part.bytes.now)) (modules_of a.scope) c.requires.1
    c.literal_value.ensures (sym c.resolve.ensures ∙ ap file_by c.in-Some.is) in
    number-known (rows_in a.table.now) (modules_of a.scope) (tree_of a.part) c.gen_id.result c.requires.2 named c.gen_id.ensures

pub returns : goal.returns
returns c =
    let a = c.args in
    let rows = rows_in a.table.now in
    let forced = forced_in (records_in a.part.bytes.now) in
    let ms = modules_of a.scope in
    let found = sym c.resolve.ensures ∙ ap file_by c.in-Some.is in
    let named = source-file rows forced ms c.requires.1 c.literal_value.ensures found in
    let number = module-again rows ms (tree_of a.part) c.gen_id.result c.requires.2 named c.gen_id.ensures c.unwrap-numbers.ensures in
    puts-as (record-file rows forced ms c.requires.1 c.literal_value.ensures c.row.result c.row.ensures found (c.kind_of-kind.ensures ∙ ap kind_byte c.tag.ensures) number c.is_forced-all.ensures)
    (puts-field c.open_field-content.ensures (rw (between_is a.part.bytes.now (a.part.at + 3) (a.part.at + 9)) at c.put_heading-c.ensures)
    c.put_specifiers.ensures c.in_ok-p.was c.close_field.ensures)

pub returns-in_err-p : goal.returns-in_err-p
returns-in_err-p c =
    let a = c.args in
    let rows = rows_in a.table.now in
    let forced = forced_in (records_in a.part.bytes.now) in
    let ms = modules_of a.scope in
    let found = sym c.resolve.ensures ∙ ap file_by c.in-Some.is in
    let named = source-file rows forced ms c.requires.1 c.literal_value.ensures found in
    let number = module-again rows ms (tree_of a.part) c.gen_id.result c.requires.2 named c.gen_id.ensures c.unwrap-numbers.ensures in
    let passed = err_from_is_err_and c.from_residual.result c.from_residual.ensures.1 in
    rw (passed.1, passed.2)
    (puts-as (record-file rows forced ms c.requires.1 c.literal_value.ensures c.row.result c.row.ensures found (c.kind_of-kind.ensures ∙ ap kind_byte c.tag.ensures) number c.is_forced-all.ensures)
    (puts-parts c.open_field-content.ensures (rw (between_is a.part.bytes.now (a.part.at + 3) (a.part.at + 9)) at c.put_heading-c.ensures)
    c.put_specifiers.ensures c.in_err-p.was))

pub put_specifiers-requires : goal.put_specifiers-requires
put_specifiers-requires c =
    row-there c.row.result c.row.ensures FieldsIn c.requires.1.parts
