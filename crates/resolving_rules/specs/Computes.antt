-- One name that unfolds every rule of resolving: a worked case says `unfolding computing`.
use Rattle.std.specs.Prelude.{ℕ}
use Rattle.scope.specs.Modules.{Modules, place_of, number_of, request}
use Rattle.tree.specs.Example.{reading}
use Rattle.tree.specs.Layout.{same}
use Rattle.tree.specs.Tree.{framed, encode, size}
use Rattle.writer.specs.Finished.{has_room, delivered}
use Rattle.inputs.specs.Lists.{find, among}
use Rattle.inputs.specs.Fields.{keep}
use Rattle.inputs.specs.Table.{rows_in, row_of, file_of, bad_table, repeats, table_of}
use Rattle.inputs.specs.Buffer.{fits}
use Rattle.resolving_rules.specs.Resolve.{forced_in, number_one, number_all, resolved_named, resolved_specifier, resolved_specifiers, heading, resolved_record, resolved_all}
use Rattle.resolving_rules.specs.Call.{Lent, Left, numbered, listed, resolved, resolving}

unfoldable pub computing : Lent → ℕ → Modules → Left
unfolding place_of number_of request reading same framed encode size has_room delivered find among keep rows_in row_of file_of bad_table repeats table_of fits
    forced_in number_one number_all resolved_named resolved_specifier resolved_specifiers heading resolved_record resolved_all numbered listed resolved
    resolving
computing l room ms = resolving l room ms
