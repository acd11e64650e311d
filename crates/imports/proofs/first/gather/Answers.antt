-- `gather`: by whether `collect` had room. `gathering-made` adds what `gather_namespaces` did to the record.
use Rattle.std.proofs.Common.{◌≡◌, Err, rules}
use Rattle.tree.specs.Rows.{fields_of}
use Rattle.imports.proofs.GatherLaws.{gathering-made, gathering-full}
use Rattle.imports.proofs.first.gather.Goals as goal

pub returns : goal.returns
returns c =
    gathering-made c.args.literal (fields_of c.args.row) c.collect.ensures
    c.in_ok-i.i c.in_ok-i.was c.gather_namespaces.ensures

pub returns-in_err-i : goal.returns-in_err-i
returns-in_err-i c =
    let h : c.from_residual.result ≡ Err c.in_err-i.field-0.0 = search rules in
    rw h (gathering-full c.args.literal (fields_of c.args.row) c.collect.ensures c.in_err-i.was)
