-- `take_apart`: by whether the id has usages. `apart-some` has the import written with them; `apart-none` forces its source and keeps it.
use native.Mathlib.Omega.{arith}
use Rattle.imports.proofs.TakenLaws.{apart-some, apart-none}
use Rattle.imports.proofs.second.take_apart.Goals as goal

pub returns-then-has_usages : goal.returns-then-has_usages
returns-then-has_usages c =
    let a = c.requires.0 in
    apart-some c.args.part.now c.requires.1 c.args.id
    c.put_taken_apart.auto.out c.has_usages.ensures c.if-has_usages.true c.put_taken_apart.ensures

pub atom_at-requires : goal.atom_at-requires
atom_at-requires c =
    let a = c.requires.0 in
    let b = c.args.part.now.whole.1 in
    omega arith

pub returns : goal.returns
returns c =
    let a = c.requires.0 in
    apart-none c.args.part.now c.requires.1 c.args.id
    c.atom_at.result c.has_usages.ensures c.if-has_usages.false c.atom_at.ensures c.force_source.ensures c.copy.ensures
