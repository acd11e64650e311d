-- `add`: `from-added` says what the five stores and the count do: the modules before n stay, and module n is an unmarked one of this file.
use native.Mathlib.Omega.{arith}
use mathlib.Core.Path.{◌≡◌}
use lib.ListN.{length}
use Rattle.scope.specs.ScopeValue.{modules_of}
use Rattle.scope.proofs.ScopeValueLaws.{from-added}
use borrow.Author.Rules.{rules}
use Rattle.scope.proofs.Scope.add.Goals as goal

pub returns : goal.returns
unfolding modules_of
returns c =
    let g : length c.args.self.marks ≡ 1024 = search rules in
    let h : length c.args.self.files ≡ 256 = search rules in
    rw (c.put_mark-self-4.ensures, c.put_mark-self-3.ensures, c.put_mark-self-2.ensures, c.put_mark-self.ensures)
    (from-added c.args.self.marks c.args.n g
    c.requires c.args.self.files
    c.args.file (omega arith))
