-- `put_files`: the invariant says that with the files from module i on all of them are written; `file-written` splits off the one at i.
use Prim.Native.Nat.{ℕ, ◌-◌, ◌≤◌}
use mathlib.Core.Path.{◌≡◌}
use mathlib.Core.List.{List}
use lib.ListN.{length}
use Rattle.writer.specs.Wrote.{Wrote}
use Rattle.corollaries.specs.Hosts.{files_from, files_back}
use Rattle.corollaries.proofs.exported.put_files.Given as goal

abbrev pub invariant-loop-i : goal.invariant-loop-i
invariant-loop-i it = ((l : List ℕ) (p : ℕ) → Wrote it.files it.to (files_from (it.n - it.i) it.i it.scope) l p → Wrote it.initial.files 0 (files_back it.scope) l p)
    × (length it.files ≡ length it.initial.files)
    × (it.n ≤ 256)
