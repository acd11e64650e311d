-- `put_files`: the invariant says that with the files from module i on all of them are written; `file-written` splits off the one at i.
use Prim.Native.Nat.{◌+◌, ◌*◌}
use mathlib.Core.Path.{refl, ◌∙◌}
use native.Mathlib.Omega.{arith}
use Rattle.corollaries.proofs.FilesLaws.{file-written, all-files, no-files}
use Rattle.corollaries.proofs.exported.put_files.Goals as goal

pub loop-i-init : goal.loop-i-init
loop-i-init c =
    let s = c.args.scope.now in (
      λ l p w. all-files s (c.wide.result * 256 + c.wide-2.result) (omega (arith, c.wide.ensures, c.wide-2.ensures)) w,
      refl,
      omega (arith, c.wide.ensures, c.wide-2.ensures),
    )

pub loop-i-preserved : goal.loop-i-preserved
loop-i-preserved c =
    let x = c.put-to.ensures in
    let y = c.put-to-in-loop-i.ensures in (
      λ l p w. c.loop-i.invariant.0 l p
          (file-written c.args.scope.now (c.wide.result * 256 + c.wide-2.result) c.loop-i.i c.loop-i-test.true x y w),
      y.size ∙ x.size ∙ c.loop-i.invariant.1,
      c.loop-i.invariant.2,
    )

pub returns : goal.returns
returns c =
    c.loop-i.invariant.0 _ _ (no-files c.args.scope.now (c.wide.result * 256 + c.wide-2.result) c.loop-i.i c.loop-i-test.false)
