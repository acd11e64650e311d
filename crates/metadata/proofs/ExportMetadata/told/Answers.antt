-- `told`: by where the fixed bytes end.
use Rattle.std.specs.Prelude.{Option}
use mathlib.Core.Path.{sym, ap, ap₂, ◌∙◌}
use mathlib.Core.Bool.{Bool}
use Prim.Native.Nat.{ℕ, ◌+◌}
use Rattle.std.proofs.lemmas.Slice.{between_is}
use Rattle.tree.proofs.AccessLaws.{upto-in}
use native.Mathlib.Omega.{arith}
use Rattle.metadata.specs.Metadata.{Metadata, told}
use Rattle.metadata.proofs.DecodeLaws.{told-upto, told-short}
use Rattle.metadata.proofs.ExportMetadata.told.Goals as goal

pub slice_bounds-content-count : goal.slice_bounds-content-count
slice_bounds-content-count c =
    let p = c.args.part in
    let i = upto-in p.bytes.now _ _ _ p.whole.0 (sym c.fixed.ensures ∙ c.in-Some.is) in omega arith

pub slice_bounds-content-start : goal.slice_bounds-content-start
slice_bounds-content-start c =
    let p = c.args.part in
    let w = p.whole.1 in
    let i = upto-in p.bytes.now _ _ _ p.whole.0 (sym c.fixed.ensures ∙ c.in-Some.is) in omega arith

pub slice_bounds-content-end : goal.slice_bounds-content-end
slice_bounds-content-end c =
    let p = c.args.part in
    let w = p.whole.1 in
    let i = upto-in p.bytes.now _ _ _ p.whole.0 (sym c.fixed.ensures ∙ c.in-Some.is) in omega arith

pub returns : goal.returns
unfolding told
returns c =
    let p = c.args.part in
    ap₂ {C = Metadata} (λ (b : Bool) (x : Option ℕ). record { injected = b; context = x }) c.tells_injected.ensures c.context_in.ensures
    ∙ ap told (between_is p.bytes.now (p.at + 3) c.in-Some.end)
    ∙ told-upto p (sym c.fixed.ensures ∙ c.in-Some.is)

pub returns-in_default : goal.returns-in_default
returns-in_default c =
    c.unset.ensures ∙ told-short c.args.part (sym c.fixed.ensures ∙ c.in_default.is)
