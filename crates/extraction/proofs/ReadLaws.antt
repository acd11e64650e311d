-- A module that was read, and what stands at the places of its patterns.
use Prim.Native.Nat.{ℕ, ◌+◌, ◌%◌, ◌≤◌}
use native.Mathlib.Omega.{arith}
use mathlib.Core.Path.{◌≡◌, ap, ◌∙◌}
use mathlib.Core.List.{List}
use lib.ListN.{length}
use Rattle.tree.specs.declared.grammar.Set.TheVariants.{Module}
use Rattle.tree.specs.Layout.{Bytes}
use Rattle.tree.specs.Tree.{Fields}
use Rattle.tree.specs.Read.{fine, read}
use Rattle.tree.proofs.AccessLaws.{extent-upto}
use Rattle.tree.proofs.WidthLaws.{read-module}
use Rattle.inputs.specs.Outcome.{done}
use Rattle.extraction_rules.specs.Call.{items_read}
use Rattle.extraction_rules.proofs.OutcomeLaws.{of-done}
use Rattle.extraction_rules.proofs.ReadableLaws.{Items, read-items}
use Rattle.state.specs.Cells.{Env}
use Rattle.extraction_rules.specs.State.{Pass, first, second}
use Rattle.state.specs.Does.{place_in}
use Rattle.records.specs.Writes.{placed, literal_in, Placing, items_in}
use Rattle.records.proofs.ToldLaws.{placed-0, placed-first, placed-second, literal-first, literal-second}
use Rattle.steps.specs.Step.{Reads}
use Rattle.extraction.specs.Stages.{ModuleRead}

-- ---- A module

-- its items are those from 3 on
pub module-items : (s : List ℕ) (fs : Fields) → read Module s ≡ fine fs → items_read (read Module s) ≡ done (items_in s)
module-items s fs e = ap items_read (e ∙ ap fine (read-module s fs e).tree)

pub module-read : (s : List ℕ) (fs : Fields) → Bytes s → length s ≤ 32768 → read Module s ≡ fine fs → ModuleRead s
module-read s fs bs n e =
    let m = read-module s fs e in
    record { room = m.room; row = m.row; items = of-done (items_read (read Module s)) Items (items_in s) (module-items s fs e) (read-items s bs); most = n }

-- ---- Places

module _ (tree work : List ℕ) (x : Env) (p : Placing tree work x) where
  -- what stands at a place of the tree that a pass walks
  bound-at : {q : Pass} → x.setting.pass ≡ q → (at : ℕ) → x.bound (place_in x.setting.pass at) ≡ placed tree work (place_in q at)
  bound-at e at = p.bindings_placed (place_in x.setting.pass at) ∙ ap (λ (z : Pass). placed tree work (place_in z at)) e

  literal-at : {q : Pass} → x.setting.pass ≡ q → (at : ℕ) → x.literal (place_in x.setting.pass at) ≡ literal_in tree work (place_in q at)
  literal-at e at = p.literals_placed (place_in x.setting.pass at) ∙ ap (λ (z : Pass). literal_in tree work (place_in z at)) e

  pub reads-tree : x.setting.pass ≡ first → length tree ≤ 32768 → Reads x tree
  reads-tree e n =
      record {
        nothing_bound = p.bindings_placed 0 ∙ placed-0 tree work;
        pattern = λ at stop o r.
            let i = extent-upto tree at r.end r.inside r.extent in
            let f = r.fits in
            let z : at % 65536 ≡ at = omega arith in
            bound-at e at ∙ ap (placed tree work) z ∙ placed-first tree work at r.end stop o (omega arith) r.inside r.fits r.extent;
        literals = λ at h.
            let z : at % 65536 ≡ at = omega arith in
            literal-at e at ∙ ap (literal_in tree work) z ∙ literal-first tree work at (omega arith) h;
      }

  pub reads-work : x.setting.pass ≡ second → length work ≤ 65538 → Reads x work
  reads-work e n =
      record {
        nothing_bound = p.bindings_placed 0 ∙ placed-0 tree work;
        pattern = λ at stop o r.
            let i = extent-upto work at r.end r.inside r.extent in
            let f = r.fits in
            let z : 65536 + at % 65536 ≡ 65536 + at = omega arith in
            bound-at e at ∙ ap (placed tree work) z ∙ placed-second tree work at r.end stop r.inside r.fits r.extent;
        literals = λ at h.
            let z : 65536 + at % 65536 ≡ 65536 + at = omega arith in
            literal-at e at ∙ ap (literal_in tree work) z ∙ literal-second tree work at h;
      }
