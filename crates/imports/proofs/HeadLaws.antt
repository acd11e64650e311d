-- An import as it stands in the tree: its literal, its source, its parts, and its bytes.
use Rattle.std.specs.Prelude.{None, Some, Ok}
use Prim.Native.Nat.{ℕ, ◌+◌, ◌≤◌}
use native.Mathlib.Omega.{arith}
use mathlib.Core.Path.{◌≡◌, refl, sym, ap, subst, ◌∙◌}
use mathlib.Core.Bool.{Bool}
use mathlib.Core.List.{List}
use lib.ListN.{length}
use lib.Seq.{slice}
use Rattle.writer.specs.Wrote.{Wrote}
use Rattle.writer.proofs.Wrote.{wrote-as}
use Rattle.tree.specs.Layout.{two, two_at, id_at, value_of}
use Rattle.tree.specs.Tree.{Field, field, Fields, fixed_of, parts_of, encode}
use Rattle.tree.specs.Grammar.{rule_of}
use Rattle.tree.specs.Rows.{tree_of, fields_of}
use Rattle.tree.specs.Standing.{row_at, Row as Standing}
use Rattle.tree.specs.declared.row.Part.{Part}
use Rattle.tree.specs.declared.row.Row.{Row}
use Rattle.tree.proofs.StandingLaws.{whole-step}
use Rattle.tree.proofs.LayoutLaws.{two_at-is}
use Rattle.tree.proofs.PartLaws.{fields-made, part_tag, part_fixed}
use Rattle.tree.proofs.SliceLaws.{take-slice}
use Rattle.tree.proofs.WidthLaws.{plain-width}
use Rattle.tree.specs.declared.grammar.Value.TheVariants.{Literal}
use Rattle.extraction_rules.specs.State.{State, Setting, Act}
use Rattle.extraction_rules.specs.First.{external}
use Rattle.inputs.specs.Lists.{among}
use Rattle.inputs.specs.Outcome.{done}
use Rattle.state.specs.Cells.{Env, Shows}
use Rattle.steps.specs.Step.{ReadAt, Step, Steps, Begun}
use Rattle.steps.proofs.SoundLaws.{read-bytes, read-parts, read-short}
use Rattle.steps.proofs.StepsLaws.{steps-done, steps-never}
use Rattle.imports.specs.Parts.{Framed}
use Rattle.imports.proofs.WidthLaws.{framing, framed-in, framed-exact, framed-tree, framed-length}

-- an import that was read has its literal
pub head-short : (p : Part) {P : Env → State → Type 0} {act : Env → Act Field} {t out : List ℕ} {o : ℕ} {k : Step} →
    part_fixed p ≡ None → ((x : Env) (u : State) → P x u → ReadAt p.bytes.now p.at p.stop) → Steps encode P act t out o t out k
head-short p e h = steps-never _ _ _ _ (λ x u c. read-short (h x u c) e)

-- an import whose literal is whole
pub record Headed (part : Part) (from : ℕ) : Type 0 where
  pub framed : Framed part.bytes.now part.at part.stop from
  pub tag : part_tag part ≡ 0x10

pub headed : (p : Part) {from : ℕ} → part_tag p ≡ 0x10 → part_fixed p ≡ Some from → Headed p from
headed p tag e = record { framed = framing p e; tag = tag }

-- and so it is once it was read
pub headed-of : (p : Part) → part_tag p ≡ 0x10 → ReadAt p.bytes.now p.at p.stop → (from : ℕ) × Headed p from
headed-of p tag r =
    let v = whole-step p.bytes.now p.at p.stop r.whole in
    (v.0, headed p tag v.1)

module _ {part : Part} {from : ℕ} (hd : Headed part from) where
  abbrev pub F : Field
  F = tree_of part

  -- its literal ends where its parts start
  pub head-in : (from ≡ part.at + 9) × (from ≤ part.stop) × (from ≤ length part.bytes.now)
  head-in =
      let i = framed-in hd.framed in
      let n = plain-width 0x10 Literal refl (slice (part.at + 3) from part.bytes.now) hd.tag (framed-exact hd.framed) in
      let l = framed-length hd.framed in
      let a = i.0 in
      (omega arith, i.1, i.2)

  pub head-fixed : fixed_of F ≡ slice (part.at + 3) from part.bytes.now
  head-fixed = ap fixed_of (framed-tree hd.framed)

  pub head-parts : parts_of F ≡ row_at part.bytes.now from part.stop
  head-parts = ap parts_of (framed-tree hd.framed)

  -- as a row of them
  pub head-fields : (r : Row) → (r.bytes.now ≡ part.bytes.now) × (r.at ≡ from) × (r.end ≡ part.stop) → parts_of F ≡ fields_of r
  head-fields r h = head-parts ∙ sym (fields-made r h)

  pub head-tree : F ≡ field 0x10 (fixed_of F) (parts_of F)
  head-tree = by F (framed-tree hd.framed ∙ ap (λ (k : ℕ). field k (slice (part.at + 3) from part.bytes.now) (row_at part.bytes.now from part.stop)) hd.tag)
    where
      by : (f : Field) {x : List ℕ} {cs : Fields} → f ≡ field 0x10 x cs → f ≡ field 0x10 (fixed_of f) (parts_of f)
      by f {x} {cs} q = subst (λ (g : Field). g ≡ field 0x10 (fixed_of g) (parts_of g)) (sym q) refl

  pub head-literal : id_at part.bytes.now (part.at + 3) ≡ fixed_of F
  head-literal =
      let k = head-in.0 in
      let z : part.at + 3 + 6 ≡ from = omega arith in
      ap (λ (j : ℕ). slice (part.at + 3) j part.bytes.now) z ∙ sym head-fixed

  -- its source, as a literal's value and as an atom
  pub head-value : (n : ℕ) → value_of (id_at part.bytes.now (part.at + 3)) ≡ two n → two n ≡ value_of (fixed_of F)
  head-value n k = sym k ∙ ap value_of head-literal

  pub head-source : {n : ℕ} → n ≡ two_at part.bytes.now (part.at + 3) → two n ≡ value_of (fixed_of F)
  head-source {n} k =
      let i = head-in.0 in
      let l = head-in.2 in
      head-value n (take-slice 2 (part.at + 3) (part.at + 3 + 6) part.bytes.now (omega arith) (omega arith) ∙ sym (ap two k ∙ two_at-is part.bytes.now (part.at + 3) part.of_bytes (omega arith)))

  pub head-row : ReadAt part.bytes.now part.at part.stop → Standing part.bytes.now from part.stop (rule_of 0x10)
  head-row r = subst (λ (k : ℕ). Standing part.bytes.now from part.stop (rule_of k)) hd.tag (read-parts r hd.framed.fixed)

  -- a copy is the import as it is
  pub head-copied : {out out' : List ℕ} {o p : ℕ} → ReadAt part.bytes.now part.at part.stop →
      Wrote out o (slice part.at part.stop part.bytes.now) out' p → Wrote out o (encode (field 0x10 (fixed_of F) (parts_of F))) out' p
  head-copied r w = wrote-as w (sym (read-bytes r part.of_bytes) ∙ ap encode head-tree)

  -- it is begun anew
  pub head-begun : {l k : List ℕ} {o d : ℕ} → Begun l o (part_tag part) (slice (part.at + 3) from part.bytes.now) k d → Begun l o 0x10 (fixed_of F) k d
  head-begun {l} {k} {o} {d} b =
      subst (λ (n : ℕ). Begun l o n (fixed_of F) k d) hd.tag (subst (λ (x : List ℕ). Begun l o (part_tag part) x k d) (sym head-fixed) b)

  pub head-stays : {P : Env → State → Type 0} {act : Env → Act Field} {t out out' : List ℕ} {o p : ℕ} →
      Wrote out o (slice part.at part.stop part.bytes.now) out' p → ((x : Env) (u : State) → P x u → ReadAt part.bytes.now part.at part.stop) →
      ((x : Env) (u : State) → Shows x t u → P x u → act x u ≡ done (field 0x10 (fixed_of F) (parts_of F), u)) → Steps encode P act t out o t out' (Ok p)
  head-stays w h k = steps-done w.size (λ x u v c. record { value = field 0x10 (fixed_of F) (parts_of F); state = u; is = k x u v c; wrote = head-copied (h x u c) w; shows = v })

  -- whether it is external, as the code asks
  pub head-external : (E : Setting) (n : ℕ) {a b : Bool} → two n ≡ value_of (fixed_of F) → a ≡ among (two n) E.externals → a ≡ b → external E (fixed_of F) ≡ b
  unfolding external
  head-external E n c d q = ap (λ (l : List ℕ). among l E.externals) (sym c) ∙ sym d ∙ q
