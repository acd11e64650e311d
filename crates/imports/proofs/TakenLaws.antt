-- The usages of an id, written one after another as specifiers, and the import that gets them.
use Rattle.std.specs.Prelude.{Option, None, Some, Ok}
use Prim.Native.Nat.{ℕ, ◌+◌, ◌≤◌}
use native.Mathlib.Omega.{arith}
use mathlib.Core.Path.{◌≡◌, refl, sym, ap, subst, ◌∙◌}
use mathlib.Core.Bool.{Bool, true, false}
use mathlib.Core.List.{List, [], ◌∷◌, ◌++◌, map}
use lib.ListN.{length, drop, drop_of_length-le}
use lib.Seq.{slice}
use Rattle.writer.specs.Bytes.{framed}
use Rattle.writer.specs.Wrote.{Wrote, closed}
use Rattle.writer.proofs.Wrote.{wrote-none, wrote-then, wrote-as, wrote-field}
use Rattle.tree.specs.Layout.{two, two_at, value_of}
use Rattle.tree.specs.Tree.{field, Fields, none, fixed_of, parts_of, encode, encodes}
use Rattle.tree.specs.Grammar.{rule_of}
use Rattle.tree.specs.Rows.{tree_of}
use Rattle.tree.specs.declared.row.Part.{Part}
use Rattle.tree.proofs.PartLaws.{part_tag}
use Rattle.tree.proofs.SoundLaws.{row-sound}
use Rattle.scope.specs.declared.id.Id.{Id}
use Rattle.metadata.specs.Metadata.{append}
use Rattle.metadata.proofs.EncodeLaws.{encodes-append, framed-field}
use Rattle.inputs.specs.Lists.{filter, among}
use Rattle.inputs.specs.Outcome.{done}
use Rattle.extraction_rules.specs.State.{Usage, State, set_collected}
use Rattle.extraction_rules.specs.First.{attributes_in, force_source}
use Rattle.extraction_rules.specs.Second.{usages_of, specifiers_from, extend, take_apart}
use Rattle.state.specs.Cells.{Shows, id_by, sources_in}
use Rattle.state.specs.Does.{Tells, Lists, listed, any, Forces}
use Rattle.state.proofs.SecondLaws.{specifiers-plain, shows-extended}
use Rattle.steps.specs.Step.{ReadAt, Steps, Begun}
use Rattle.steps.proofs.StepsLaws.{steps-done}
use Rattle.imports.specs.Parts.{Ends, Writes, usages_from, Usage as Written}
use Rattle.imports.proofs.HeadLaws.{Headed, headed-of, head-parts, head-source, head-row, head-copied, head-begun}

-- ---- One usage

from-more : (u : Usage) (l : List Usage) → encodes (specifiers_from (u ∷ l)) ≡ encode (field 0x20 (u.property ++ 0 ∷ []) none) ++ encodes (specifiers_from l)
unfolding specifiers_from encode
from-more u l = refl

module _ (x : List ℕ) (i : ℕ) {t out : List ℕ} {o : ℕ} {r : Option Id} (w : Lists x i t r) where
  pub usage-is : (q : Id) {out' : List ℕ} {p : ℕ} → r ≡ Some q → Wrote out o (encode (field 0x20 (id_by q ++ 0 ∷ []) none)) out' p → Written x i t out o out' p
  usage-is q e v =
      record {
        next = λ k.
            record {
              is = λ s b.
                  let rest = usages_of x (drop (i + 1) s.usages) in
                  wrote-as (wrote-then v (k.is s b))
                  (sym (ap (λ (l : List Usage). encodes (specifiers_from l)) (w.is s b ∙ ap (λ (y : Option Id). listed x y rest) e) ∙ from-more (record { id = x; property = id_by q }) rest));
            };
      }

  pub usage-other : r ≡ None → Written x i t out o out o
  usage-other e =
      record {
        next = λ k.
            record {
              is = λ s b.
                  let rest = usages_of x (drop (i + 1) s.usages) in
                  wrote-as (k.is s b) (sym (ap (λ (l : List Usage). encodes (specifiers_from l)) (w.is s b ∙ ap (λ (y : Option Id). listed x y rest) e)));
            };
      }

-- ---- All usages

from-none : (x : List ℕ) → encodes (specifiers_from (usages_of x [])) ≡ []
unfolding usages_of filter specifiers_from encode
from-none x = refl

pub usages-end : (x : List ℕ) (i : ℕ) {t out : List ℕ} {o n : ℕ} → Tells (λ s. length s.usages) t n → n ≤ i → Writes (usages_from x i) t out o out o
usages-end x i w h =
    record {
      is = λ s b.
          let k = w.is s b in
          let z : length s.usages ≤ i = omega arith in
          wrote-as wrote-none (sym (ap (λ (l : List Usage). encodes (specifiers_from (usages_of x l))) (drop_of_length-le s.usages {i = i} z) ∙ from-none x));
    }

-- what is left to write makes the whole
pub record Listing (x : List ℕ) (t out₀ : List ℕ) (o : ℕ) (out : List ℕ) (i to : ℕ) : Type 0 where
  pub size : length out ≡ length out₀
  pub rest : (out' : List ℕ) (p : ℕ) → Writes (usages_from x i) t out to out' p → Writes (usages_from x 0) t out₀ o out' p

pub listing-start : (x : List ℕ) {t out : List ℕ} {o : ℕ} → Listing x t out o out 0 o
listing-start x = record { size = refl; rest = λ out' p w. w }

pub listing-more : {x t out₀ out out' : List ℕ} {o i to p : ℕ} → Listing x t out₀ o out i to → Written x i t out to out' p →
    length out' ≡ length out → Listing x t out₀ o out' (i + 1) p
listing-more g w e = record { size = e ∙ g.size; rest = λ out'' q v. g.rest out'' q (w.next v) }

-- ---- The import that gets them

module _ {part : Part} {from : ℕ} (hd : Headed part from) where
  abbrev X : List ℕ
  X = fixed_of (tree_of part)

  abbrev CS : Fields
  CS = parts_of (tree_of part)

  -- what is copied from the attributes on
  pub attributes-are : {r : ℕ} → Ends part.bytes.now from part.stop r → ReadAt part.bytes.now part.at part.stop → slice r part.stop part.bytes.now ≡ encodes (attributes_in CS)
  attributes-are {r} v k =
      let w = head-row hd k in
      sym (ap (λ (fs : Fields). encodes (attributes_in fs)) (head-parts hd) ∙ ap encodes (v.attributes w)
      ∙ (row-sound part.bytes.now r part.stop (rule_of 0x10) part.of_bytes v.before hd.framed.fits (v.row w)).0)

  taken-bytes : (fs : Fields) → framed 0x10 (X ++ (encodes fs ++ encodes (attributes_in CS))) ≡ encode (field 0x10 X (append fs (attributes_in CS)))
  taken-bytes fs = ap (λ (b : List ℕ). framed 0x10 (X ++ b)) (sym (encodes-append fs (attributes_in CS))) ∙ framed-field 0x10 X (append fs (attributes_in CS))

  pub taken-written : (id : Id) {t l k j h out' : List ℕ} {o d q p r : ℕ} → Begun l o (part_tag part) (slice (part.at + 3) from part.bytes.now) k d →
      Writes (usages_from (id_by id) 0) t k d j q →
      Ends part.bytes.now from part.stop r → Wrote j q (slice r part.stop part.bytes.now) h p → out' ≡ closed h o p → ReadAt part.bytes.now part.at part.stop →
      Writes (λ u. encode (field 0x10 X (append (specifiers_from (usages_of (id_by id) u.usages)) (attributes_in CS)))) t l o out' p
  taken-written id b w v y z rd =
      let c = head-begun hd b in
      record {
        is = λ u n.
            wrote-as (wrote-field c.opened (wrote-then c.fixed (wrote-then (w.is u n) (wrote-as y (attributes-are v rd)))) z)
            (taken-bytes (specifiers_from (usages_of (id_by id) u.usages)));
      }

-- ---- Taken apart, or its source forced

module _ (part : Part) (tag : part_tag part ≡ 0x10) where
  abbrev Literal : List ℕ
  Literal = fixed_of (tree_of part)

  abbrev Parts : Fields
  Parts = parts_of (tree_of part)

  taken-some : (l : List Usage) (u : State) → any l ≡ true → take_apart l Literal Parts u ≡
      done (field 0x10 Literal (append (specifiers_from l) (attributes_in Parts)), set_collected (map (extend Literal (specifiers_from l)) u.collected) u)
  unfolding take_apart
  taken-some [] u q = absurd (let z : ◌≡◌ {A = ℕ} 0 1 = cc in omega arith)
  taken-some (v ∷ l) u q = refl

  taken-none : (l : List Usage) (u : State) → any l ≡ false → take_apart l Literal Parts u ≡ done (field 0x10 Literal Parts, force_source (value_of Literal) u)
  unfolding take_apart
  taken-none [] u q = refl
  taken-none (v ∷ l) u q = absurd (let z : ◌≡◌ {A = ℕ} 0 1 = cc in omega arith)

  abbrev Apart : Id → List ℕ → List ℕ → ℕ → List ℕ → List ℕ → ℕ → Type 0
  Apart id t out o t' out' p =
      Steps encode (λ x u. ReadAt part.bytes.now part.at part.stop × (among (value_of Literal) (sources_in u.collected) ≡ true))
      (λ _ u. take_apart (usages_of (id_by id) u.usages) Literal Parts u) t out o t' out' (Ok p)

  pub apart-some : (id : Id) {t out out' : List ℕ} {o p : ℕ} {b : Bool} → length out' ≡ length out → Tells (λ u. any (usages_of (id_by id) u.usages)) t b → b ≡ true →
      (ReadAt part.bytes.now part.at part.stop → Writes (λ u. encode (field 0x10 Literal (append (specifiers_from (usages_of (id_by id) u.usages)) (attributes_in Parts)))) t out o out' p) →
      Apart id t out o t out' p
  apart-some id z w q v =
      steps-done z (λ x u k h.
      let l = usages_of (id_by id) u.usages in
      record {
        value = field 0x10 Literal (append (specifiers_from l) (attributes_in Parts));
        state = set_collected (map (extend Literal (specifiers_from l)) u.collected) u;
        is = taken-some l u (sym (w.is u k) ∙ q);
        wrote = (v h.0).is u k;
        shows = shows-extended (specifiers_from l) (specifiers-plain l) Literal k;
      })

  pub apart-none : (id : Id) (n : ℕ) {t t' out out' : List ℕ} {o p : ℕ} {b : Bool} → Tells (λ u. any (usages_of (id_by id) u.usages)) t b → b ≡ false →
      n ≡ two_at part.bytes.now (part.at + 3) → Forces (two n) t t' → Wrote out o (slice part.at part.stop part.bytes.now) out' p → Apart id t out o t' out' p
  apart-none id n {t' = t'} w q c f v =
      steps-done v.size (λ x u k h.
      let d = (headed-of part tag h.0).1 in
      let g = head-source d c in
      record {
        value = field 0x10 Literal Parts;
        state = force_source (value_of Literal) u;
        is = taken-none (usages_of (id_by id) u.usages) u (sym (w.is u k) ∙ q);
        wrote = head-copied d h.0 v;
        shows =
            subst (λ (a : List ℕ). Shows x t' (force_source a u)) g (f.shows u (ap (λ (a : List ℕ). among a (sources_in u.collected)) g ∙ h.1) k);
      })
