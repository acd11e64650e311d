-- Items of two trees side by side: what a pass makes of them, one by one, with one item at a place that has a relation of its own. What is
-- dropped is dropped on both sides.
use Prim.Native.Nat.{ℕ, zero, suc}
use mathlib.Core.Path.{◌≡◌, refl, sym, subst}
use mathlib.Core.Bool.{Bool, true, false, cond, true≢false}
use Rattle.tree.specs.Tree.{Field, Fields, none, more}
use Rattle.inputs.specs.Fields.{keep}
use Rattle.extraction_rules.specs.First.{stays}
use Rattle.placement.proofs.DroppedLaws.{place_kept}

abbrev pub PairedAll : (Field → Field → Type 0) → Fields → Fields → Type 0
PairedAll Q none gs = gs ≡ none
PairedAll Q (more f fs) gs = (g : Field) × (hs : Fields) × (gs ≡ more g hs) × Q f g × PairedAll Q fs hs

-- P at the place k, Q elsewhere
abbrev pub Paired : (Field → Field → Type 0) → (Field → Field → Type 0) → ℕ → Fields → Fields → Type 0
Paired P Q k none gs = ⊥
Paired P Q zero (more f fs) gs = (g : Field) × (hs : Fields) × (gs ≡ more g hs) × P f g × PairedAll Q fs hs
Paired P Q (suc k) (more f fs) gs = (g : Field) × (hs : Fields) × (gs ≡ more g hs) × Q f g × Paired P Q k fs hs

paired_all-keep : (Q : Field → Field → Type 0) → ((f g : Field) → Q f g → stays g ≡ stays f) → (fs gs : Fields) → PairedAll Q fs gs → PairedAll Q (keep stays fs) (keep stays gs)
unfolding keep
paired_all-keep Q j none gs h = rw h
paired_all-keep Q j (more f fs) gs h =
    subst (λ (l : Fields). PairedAll Q (keep stays (more f fs)) (keep stays l)) (sym h.2) (go (stays f) (stays h.0) (j f h.0 h.3) (paired_all-keep Q j fs h.1 h.4))
  where
    go : (b c : Bool) → c ≡ b → PairedAll Q (keep stays fs) (keep stays h.1) →
        PairedAll Q (cond b (more f (keep stays fs)) (keep stays fs)) (cond c (more h.0 (keep stays h.1)) (keep stays h.1))
    go true true q k = (h.0, keep stays h.1, refl, h.3, k)
    go true false q k = absurd (true≢false (sym q))
    go false true q k = absurd (true≢false q)
    go false false q k = k

pub paired-keep : (P Q : Field → Field → Type 0) → ((f g : Field) → P f g → (stays f ≡ true) × (stays g ≡ true)) → ((f g : Field) → Q f g → stays g ≡ stays f) →
    (k : ℕ) (fs gs : Fields) → Paired P Q k fs gs → Paired P Q (place_kept k fs) (keep stays fs) (keep stays gs)
unfolding keep place_kept
paired-keep P Q p j k none gs h = absurd h
paired-keep P Q p j zero (more f fs) gs h =
    subst (λ (l : Fields). Paired P Q (place_kept zero (more f fs)) (keep stays (more f fs)) (keep stays l)) (sym h.2)
    (rw ((p f h.0 h.3).0, (p f h.0 h.3).1) (h.0, keep stays h.1, refl, h.3, paired_all-keep Q j fs h.1 h.4))
paired-keep P Q p j (suc k) (more f fs) gs h =
    subst (λ (l : Fields). Paired P Q (place_kept (suc k) (more f fs)) (keep stays (more f fs)) (keep stays l)) (sym h.2)
    (go (stays f) (stays h.0) (j f h.0 h.3) (paired-keep P Q p j k fs h.1 h.4))
  where
    go : (b c : Bool) → c ≡ b → Paired P Q (place_kept k fs) (keep stays fs) (keep stays h.1) →
        Paired P Q (cond b (suc (place_kept k fs)) (place_kept k fs)) (cond b (more f (keep stays fs)) (keep stays fs)) (cond c (more h.0 (keep stays h.1)) (keep stays h.1))
    go true true q w = (h.0, keep stays h.1, refl, h.3, w)
    go true false q w = absurd (true≢false (sym q))
    go false true q w = absurd (true≢false q)
    go false false q w = w
