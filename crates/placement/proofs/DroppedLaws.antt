-- Items that are dropped at the end of a pass hold no id: what stays has all ways to stand. An empty 41, or a 40, has neither parts nor an
-- id of its own.
use Rattle.std.specs.Prelude.{Some}
use Prim.Native.Nat.{ℕ, zero, suc}
use mathlib.Core.Path.{◌≡◌, refl, sym, ap, ◌∙◌}
use mathlib.Core.Logic.{◌⊎◌, inl, inr}
use mathlib.Core.Bool.{Bool, true, false, not, cond, ◌||◌, true≢false}
use mathlib.Core.List.{List, [], ◌++◌}
use native.Mathlib.Omega.{arith}
use lib.Dec.{eqb}
use borrow.Author.Tests.{eqb-true}
use Rattle.tree.specs.Tree.{Field, field, Fields, none, more, tag_of}
use Rattle.inputs.specs.Fields.{keep}
use Rattle.extraction_rules.specs.First.{stays}
use Rattle.extraction_rules.specs.Walk.{parts_for}
use Rattle.extraction_rules.proofs.AlikeLaws.{Regular}
use Rattle.extraction_rules.proofs.StayLaws.{import-stays}
use Rattle.extraction_rules.proofs.KeepLaws.{Each}
use Rattle.placement.specs.Stands.{How, ids_in}
use Rattle.placement.specs.Placed.{item_at}
use Rattle.placement.proofs.WaysLaws.{met, ways, ways_all}
use Rattle.placement.proofs.LocalsLaws.{each-keep}
use Rattle.placement.proofs.PlacedLaws.{Amid, Front}

-- ---- Dropped items hold no id

empty-ways : (t : ℕ) (x i : List ℕ) → t ≡ 0x40 → ways (field t x none) i false ≡ []
unfolding ways ids_in met parts_for
empty-ways t x i p = rw p

var-ways : (t : ℕ) (x i : List ℕ) → t ≡ 0x41 → ways (field t x none) i false ≡ []
unfolding ways ids_in met parts_for
var-ways t x i p = rw p

dropped : (f : Field) (i : List ℕ) → Regular f → stays f ≡ false → ways f i false ≡ []
unfolding stays
dropped (field t x none) i w q = go (eqb t 0x40) (eqb t 0x41) refl refl q
  where
    go : (a b : Bool) → eqb t 0x40 ≡ a → eqb t 0x41 ≡ b → not (a || b) ≡ false → ways (field t x none) i false ≡ []
    go true b p r q = empty-ways t x i (eqb-true t 0x40 p)
    go false true p r q = var-ways t x i (eqb-true t 0x41 r)
    go false false p r q = absurd (true≢false q)
dropped (field t x (more f fs)) i w q = go (eqb t 0x40) refl q
  where
    go : (a : Bool) → eqb t 0x40 ≡ a → not a ≡ false → ways (field t x (more f fs)) i false ≡ []
    go true p q = absurd (let e = w.0.empty_bare (eqb-true t 0x40 p) in let z : ◌≡◌ {A = ℕ} 0 1 = cc in omega arith)
    go false p q = absurd (true≢false q)

-- imports, and other items
abbrev pub Item : Field → Type 0
Item f = (tag_of f ≡ 0x10) ⊎ Regular f

item-dropped : (f : Field) (i : List ℕ) → Item f → stays f ≡ false → ways f i false ≡ []
item-dropped f i (inl t) q = absurd (true≢false (sym (import-stays f t) ∙ q))
item-dropped f i (inr w) q = dropped f i w q

pub keep-ways : (fs : Fields) (i : List ℕ) → Each Item fs → ways_all (keep stays fs) i false ≡ ways_all fs i false
unfolding keep ways
keep-ways none i w = refl
keep-ways (more f fs) i w = go (stays f) refl (keep-ways fs i w.1)
  where
    go : (b : Bool) → stays f ≡ b → ways_all (keep stays fs) i false ≡ ways_all fs i false →
        ways_all (cond b (more f (keep stays fs)) (keep stays fs)) i false ≡ ways f i false ++ ways_all fs i false
    go true q h = ap (λ (l : List How). ways f i false ++ l) h
    go false q h = h ∙ ap (λ (l : List How). l ++ ways_all fs i false) (sym (item-dropped f i w.0 q))

-- ---- The place among the items that stay

unfoldable pub place_kept : ℕ → Fields → ℕ
place_kept k none = 0
place_kept zero (more f fs) = 0
place_kept (suc k) (more f fs) = cond (stays f) (suc (place_kept k fs)) (place_kept k fs)

-- behind imports alone it is the same
pub place-front : (k : ℕ) (fs : Fields) (f : Field) → item_at k fs ≡ Some f → Front k fs → place_kept k fs ≡ k
unfolding place_kept
place-front k none f e h = absurd (let z : ◌≡◌ {A = ℕ} 0 1 = cc in omega arith)
place-front zero (more g fs) f e h = refl
place-front (suc k) (more g fs) f e h = rw (import-stays g h.0) (ap suc (place-front k fs f e h.1))

pub amid-keep : (P Q : Field → Type 0) (k : ℕ) (fs : Fields) → ((f : Field) → P f → stays f ≡ true) → Amid P Q k fs → Amid P Q (place_kept k fs) (keep stays fs)
unfolding place_kept keep
amid-keep P Q k none p h = absurd h
amid-keep P Q zero (more f fs) p h = rw (p f h.0) (h.0, each-keep Q stays fs h.1)
amid-keep P Q (suc k) (more f fs) p h = go (stays f) (amid-keep P Q k fs p h.1)
  where
    go : (b : Bool) → Amid P Q (place_kept k fs) (keep stays fs) → Amid P Q (cond b (suc (place_kept k fs)) (place_kept k fs)) (cond b (more f (keep stays fs)) (keep stays fs))
    go true w = (h.0, w)
    go false w = w
