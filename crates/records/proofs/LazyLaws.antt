-- Lazy records and forced sources, one by one as they are written.
use Rattle.std.specs.Prelude.{Option, None, Some}
use Prim.Native.Nat.{ℕ, ◌+◌, ◌-◌, ◌/◌, ◌%◌, ◌≤◌, ◌<◌}
use native.Mathlib.Omega.{arith}
use mathlib.Core.Path.{◌≡◌, refl, sym, ap, ap₂, subst₂, ◌∙◌}
use mathlib.Core.Bool.{Bool, true, false, cond}
use mathlib.Core.List.{List, [], ◌∷◌, ◌++◌}
use lib.Dec.{leb, ltb}
use lib.ListN.{length, drop}
use borrow.Author.Tests.{le-leb, lt-leb, eq-eqb, ne_eqb, lt-ltb, le-ltb}
use Rattle.tree.specs.Layout.{two}
use Rattle.tree.specs.Tree.{Field, field, none, framed as framed_field, encode, encodes}
use Rattle.tree.specs.Access.{extent_at}
use Rattle.tree.specs.Standing.{tree_at}
use Rattle.tree.specs.Rows.{tree_of}
use Rattle.tree.specs.declared.row.Part.{Part}
use Rattle.writer.specs.Bytes.{two_bytes, framed}
use Rattle.writer.specs.Wrote.{Wrote}
use Rattle.writer.proofs.Wrote.{wrote-none, wrote-as}
use Rattle.extraction_rules.specs.State.{Record, State}
use Rattle.extraction_rules.specs.First.{bindings}
use Rattle.extraction_rules.specs.Records.{record_fields, forced_fields}
use Rattle.state.specs.Cells.{Env, literal_by, Shows}
use Rattle.state.specs.declared.Literal.{Literal}
use Rattle.state.specs.Does.{Holds}
use Rattle.records.specs.Writes.{FieldAt, pattern_on, pattern_at, placed, literal_in, Placing}

-- ---- The pattern at a place

module _ (s : List ℕ) (at : ℕ) where
  pub pattern-past : {l : List ℕ} {o : ℕ} → length s < at → Wrote l o (encodes (pattern_at s at)) l o
  unfolding pattern_at encodes
  pattern-past h = wrote-as wrote-none (sym (ap (λ (b : Bool). encodes (cond b (pattern_on (extent_at s at (length s)) s at) none)) (lt-leb at (length s) h)))

  here : at ≤ length s → (r : Option ℕ) → extent_at s at (length s) ≡ r → pattern_at s at ≡ pattern_on r s at
  unfolding pattern_at
  here h r e = ap (λ (b : Bool). cond b (pattern_on (extent_at s at (length s)) s at) none) (le-leb at (length s) h) ∙ ap (λ (k : Option ℕ). pattern_on k s at) e

  pub pattern-none : {l : List ℕ} {o : ℕ} → extent_at s at (length s) ≡ None → Wrote l o (encodes (pattern_at s at)) l o
  unfolding pattern_at pattern_on encodes
  pattern-none e =
      wrote-as wrote-none (sym (ap (λ (k : Option ℕ). encodes (cond (leb at (length s)) (pattern_on k s at) none)) e ∙ by (leb at (length s))))
    where
      by : (b : Bool) → encodes (cond b (pattern_on None s at) none) ≡ []
      by true = refl
      by false = refl

  pub pattern-here : (p : Part) {l l' : List ℕ} {o q : ℕ} → FieldAt s at (Some p) → Wrote l o (encodes (bindings (tree_of p))) l' q →
      Wrote l o (encodes (pattern_at s at)) l' q
  unfolding pattern_on
  pattern-here p g w =
      let i = subst₂ (λ (n : ℕ) (b : List ℕ). (n + 3 ≤ p.stop) × (p.stop ≤ length b)) g.1 g.2 p.whole in
      wrote-as w
      (ap₂ (λ (n : ℕ) (b : List ℕ). encodes (bindings (tree_at b n p.stop))) g.1 g.2 ∙ sym (ap encodes (here (omega arith) (Some p.stop) g.0)))

module _ (tree work : List ℕ) (q : ℕ) where
  pub placed-none : {l : List ℕ} {o : ℕ} → q ≡ 0 → Wrote l o (encodes (placed tree work q)) l o
  unfolding placed encodes
  placed-none e = wrote-as wrote-none (sym (ap (λ (b : Bool). encodes (cond b none (cond (ltb q 65536) (pattern_at tree q) (pattern_at work (q - 65536))))) (eq-eqb q 0 e)))

  behind : (q ≡ 0 → ⊥) → placed tree work q ≡ cond (ltb q 65536) (pattern_at tree q) (pattern_at work (q - 65536))
  unfolding placed
  behind n = ap (λ (b : Bool). cond b none (cond (ltb q 65536) (pattern_at tree q) (pattern_at work (q - 65536)))) (ne_eqb q 0 n)

  pub placed-tree : (q ≡ 0 → ⊥) → q < 65536 → placed tree work q ≡ pattern_at tree q
  placed-tree n h = behind n ∙ ap (λ (b : Bool). cond b (pattern_at tree q) (pattern_at work (q - 65536))) (lt-ltb q 65536 h)

  pub placed-work : (q ≡ 0 → ⊥) → 65536 ≤ q → placed tree work q ≡ pattern_at work (q - 65536)
  placed-work n h = behind n ∙ ap (λ (b : Bool). cond b (pattern_at tree q) (pattern_at work (q - 65536))) (le-ltb q 65536 h)

-- ---- One entry more

pub cons-inj : {A : Type 0} {a b : A} {k m : List A} → a ∷ k ≡ b ∷ m → a ≡ b
cons-inj e = cc

pub lazy-more : (tree work : List ℕ) (lit : Literal) (place : ℕ) {t : List ℕ} {i : ℕ} → Holds (λ s. s.lazy) (λ q. q.literal) i t (λ x. literal_by x lit) →
    Holds (λ s. s.lazy) (λ q. q.specifiers) i t (λ x. x.bound place) → (x : Env) (s : State) → Shows x t s → Placing tree work x →
    encodes (record_fields 0x81 (drop i s.lazy)) ≡ encode (field 0x81 (literal_in tree work lit.place) (placed tree work place)) ++
    encodes (record_fields 0x81 (drop (i + 1) s.lazy))
unfolding record_fields encodes
lazy-more tree work lit place {i = i} g h x s w k =
    let a = g.is s w in
    let c = h.is s w in
    let same : c.0 ≡ a.0 = cons-inj (sym c.2 ∙ a.2) in
    ap (λ (l : List Record). encodes (record_fields 0x81 l)) a.2
    ∙ ap (λ (f : Field). encode f ++ encodes (record_fields 0x81 (drop (i + 1) s.lazy)))
    (ap₂ (field 0x81) (a.1 ∙ k.literals_placed lit.place) (ap (λ (r : Record). r.specifiers) (sym same) ∙ c.1 ∙ k.bindings_placed place))

pub record-none : (k : ℕ) (l : List Record) → l ≡ [] → encodes (record_fields k l) ≡ []
unfolding record_fields encodes
record-none k l e = ap (λ (m : List Record). encodes (record_fields k m)) e

pub forced-none : (l : List (List ℕ)) → l ≡ [] → encodes (forced_fields l) ≡ []
unfolding forced_fields encodes
forced-none l e = ap (λ (m : List (List ℕ)). encodes (forced_fields m)) e

pub forced-more : (a : ℕ) {t : List ℕ} {i : ℕ} → Holds (λ s. s.forced) (λ a. a) i t (λ _. two a) → (x : Env) (s : State) → Shows x t s →
    encodes (forced_fields (drop i s.forced)) ≡ encode (field 0x83 (two a) none) ++ encodes (forced_fields (drop (i + 1) s.forced))
unfolding forced_fields encodes
forced-more n {i = i} g x s w =
    let a = g.is s w in
    ap (λ (l : List (List ℕ)). encodes (forced_fields l)) a.2 ∙ ap (λ (x : List ℕ). encode (field 0x83 x none) ++ encodes (forced_fields (drop (i + 1) s.forced))) a.1

-- the bytes of a forced source
pub forced-field : (a : ℕ) → a < 65536 → framed 0x83 (two_bytes a) ≡ encode (field 0x83 (two a) none)
unfolding framed_field encode framed
forced-field a h = let e : a / 256 % 256 ≡ a / 256 = omega arith in rw e refl
