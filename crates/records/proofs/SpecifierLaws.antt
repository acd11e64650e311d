-- The parts of an import as they stand in bytes: which is a specifier, and what is written of them. And what is read of a row that was read:
-- the field that stands first, and the fields behind it.
use Rattle.std.specs.Prelude.{Option, None, Some, is_some}
use Prim.Native.Nat.{ℕ, ◌+◌, ◌-◌, ◌≤◌}
use native.Mathlib.Omega.{arith}
use mathlib.Core.Path.{◌≡◌, refl, sym, ap, ap₂, subst, subst₂, ◌∙◌}
use mathlib.Core.Logic.{◌⊎◌, ⊎_elim, inl, inr}
use mathlib.Core.Bool.{Bool, true, false, not, cond}
use mathlib.Core.List.{List, [], ◌++◌}
use lib.Dec.{leb}
use lib.ListN.{length, get_or}
use lib.Seq.{slice}
use borrow.Author.Tests.{lt-leb, leb-true, leb-false, eq-eqb, ne_eqb, eqb-true, eqb-false}
use Rattle.tree.specs.Layout.{literal_at}
use Rattle.tree.specs.Tree.{Field, field, Fields, none, more, tag_of, encode, encodes}
use Rattle.tree.specs.Access.{fixed_at, extent_at}
use Rattle.tree.specs.Grammar.{parts0}
use Rattle.tree.specs.Read.{children_at}
use Rattle.tree.specs.Standing.{tree_at, row_on, row, row_at}
use Rattle.tree.specs.Rows.{GivesPart, tree_of, fields_of}
use Rattle.tree.specs.declared.row.Part.{Part}
use Rattle.tree.specs.declared.row.Row.{Row}
use Rattle.tree.proofs.FixedLaws.{no-upto, upto-inj}
use Rattle.tree.proofs.AccessLaws.{upto-in, extent-upto}
use Rattle.tree.proofs.ReadLaws.{good-fine, end-done}
use Rattle.tree.proofs.StandingLaws.{row-more, row-none, tree-upto, tree-short}
use Rattle.tree.proofs.PartLaws.{fields-more, fields-made, row-there, part_tag, part_fixed, part-tree}
use Rattle.tree.proofs.WidthLaws.{plain-ends}
use Rattle.tree.proofs.TreeLaws.{encodes-none, encodes-one}
use Rattle.tree.specs.declared.grammar.Value.TheVariants.{Literal}
use Rattle.metadata.specs.Metadata.{append}
use Rattle.metadata.proofs.EncodeLaws.{encodes-append}
use Rattle.inputs.specs.Fields.{has, keep, sole}
use Rattle.writer.specs.Wrote.{Wrote}
use Rattle.writer.proofs.Wrote.{wrote-none, wrote-then, wrote-as}
use Rattle.extraction_rules.specs.First.{specifiers_in}
use Rattle.extraction_rules.proofs.KeepLaws.{keep-append}
use Rattle.steps.specs.Step.{ReadAt}
use Rattle.steps.proofs.SoundLaws.{read-parts, read-bytes, row-read}
use Rattle.records.specs.Model.{is_namespace}
use Rattle.records.specs.Writes.{
  WroteIf,
  RowRead,
  FieldsRead,
  PartRead,
  RowOnward,
  sieve,
  specifier_of,
  is_none,
  FirstAt,
  FirstIs,
  ImportIs,
  item_on,
  item_at,
  ItemRead,
  FieldAt,
  ItemsFrom,
}

-- ---- Tags

pub tag-upto : (s : List ℕ) (at stop b : ℕ) → fixed_at s (get_or s at 0) (at + 3) stop ≡ Some b → get_or s at 0 ≡ tag_of (tree_at s at stop)
tag-upto s at stop b e = sym (ap tag_of (tree-upto s at stop b e))

pub tag-short : (s : List ℕ) (at stop : ℕ) → fixed_at s (get_or s at 0) (at + 3) stop ≡ None → 0 ≡ tag_of (tree_at s at stop)
tag-short s at stop e = sym (ap tag_of (tree-short s at stop e))

-- ---- Specifiers

specifiers-skip : (f : Field) (fs : Fields) → tag_of f ≡ 0x2F → specifiers_in (more f fs) ≡ specifiers_in fs
unfolding keep
specifiers-skip f fs h = ap (λ (b : Bool). cond (not b) (more f (specifiers_in fs)) (specifiers_in fs)) (eq-eqb (tag_of f) 0x2F h)

specifiers-take : (f : Field) (fs : Fields) → (tag_of f ≡ 0x2F → ⊥) → specifiers_in (more f fs) ≡ more f (specifiers_in fs)
unfolding keep
specifiers-take f fs h = ap (λ (b : Bool). cond (not b) (more f (specifiers_in fs)) (specifiers_in fs)) (ne_eqb (tag_of f) 0x2F h)

specifiers-end : specifiers_in none ≡ none
unfolding keep
specifiers-end = refl

module _ (s : List ℕ) (at end : ℕ) (le : at ≤ end) where
  -- what a test of the specifiers says where the row ends, and where its first field is a 2F
  pub row-ends : {A : Type 0} (p : Fields → A) → extent_at s at end ≡ None → p (specifiers_in (row_at s at end)) ≡ p none
  row-ends p e = ap (λ (fs : Fields). p (specifiers_in fs)) (row-none s at end le e) ∙ ap p specifiers-end

  pub row-skips : {A : Type 0} (p : Fields → A) (stop : ℕ) → extent_at s at end ≡ Some stop → tag_of (tree_at s at stop) ≡ 0x2F →
      p (specifiers_in (row_at s at end)) ≡ p (specifiers_in (row_at s stop end))
  row-skips p stop e h = ap (λ (fs : Fields). p (specifiers_in fs)) (row-more s at end stop le e) ∙ ap p (specifiers-skip (tree_at s at stop) (row_at s stop end) h)

  pub row-takes : {A : Type 0} (p : Fields → A) (stop : ℕ) → extent_at s at end ≡ Some stop → (tag_of (tree_at s at stop) ≡ 0x2F → ⊥) →
      p (specifiers_in (row_at s at end)) ≡ p (more (tree_at s at stop) (specifiers_in (row_at s stop end)))
  row-takes p stop e h = ap (λ (fs : Fields). p (specifiers_in fs)) (row-more s at end stop le e) ∙ ap p (specifiers-take (tree_at s at stop) (row_at s stop end) h)

-- the same of a row that gave a field: a 2F is none, another is the first specifier
module _ (r : Row) (p : Part) (r' : Row) (g : GivesPart r (Some p) r') where
  given : tree_of p ≡ tree_at r.bytes.now r.at p.stop
  given = ap₂ (λ (s : List ℕ) (n : ℕ). tree_at s n p.stop) g.5 g.1

  left-over : fields_of r' ≡ row_at r.bytes.now p.stop r.end
  left-over = fields-made r' (g.2, g.3, g.4)

  pub gives-skip : tag_of (tree_of p) ≡ 0x2F → specifiers_in (fields_of r) ≡ specifiers_in (fields_of r')
  gives-skip h =
      row-skips r.bytes.now r.at r.end r.inside.0 (λ fs. fs) p.stop g.0 (sym (ap tag_of given) ∙ h) ∙ ap specifiers_in (sym left-over)

  pub gives-first : (tag_of (tree_of p) ≡ 0x2F → ⊥) → specifiers_in (fields_of r) ≡ more (tree_of p) (specifiers_in (fields_of r'))
  gives-first h =
      row-takes r.bytes.now r.at r.end r.inside.0 (λ fs. fs) p.stop g.0 (λ e. h (ap tag_of given ∙ e))
      ∙ ap₂ (λ (f : Field) (fs : Fields). more f (specifiers_in fs)) (sym given) (sym left-over)

-- and of one that gave none
pub gives-none : (r r' : Row) → GivesPart r None r' → specifiers_in (fields_of r) ≡ none
gives-none r r' g = row-ends r.bytes.now r.at r.end r.inside.0 (λ fs. fs) g.0

pub namespace-then : (f : Field) (fs : Fields) → tag_of f ≡ 0x22 → is_none fs ≡ is_namespace (sole (more f fs))
unfolding sole
namespace-then f none h = sym (eq-eqb (tag_of f) 0x22 h)
namespace-then f (more g gs) h = refl

pub namespace-no : (f : Field) (fs : Fields) → (tag_of f ≡ 0x22 → ⊥) → false ≡ is_namespace (sole (more f fs))
unfolding sole
namespace-no f none h = sym (ne_eqb (tag_of f) 0x22 h)
namespace-no f (more g gs) h = refl

pub sole-none : is_namespace (sole none) ≡ false
unfolding sole
sole-none = refl

-- what the first specifier tells
pub first-none : (fs : Fields) (t : Option ℕ) (r : Row) (b : Bool) → FirstIs fs t r → is_some t ≡ not b → b ≡ is_none fs
first-none fs None r true h e = sym (ap is_none h)
first-none fs None r false h e = absurd (cc)
first-none fs (Some t) r true h e = absurd (cc)
first-none fs (Some t) r false h e = sym (ap is_none h.is)

module _ (fs : Fields) (r : Row) {tag : ℕ} (h : FirstAt fs tag r) where
  pub first-namespace : tag ≡ 0x22 → is_none (specifiers_in (fields_of r)) ≡ is_namespace (sole fs)
  first-namespace e = namespace-then h.first _ (sym h.tagged ∙ e) ∙ ap (λ (gs : Fields). is_namespace (sole gs)) (sym h.is)

  pub first-other : (tag ≡ 0x22 → ⊥) → false ≡ is_namespace (sole fs)
  first-other n = namespace-no h.first _ (λ e. n (h.tagged ∙ e)) ∙ ap (λ (gs : Fields). is_namespace (sole gs)) (sym h.is)

-- ---- The item at a place

pub item-is : (s : List ℕ) (at stop : ℕ) → extent_at s at (length s) ≡ Some stop → item_at s at ≡ tree_at s at stop
unfolding item_at item_on
item-is s at stop e = ap (λ (r : Option ℕ). item_on r s at) e

pub item-none : (s : List ℕ) (at : ℕ) → extent_at s at (length s) ≡ None → item_at s at ≡ field 0 [] none
unfolding item_at item_on
item-none s at e = ap (λ (r : Option ℕ). item_on r s at) e

pub item-read : {s : List ℕ} {at stop : ℕ} → extent_at s at (length s) ≡ Some stop → ReadAt s at stop → ItemRead s at
item-read {s = s} {at = at} e r = λ stop' e'. subst (ReadAt s at) (upto-inj (sym e ∙ e')) r

pub extent-past : (s : List ℕ) (at end : ℕ) → end ≤ at → extent_at s at end ≡ None
unfolding extent_at
extent-past s at end h = rw (lt-leb 3 (end - at) (omega arith)) refl

module _ {s : List ℕ} {at : ℕ} (p : Part) (g : FieldAt s at (Some p)) where
  pub item-field : tree_of p ≡ item_at s at
  item-field = ap₂ (λ (n : ℕ) (b : List ℕ). tree_at b n p.stop) g.1 g.2 ∙ sym (item-is s at p.stop g.0)

  -- what is written of a field by itself
  pub if-at : (f : Field → List ℕ) {l l' : List ℕ} {o q : ℕ} → WroteIf (PartRead p) (f (tree_of p)) l o l' q → WroteIf (ItemRead s at) (f (item_at s at)) l o l' q
  if-at f w =
      record {
        size = w.size;
        is = λ r. wrote-as (w.is (subst₂ (λ (n : ℕ) (b : List ℕ). ReadAt b n p.stop) (sym g.1) (sym g.2) (r p.stop g.0))) (ap f item-field);
      }

-- ---- An import

pub tag-import : (s : List ℕ) (at stop : ℕ) → tag_of (tree_at s at stop) ≡ 0x10 → get_or s at 0 ≡ 0x10
tag-import s at stop h = by (fixed_at s (get_or s at 0) (at + 3) stop) refl
  where
    by : (r : Option ℕ) → fixed_at s (get_or s at 0) (at + 3) stop ≡ r → get_or s at 0 ≡ 0x10
    by (Some b) e = tag-upto s at stop b e ∙ h
    by None e = absurd (let z : 0 ≡ 0x10 = tag-short s at stop e ∙ h in omega arith)

pub import-ends : (s : List ℕ) (at stop b : ℕ) → at + 3 ≤ stop → fixed_at s (get_or s at 0) (at + 3) stop ≡ Some b → get_or s at 0 ≡ 0x10 → (b ≡ at + 9) × (at + 9 ≤ stop)
import-ends s at stop b le e h =
    let i = upto-in s (get_or s at 0) (at + 3) stop le e in
    let j = plain-ends 0x10 Literal refl s (get_or s at 0) (at + 3) stop b h e in
    (omega arith, omega arith)

-- by places, and with the row of its parts
pub import-is : (s : List ℕ) (at stop : ℕ) → at ≤ length s → extent_at s at (length s) ≡ Some stop → tag_of (tree_at s at stop) ≡ 0x10 →
    (at + 9 ≤ stop) × (stop ≤ length s) × (item_at s at ≡ field 0x10 (literal_at s (at + 3)) (row_at s (at + 9) stop))
import-is s at stop le x h = by (fixed_at s (get_or s at 0) (at + 3) stop) refl
  where
    by : (r : Option ℕ) → fixed_at s (get_or s at 0) (at + 3) stop ≡ r →
        (at + 9 ≤ stop) × (stop ≤ length s) × (item_at s at ≡ field 0x10 (literal_at s (at + 3)) (row_at s (at + 9) stop))
    by (Some b) e =
        let i = extent-upto s at (length s) le x in
        let t = tag-import s at stop h in
        let j = import-ends s at stop b i.0 e t in
        let z : at + 9 ≡ at + 3 + 6 = omega arith in (
          j.1,
          i.1,
          item-is s at stop x ∙ tree-upto s at stop (at + 9) (e ∙ ap Some j.0)
              ∙ ap₂ (λ (n : ℕ) (y : List ℕ). field n y (row_at s (at + 9) stop)) t (ap (λ (k : ℕ). slice (at + 3) k s) z),
        )
    by None e = absurd (let z : 0 ≡ 0x10 = tag-short s at stop e ∙ h in omega arith)

-- ---- Rows that were read

-- by its places
read-row : {s : List ℕ} {from end : ℕ} (r : Row) → (r.bytes.now ≡ s) × (r.at ≡ from) × (r.end ≡ end) → RowRead s from end → FieldsRead r
read-row r m w = row-there r m RowRead w

-- a row that ends before it starts, or there
pub row-past : (s : List ℕ) (at end : ℕ) → end ≤ at → row_at s at end ≡ none
unfolding row_at row row_on extent_at
row-past s at end h = rw (lt-leb 3 (end - at) (omega arith)) refl

none-read : (s : List ℕ) (end : ℕ) → RowRead s end end
none-read s end = let g = good-fine (children_at s end end 0 parts0 0) (end-done s end end 0 parts0 0 refl refl) in (parts0, (0, 0, g.0, g.1))

-- the items from a place on: where the place is inside, and where it is past the end
module _ (s : List ℕ) (at : ℕ) (r : Row) (i : ItemsFrom s at r) where
  from-at : {n : ℕ} → r.at ≡ n → fields_of r ≡ row_at s n (length s)
  from-at a = fields-made r (i.0, a, i.2)

  extent-from : {n : ℕ} → r.at ≡ n → extent_at r.bytes.now r.at r.end ≡ extent_at s n (length s)
  extent-from {n} a = ap₂ (λ (x : List ℕ) (j : ℕ). extent_at x j r.end) i.0 a ∙ ap (extent_at s n) i.2

  inside-or-past : (r.at ≡ at) ⊎ ((r.at ≡ length s) × (length s ≤ at))
  inside-or-past = by (leb at (length s)) refl
    where
      by : (c : Bool) → leb at (length s) ≡ c → (r.at ≡ at) ⊎ ((r.at ≡ length s) × (length s ≤ at))
      by true h = let k = leb-true at (length s) h in let m = i.1 in inl (omega arith)
      by false h = let k = leb-false at (length s) h in let m = i.1 in inr (omega arith, omega arith)

  pub items-are : fields_of r ≡ row_at s at (length s)
  items-are =
      ⊎_elim (λ a. from-at a) (λ a. from-at a.0 ∙ row-past s (length s) (length s) (omega arith) ∙ sym (row-past s at (length s) a.1)) inside-or-past

  pub items-read : RowRead s at (length s) → FieldsRead r
  items-read w =
      ⊎_elim (λ a. read-row r (i.0, a, i.2) w) (λ a. read-row r (i.0, a.0, i.2) (none-read s (length s))) inside-or-past

  pub first-field : (q : Option Part) (r' : Row) → GivesPart r q r' → FieldAt s at q
  first-field None r' g = ⊎_elim (λ a. sym (extent-from a) ∙ g.0) (λ a. extent-past s at (length s) a.1) inside-or-past
  first-field (Some p) r' g =
      ⊎_elim (λ a. (sym (extent-from a) ∙ g.0, g.1 ∙ a, g.5 ∙ i.0))
      (λ a. absurd (no-upto (sym (extent-past s (length s) (length s) (omega arith)) ∙ sym (extent-from a.0) ∙ g.0))) inside-or-past

module _ (p : Part) where
  -- its parts are read with it
  pub parts-read : {b : ℕ} (r : Row) → part_fixed p ≡ Some b → (r.bytes.now ≡ p.bytes.now) × (r.at ≡ b) × (r.end ≡ p.stop) → PartRead p → FieldsRead r
  parts-read r e m w = read-row r m (_, read-parts w e)

  pub import-short : part_fixed p ≡ None → tag_of (tree_of p) ≡ 0x10 → ⊥
  import-short e h = let z : 0 ≡ tag_of (tree_of p) = tag-short p.bytes.now p.at p.stop e in omega arith

  pub import-other : {b : ℕ} → part_fixed p ≡ Some b → (part_tag p ≡ 0x10 → ⊥) → tag_of (tree_of p) ≡ 0x10 → ⊥
  import-other {b} e n h = n (tag-upto p.bytes.now p.at p.stop b e ∙ h)

  pub import-here : {b : ℕ} (r : Row) → part_fixed p ≡ Some b → part_tag p ≡ 0x10 → (r.bytes.now ≡ p.bytes.now) × (r.at ≡ b) × (r.end ≡ p.stop) → ImportIs p r
  import-here {b} r e t m =
      let j = import-ends p.bytes.now p.at p.stop b p.whole.0 e t in
      let z : b ≡ p.at + 3 + 6 = omega arith in
      record {
        inside = j.1;
        item = part-tree p r e m ∙ ap₂ (λ (n : ℕ) (y : List ℕ). field n y (fields_of r)) t (ap (λ (k : ℕ). slice (p.at + 3) k p.bytes.now) z);
        read = parts-read r e m;
      }

-- ---- With namespaces or without

pub sieve-none : (b : Bool) → sieve b none ≡ none
unfolding sieve keep
sieve-none true = refl
sieve-none false = refl

pub sieve-append : (b : Bool) (fs gs : Fields) → sieve b (append fs gs) ≡ append (sieve b fs) (sieve b gs)
unfolding sieve
sieve-append true fs gs = refl
sieve-append false fs gs = keep-append (λ f. not (has 0x22 f)) fs gs

-- one part, then the others
specifiers-more : (b : Bool) (f : Field) (fs : Fields) → sieve b (specifiers_in (more f fs)) ≡ append (specifier_of b f) (sieve b (specifiers_in fs))
unfolding specifier_of append
specifiers-more b f fs = by (has 0x2F f) refl
  where
    by : (c : Bool) → has 0x2F f ≡ c → sieve b (specifiers_in (more f fs)) ≡ append (cond c none (sieve b (more f none))) (sieve b (specifiers_in fs))
    by true q = ap (sieve b) (specifiers-skip f fs (eqb-true (tag_of f) 0x2F q))
    by false q = ap (sieve b) (specifiers-take f fs (eqb-false (tag_of f) 0x2F q)) ∙ sieve-append b (more f none) (specifiers_in fs)

pub bytes-none : (b : Bool) (r r' : Row) → GivesPart r None r' → encodes (sieve b (specifiers_in (fields_of r))) ≡ []
unfolding encodes
bytes-none b r r' g = ap (λ (fs : Fields). encodes (sieve b fs)) (gives-none r r' g) ∙ ap encodes (sieve-none b)

pub bytes-more : (b : Bool) (r : Row) (p : Part) (r' : Row) → GivesPart r (Some p) r' →
    encodes (sieve b (specifiers_in (fields_of r))) ≡ encodes (specifier_of b (tree_of p)) ++ encodes (sieve b (specifiers_in (fields_of r')))
bytes-more b r p r' g =
    ap (λ (fs : Fields). encodes (sieve b (specifiers_in fs))) (fields-more r p r' g) ∙ ap encodes (specifiers-more b (tree_of p) (fields_of r'))
    ∙ encodes-append (specifier_of b (tree_of p)) (sieve b (specifiers_in (fields_of r')))

-- ---- One part

-- nothing is written
pub if-none : {P : Type 0} {bs l : List ℕ} {o : ℕ} → bs ≡ [] → WroteIf P bs l o l o
if-none e = record { size = refl; is = λ _. wrote-as wrote-none (sym e) }

module _ (b : Bool) (f : Field) where
  pub part-attributes : tag_of f ≡ 0x2F → encodes (specifier_of b f) ≡ []
  unfolding specifier_of
  part-attributes h = ap (λ (c : Bool). encodes (cond c none (sieve b (more f none)))) (eq-eqb (tag_of f) 0x2F h) ∙ encodes-none

  part-other : (tag_of f ≡ 0x2F → ⊥) → specifier_of b f ≡ sieve b (more f none)
  unfolding specifier_of
  part-other h = ap (λ (c : Bool). cond c none (sieve b (more f none))) (ne_eqb (tag_of f) 0x2F h)

  pub part-namespace : (tag_of f ≡ 0x2F → ⊥) → b ≡ false → tag_of f ≡ 0x22 → encodes (specifier_of b f) ≡ []
  unfolding sieve keep
  part-namespace h q k =
      ap encodes (part-other h ∙ ap (λ (c : Bool). sieve c (more f none)) q ∙ ap (λ (c : Bool). cond (not c) (more f none) none) (eq-eqb (tag_of f) 0x22 k)) ∙ encodes-none

  pub part-any : (tag_of f ≡ 0x2F → ⊥) → b ≡ true → encode f ≡ encodes (specifier_of b f)
  unfolding sieve
  part-any h q = sym (encodes-one f) ∙ ap encodes (sym (part-other h ∙ ap (λ (c : Bool). sieve c (more f none)) q))

  pub part-named : (tag_of f ≡ 0x2F → ⊥) → b ≡ false → (tag_of f ≡ 0x22 → ⊥) → encode f ≡ encodes (specifier_of b f)
  unfolding sieve keep
  part-named h q k =
      sym (encodes-one f) ∙ ap encodes (sym (part-other h ∙ ap (λ (c : Bool). sieve c (more f none)) q ∙ ap (λ (c : Bool). cond (not c) (more f none) none) (ne_eqb (tag_of f) 0x22 k)))

  pub part-kept : (tag_of f ≡ 0x2F → ⊥) → (b ≡ false → tag_of f ≡ 0x22 → ⊥) → encode f ≡ encodes (specifier_of b f)
  part-kept h k = by b refl
    where
      by : (c : Bool) → b ≡ c → encode f ≡ encodes (specifier_of b f)
      by true q = part-any h q
      by false q = part-named h q (k q)

-- a part that was read is copied
pub if-copied : (p : Part) {bs l l' : List ℕ} {o q : ℕ} → encode (tree_of p) ≡ bs → Wrote l o (slice p.at p.stop p.bytes.now) l' q → WroteIf (PartRead p) bs l o l' q
if-copied p e w = record { size = w.size; is = λ r. wrote-as w (sym (read-bytes r p.of_bytes) ∙ e) }

-- ---- A walk over a row that was read

-- with all of the row left, all is written
pub row-start : {r : Row} {bs l : List ℕ} {o : ℕ} → RowOnward (FieldsRead r) r bs bs l o l o
row-start = record { size = refl; read = λ h. h; is = λ h w. w }

gives-read : (r : Row) (p : Part) (r' : Row) → GivesPart r (Some p) r' → FieldsRead r → PartRead p × FieldsRead r'
gives-read r p r' g w =
    let f = row-read w.0 r.inside.0 r.inside.1 w.1 g.0 in (
      subst₂ (λ (s : List ℕ) (n : ℕ). ReadAt s n p.stop) (sym g.5) (sym g.1) f.0,
      read-row r' (g.2, g.3, g.4) (f.1.0, f.1.2),
    )

pub row-step : {P : Type 0} {bs cs ds es l l' l'' : List ℕ} {o q q' : ℕ} (r : Row) (p : Part) (r' : Row) → GivesPart r (Some p) r' →
    RowOnward P r bs cs l o l' q → cs ≡ ds ++ es → WroteIf (PartRead p) ds l' q l'' q' → RowOnward P r' bs es l o l'' q'
row-step r p r' g i k w =
    record {
      size = w.size ∙ i.size;
      read = λ h. (gives-read r p r' g (i.read h)).1;
      is = λ h v. i.is h (wrote-as (wrote-then (w.is (gives-read r p r' g (i.read h)).0) v) (sym k));
    }

pub row-stop : {P : Type 0} {r : Row} {bs cs l l' : List ℕ} {o q : ℕ} → RowOnward P r bs cs l o l' q → cs ≡ [] → WroteIf P bs l o l' q
row-stop i e = record { size = i.size; is = λ h. i.is h (wrote-as wrote-none (sym e)) }
