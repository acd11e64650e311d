-- What a turn of a walk over a row knows: the field that it gave stands first in the row, and what is left stands behind it.
use Rattle.std.specs.Prelude.{Option, None, Some}
use Prim.Native.Nat.{ℕ, ◌+◌, ◌≤◌}
use mathlib.Core.Path.{◌≡◌, refl, sym, ap, ap₂, subst, subst₂, ◌∙◌}
use mathlib.Core.List.{List, []}
use lib.ListN.{get_or}
use lib.Seq.{slice}
use Rattle.tree.specs.Tree.{field, none, more}
use Rattle.tree.specs.Access.{fixed_at, extent_at}
use Rattle.tree.specs.Standing.{tree_at, row_at}
use Rattle.tree.specs.Rows.{GivesPart, tree_of, fields_of}
use Rattle.tree.specs.declared.row.Part.{Part}
use Rattle.tree.specs.declared.row.Row.{Row}
use Rattle.tree.proofs.AccessLaws.{extent-upto}
use Rattle.tree.proofs.StandingLaws.{row-more, row-none, tree-upto, tree-short}

-- a row of the bytes s up to end, of which the fields from a place on are left
pub record Left (s : List ℕ) (end : ℕ) (r : Row) (at : ℕ) : Type 0 where
  pub bytes : r.bytes.now ≡ s
  pub end_is : r.end ≡ end
  pub at_is : r.at ≡ at

pub left-start : {s : List ℕ} {from end : ℕ} (r : Row) → (r.bytes.now ≡ s) × (r.at ≡ from) × (r.end ≡ end) → Left s end r from
left-start r h = record { bytes = h.0; end_is = h.2; at_is = h.1 }

-- the row that a walk starts with is the one that was made
pub left-made : {s : List ℕ} {from end : ℕ} {r made : Row} → r ≡ made → (made.bytes.now ≡ s) × (made.at ≡ from) × (made.end ≡ end) → Left s end r r.at × (r.at ≡ from)
left-made {s} {from} {end} {r} {made} e h =
    subst (λ (x : Row). Left s end x x.at × (x.at ≡ from)) (sym e) (record { bytes = h.0; end_is = h.2; at_is = refl }, h.1)

module _ {s : List ℕ} {end at : ℕ} {r : Row} (l : Left s end r at) where
  -- where it stands is inside the row
  pub part-inside : at ≤ end
  part-inside = subst (λ (e : ℕ). at ≤ e) l.end_is (subst (λ (a : ℕ). a ≤ r.end) l.at_is r.inside.0)

  extent-left : extent_at s at end ≡ extent_at r.bytes.now r.at r.end
  extent-left =
      sym (ap₂ (λ (b : List ℕ) (e : ℕ). extent_at b at e) l.bytes l.end_is) ∙ sym (ap (λ (a : ℕ). extent_at r.bytes.now a r.end) l.at_is)

  -- the field that it gave, and what is left
  pub part-at : (r' : Row) (p : Part) → GivesPart r (Some p) r' → p.at ≡ at
  part-at r' p g = g.1 ∙ l.at_is

  pub part-extent : (r' : Row) (p : Part) → GivesPart r (Some p) r' → extent_at s at end ≡ Some p.stop
  part-extent r' p g = extent-left ∙ g.0

  pub part-left : (r' : Row) (p : Part) → GivesPart r (Some p) r' → Left s end r' p.stop
  part-left r' p g = record { bytes = g.2 ∙ l.bytes; end_is = g.4 ∙ l.end_is; at_is = g.3 }

  -- by where the row then stands
  pub part-next : (r' : Row) (p : Part) → GivesPart r (Some p) r' → extent_at s at end ≡ Some r'.at
  part-next r' p g = part-extent r' p g ∙ ap Some (sym g.3)

  pub part-bytes : (r' : Row) (p : Part) → GivesPart r (Some p) r' → p.bytes.now ≡ s
  part-bytes r' p g = g.5 ∙ l.bytes

  pub part-is : (r' : Row) (p : Part) → GivesPart r (Some p) r' → tree_of p ≡ tree_at s at p.stop
  part-is r' p g = ap₂ (λ (b : List ℕ) (n : ℕ). tree_at b n p.stop) (g.5 ∙ l.bytes) (g.1 ∙ l.at_is)

  pub row-is : fields_of r ≡ row_at s at end
  row-is = ap₂ (λ (b : List ℕ) (n : ℕ). row_at b n r.end) l.bytes l.at_is ∙ ap (row_at s at) l.end_is

  -- or there was none
  pub part-none : (r' : Row) → GivesPart r None r' → extent_at s at end ≡ None
  part-none r' g = extent-left ∙ g.0

-- what is left goes on where it then stands
pub left-on : {s : List ℕ} {end at : ℕ} {r r' : Row} → Left s end r at → r'.bytes.now ≡ r.bytes.now → r'.end ≡ r.end → Left s end r' r'.at
left-on l b e = record { bytes = b ∙ l.bytes; end_is = e ∙ l.end_is; at_is = refl }

-- all that a turn knows: where the row stood, the field p that it gave, and where it goes on as r'
pub record Turn (s : List ℕ) (end : ℕ) (r : Row) (p : Part) (r' : Row) : Type 0 where
  pub here : r.at ≡ p.at
  pub inside : p.at ≤ end
  pub extent : extent_at s p.at end ≡ Some p.stop
  pub upto : (p.at + 3 ≤ p.stop) × (p.stop ≤ end)
  pub next : r'.at ≡ p.stop
  pub left : Left s end r' r'.at

pub turn : {s : List ℕ} {end : ℕ} {r : Row} (p : Part) (r' : Row) → Left s end r r.at → GivesPart r (Some p) r' → Turn s end r p r'
turn {s = s} {end = end} p r' l g =
    let h = sym (part-at l r' p g) in
    let i = subst (λ (a : ℕ). a ≤ end) h (part-inside l) in
    let x = subst (λ (a : ℕ). extent_at s a end ≡ Some p.stop) h (part-extent l r' p g) in
    record { here = h; inside = i; extent = x; upto = extent-upto s p.at end i x; next = g.3; left = left-on l g.2 g.4 }

-- ---- As the rules have them

pub fields-none : (r r' : Row) → GivesPart r None r' → fields_of r ≡ none
fields-none r r' g = row-none r.bytes.now r.at r.end r.inside.0 g.0

-- the field that was given is the first, and what is left are the others
pub fields-more : (r : Row) (p : Part) (r' : Row) → GivesPart r (Some p) r' → fields_of r ≡ more (tree_of p) (fields_of r')
fields-more r p r' g =
    row-more r.bytes.now r.at r.end p.stop r.inside.0 g.0
    ∙ ap₂ more (ap₂ (λ (s : List ℕ) (n : ℕ). tree_at s n p.stop) (sym g.5) (sym g.1))
    (ap₂ (λ (s : List ℕ) (n : ℕ). row_at s n r.end) (sym g.2) (sym g.3) ∙ ap (row_at r'.bytes.now r'.at) (sym g.4))

-- those of a row that was made, and of two rows of the same bytes between the same places
pub fields-made : (r : Row) {s : List ℕ} {n e : ℕ} → (r.bytes.now ≡ s) × (r.at ≡ n) × (r.end ≡ e) → fields_of r ≡ row_at s n e
fields-made r {s} {n} m = ap₂ (λ (b : List ℕ) (k : ℕ). row_at b k r.end) m.0 m.1 ∙ ap (row_at s n) m.2

pub fields-same : (r q : Row) {s : List ℕ} {n e : ℕ} → (r.bytes.now ≡ s) × (r.at ≡ n) × (r.end ≡ e) → (q.bytes.now ≡ s) × (q.at ≡ n) × (q.end ≡ e) →
    fields_of r ≡ fields_of q
fields-same r q h k = fields-made r h ∙ sym (fields-made q k)

-- ---- What holds of bytes and places holds of a row made of them, of the row that a walk over it starts with, and of a field that it gave

pub row-there : (r : Row) {s : List ℕ} {n e : ℕ} → (r.bytes.now ≡ s) × (r.at ≡ n) × (r.end ≡ e) → (P : List ℕ → ℕ → ℕ → Type 0) → P s n e →
    P r.bytes.now r.at r.end
row-there r {s} {n} {e} m P x =
    subst₂ (λ (a : List ℕ) (b : ℕ). P a r.at b) (sym m.0) (sym m.2) (subst (λ (k : ℕ). P s k e) (sym m.1) x)

pub walk-there : (r made : Row) {s : List ℕ} {n e : ℕ} → r ≡ made → (made.bytes.now ≡ s) × (made.at ≡ n) × (made.end ≡ e) → (P : List ℕ → ℕ → ℕ → Type 0) →
    P s n e → P r.bytes.now r.at r.end
walk-there r made q m P x = subst (λ (w : Row). P w.bytes.now w.at w.end) (sym q) (row-there made m P x)

pub part-there : (r : Row) (p : Part) (r' : Row) → GivesPart r (Some p) r' → (P : List ℕ → ℕ → ℕ → Type 0) → P r.bytes.now r.at p.stop → P p.bytes.now p.at p.stop
part-there r p r' g P x = subst₂ (λ (s : List ℕ) (n : ℕ). P s n p.stop) (sym g.5) (sym g.1) x

module _ (p : Part) where
  abbrev pub part_tag : ℕ
  part_tag = get_or p.bytes.now p.at 0

  abbrev pub part_fixed : Option ℕ
  part_fixed = fixed_at p.bytes.now part_tag (p.at + 3) p.stop

  pub part-short : part_fixed ≡ None → tree_of p ≡ field 0 [] none
  part-short e = tree-short p.bytes.now p.at p.stop e

  -- its parts are the row that starts behind its fixed bytes
  pub part-tree : {b : ℕ} (r : Row) → part_fixed ≡ Some b → (r.bytes.now ≡ p.bytes.now) × (r.at ≡ b) × (r.end ≡ p.stop) →
      tree_of p ≡ field part_tag (slice (p.at + 3) b p.bytes.now) (fields_of r)
  part-tree {b} r e m =
      tree-upto p.bytes.now p.at p.stop b e
      ∙ ap (field part_tag (slice (p.at + 3) b p.bytes.now))
      (ap₂ (λ (s : List ℕ) (n : ℕ). row_at s n p.stop) (sym m.0) (sym m.1) ∙ ap (row_at r.bytes.now r.at) (sym m.2))
