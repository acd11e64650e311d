-- Detection over bytes: what the definitions say of the fields that stand at a place, and where the items of a module stand.
use Rattle.std.specs.Prelude.{Option, None, Some, Ok, Err}
use Rattle.std.specs.Option.{MatchOption}
use Prim.Native.Nat.{ℕ, ◌+◌, ◌*◌, ◌≤◌, ◌<◌}
use mathlib.Core.Path.{◌≡◌, refl, sym, ap, ap₂, subst, subst₂, ◌∙◌}
use mathlib.Core.Bool.{Bool, false, ◌||◌, cond}
use mathlib.Core.List.{List}
use native.Mathlib.Omega.{arith}
use lib.Dec.{eqb}
use lib.ListN.{length, get_or}
use lib.Seq.{slice}
use borrow.Author.Tests.{eq-eqb, ne_eqb, lt-ltb, le-ltb}
use Rattle.modes.specs.declared.Modes.{Modes}
use Rattle.scope.specs.Id.{atom}
use Rattle.scope.specs.declared.id.Atom.{Atom}
use Rattle.tree.specs.declared.grammar.Set.TheVariants.{Module}
use Rattle.tree.specs.declared.grammar.Value.TheVariants.{Id}
use Rattle.tree.specs.Read.{Unread}
use Rattle.tree.specs.Layout.{two_at}
use Rattle.tree.specs.Tree.{Field, Fields, more, tag_of}
use Rattle.tree.specs.Grammar.{within, rule_of}
use Rattle.tree.specs.Access.{extent_at}
use Rattle.tree.specs.Rows.{GivesPart, tree_of, fields_of}
use Rattle.tree.specs.declared.row.Part.{Part}
use Rattle.tree.specs.declared.row.Row.{Row}
use Rattle.tree.specs.Read.{Reading, fine, verdict, refusal_of, read}
use Rattle.tree.specs.Standing.{row_at, tree_at, Whole}
use Rattle.tree.proofs.SliceLaws.{get_d-slice}
use Rattle.tree.proofs.AccessLaws.{extent-upto}
use Rattle.tree.proofs.FixedLaws.{upto-inj}
use Rattle.tree.proofs.ReadLaws.{good-fine, verdict-refused}
use Rattle.tree.proofs.PartLaws.{fields-none, fields-more, part_tag, part_fixed, part-short, part-tree}
use Rattle.tree.proofs.StandingLaws.{tree-upto, row-next, whole-tag}
use Rattle.tree.proofs.WidthLaws.{plain-ends, read-module}
use Rattle.detection.specs.Detection.{first_ident, any_name, module_or_exports, other_here, found_other, found_other_in, forced_es6, es6, items_of, answers, refuses, on_reading, detect, Accepted, AcceptedIn}

-- ---- the walk

pub found-none : (r r' : Row) → GivesPart r None r' → found_other_in (fields_of r) ≡ false
unfolding found_other
found-none r r' g = ap found_other_in (fields-none r r' g)

pub found-more : (r : Row) (p : Part) (r' : Row) → GivesPart r (Some p) r' → found_other_in (fields_of r) ≡ found_other (tree_of p) || found_other_in (fields_of r')
unfolding found_other
found-more r p r' g = ap found_other_in (fields-more r p r' g)

pub found-short : (p : Part) → part_fixed p ≡ None → found_other (tree_of p) ≡ false
unfolding found_other other_here
found-short p e = ap found_other (part-short p e)

pub found-upto : (p : Part) {b : ℕ} (r : Row) → part_fixed p ≡ Some b → (r.bytes.now ≡ p.bytes.now) × (r.at ≡ b) × (r.end ≡ p.stop) →
    found_other (tree_of p) ≡ other_here (part_tag p) (fields_of r) || found_other_in (fields_of r)
unfolding found_other
found-upto p r e m = ap found_other (part-tree p r e m)

-- ---- a field by itself

pub member-here : {t : ℕ} (cs : Fields) {i : Option Atom} → t ≡ 0x63 → first_ident cs ≡ i → other_here t cs ≡ module_or_exports i
unfolding other_here
member-here cs h e = ap (λ (u : ℕ). other_here u cs) h ∙ ap module_or_exports e

-- by the library's test of a name that there may be
pub member-is : (i : Option Atom) {r : Bool} (Says : Atom → Type 0) → MatchOption i (r ≡ false) Says → ((a : Atom) → Says a → r ≡ module_or_exports (Some a)) →
    r ≡ module_or_exports i
member-is None Says p k = p
member-is (Some a) Says p k = k a p

pub call-here : {t : ℕ} (cs : Fields) {i : Option Atom} → t ≡ 0x65 → first_ident cs ≡ i → other_here t cs ≡ any_name i
unfolding other_here
call-here cs h e = ap (λ (u : ℕ). other_here u cs) h ∙ ap any_name e

pub none-here : (t : ℕ) (cs : Fields) → (t ≡ 0x63 → ⊥) → (t ≡ 0x65 → ⊥) → other_here t cs ≡ false
unfolding other_here
none-here t cs h k = rw (ne_eqb t 0x63 h, ne_eqb t 0x65 k)

-- ---- the first part

pub first-none : (r r' : Row) → GivesPart r None r' → first_ident (fields_of r) ≡ None
unfolding first_ident
first-none r r' g = ap first_ident (fields-none r r' g)

module _ (r : Row) (p : Part) (r' : Row) (g : GivesPart r (Some p) r') where
  pub first-short : part_fixed p ≡ None → first_ident (fields_of r) ≡ None
  unfolding first_ident
  first-short e = ap first_ident (fields-more r p r' g ∙ ap (λ (f : Field). more f (fields_of r')) (part-short p e))

  first-upto : {b : ℕ} → part_fixed p ≡ Some b → first_ident (fields_of r) ≡ cond (eqb (part_tag p) 0x60) (Some (atom (two_at (slice (p.at + 3) b p.bytes.now) 0))) None
  unfolding first_ident
  first-upto {b} e =
      ap first_ident (fields-more r p r' g ∙ ap (λ (f : Field). more f (fields_of r')) (tree-upto p.bytes.now p.at p.stop b e))

  name-slice : (s : List ℕ) (at b : ℕ) → b ≡ at + 6 → two_at (slice at b s) 0 ≡ two_at s at
  name-slice s at b h =
      let z : at + 0 ≡ at = omega arith in
      ap₂ (λ (x y : ℕ). x * 256 + y) (get_d-slice at b s 0 (omega arith) ∙ ap (λ (i : ℕ). get_or s i 0) z)
      (get_d-slice at b s 1 (omega arith))

  pub first-named : {b : ℕ} → part_fixed p ≡ Some b → part_tag p ≡ 0x60 → first_ident (fields_of r) ≡ Some (atom (two_at p.bytes.now (p.at + 3)))
  first-named {b} x h =
      let six = plain-ends 0x60 Id refl p.bytes.now (part_tag p) (p.at + 3) p.stop b h x in
      first-upto x ∙ rw (eq-eqb _ _ h) (ap (λ (n : ℕ). Some (atom n)) (name-slice p.bytes.now (p.at + 3) b six))

  pub first-other : {b : ℕ} → part_fixed p ≡ Some b → (part_tag p ≡ 0x60 → ⊥) → first_ident (fields_of r) ≡ None
  first-other x h = first-upto x ∙ rw (ne_eqb _ _ h)

-- ---- rows that reading accepts

-- the field that stands first in an accepted row is accepted, and so is the row behind it
accepted-next : (s : List ℕ) (at end stop : ℕ) → at ≤ end → Accepted s at end → extent_at s at end ≡ Some stop →
    Whole s at stop × Accepted s stop end
accepted-next s at end stop le (q, w) x =
    let i = extent-upto s at end le x in
    let f = row-next s at end q le w (λ z. omega arith) in
    let same : f.1 ≡ stop = upto-inj (sym f.3 ∙ x) in
    subst (λ (k : ℕ). Whole s at k × Accepted s k end) same (f.4, (f.0, f.5))

module _ (r : Row) (p : Part) (r' : Row) (g : GivesPart r (Some p) r') (a : AcceptedIn r) where
  pub accepted-on : AcceptedIn r'
  accepted-on =
      subst₂ (λ (s : List ℕ) (e : ℕ). Accepted s r'.at e) (sym g.2) (sym g.4)
      (subst (λ (n : ℕ). Accepted r.bytes.now n r.end) (sym g.3) (accepted-next r.bytes.now r.at r.end p.stop r.inside.0 a g.0).1)

  -- ---- the items

  pub forced-more : forced_es6 (fields_of r) ≡ within 0x10 0x14 (part_tag p) || forced_es6 (fields_of r')
  unfolding forced_es6
  forced-more =
      ap forced_es6 (fields-more r p r' g)
      ∙ ap (λ (t : ℕ). within 0x10 0x14 t || forced_es6 (fields_of r'))
      (ap₂ (λ (s : List ℕ) (n : ℕ). tag_of (tree_at s n p.stop)) g.5 g.1
      ∙ whole-tag r.bytes.now r.at p.stop (accepted-next r.bytes.now r.at r.end p.stop r.inside.0 a g.0).0
      ∙ ap₂ (λ (s : List ℕ) (n : ℕ). get_or s n 0) (sym g.5) (sym g.1))

pub forced-none : (r r' : Row) → GivesPart r None r' → forced_es6 (fields_of r) ≡ false
unfolding forced_es6
forced-none r r' g = ap forced_es6 (fields-none r r' g)

-- ---- the whole call

items-are : (s : List ℕ) (fs : Fields) → read Module s ≡ fine fs → items_of fs ≡ row_at s 3 (length s)
items-are s fs e = ap items_of (read-module s fs e).tree

pub items-accepted : (s : List ℕ) → verdict (read Module s) ≡ Ok tt → (3 ≤ length s) × Accepted s 3 (length s)
items-accepted s e = let r = good-fine (read Module s) e in let m = read-module s r.0 r.1 in (m.room, (rule_of 0x01, m.row))

pub detect-long : (modes : Modes) (s : List ℕ) → 65538 < length s → detect modes s ≡ refuses 1 0
unfolding detect
detect-long modes s h = rw (lt-ltb _ _ h)

pub detect-refused : (modes : Modes) (s : List ℕ) (u : Unread) → length s ≤ 65538 →
    verdict (read Module s) ≡ Err u → detect modes s ≡ refuses (refusal_of u.why) u.place
unfolding detect
detect-refused modes s u h e =
    rw (le-ltb _ _ h) (ap (λ (r : Reading Fields). on_reading r modes) (verdict-refused (read Module s) e))

pub detect-read : (modes : Modes) (s : List ℕ) → length s ≤ 65538 → verdict (read Module s) ≡ Ok tt →
    detect modes s ≡ answers (es6 modes (row_at s 3 (length s)))
unfolding detect
detect-read modes s h e =
    let r = good-fine (read Module s) e in
    rw (le-ltb _ _ h)
    (ap (λ (x : Reading Fields). on_reading x modes) r.1
    ∙ ap (λ (x : Fields). answers (es6 modes x)) (items-are s r.0 r.1))
