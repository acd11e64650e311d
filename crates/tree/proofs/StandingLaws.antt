-- What stands in bytes: steps from a place to its field, its parts and its siblings, also where reading accepted them.
use Rattle.std.specs.Prelude.{Option, Some, None}
use Prim.Native.Nat.{ℕ, zero, suc, ◌+◌, ◌-◌, ◌≤◌, ◌<◌}
use mathlib.Core.Path.{◌≡◌, refl, sym, ap, ap₂, subst, ◌∙◌}
use mathlib.Core.Bool.{true, false}
use mathlib.Core.Logic.{◌⊎◌, inl, inr, ⊎_elim}
use mathlib.Core.List.{List, []}
use native.Mathlib.Omega.{arith}
use lib.ListN.{get_or, length}
use lib.Seq.{slice}
use borrow.Author.Tests.{lt-leb}
use Rattle.tree.specs.declared.grammar.Set.{Set}
use Rattle.tree.specs.declared.grammar.Slot.TheVariants.{Nothing}
use Rattle.tree.specs.declared.grammar.Rule.{Rule}
use Rattle.tree.specs.declared.read.Head.{Head}
use Rattle.tree.specs.declared.read.Head.TheVariants.{Done, Missing, Bad, Child}
use Rattle.tree.specs.Tree.{Field, field, Fields, none, more, tag_of}
use Rattle.tree.specs.Grammar.{parts0, holds_at, rule_of, step_at, done_at}
use Rattle.tree.specs.Access.{fixed_at, extent_at}
use Rattle.tree.specs.Read.{fine, Kids, head_at, on_fixed, content_by, on_head, children, children_at, content_at, read, top}
use Rattle.tree.specs.Standing.{Rows, tree_on, tree_by, row_on, row, row_at, tree_at, Whole, Row}
use Rattle.tree.proofs.AccessLaws.{ReachIn, fixed-in, extent-in, extent-upto}
use Rattle.tree.proofs.GrammarLaws.{no-step, step-one}
use Rattle.tree.proofs.ReadLaws.{HeadIn, head-in, children-step, no-refused, fine-inj, mapped-fine, both-fine, Says, head-says, read-children}

abbrev Agree : Rows → Rows → List ℕ → ℕ → ℕ → Type 0
Agree k k' s at end = (a e : ℕ) → at < a → a ≤ e → e ≤ end → k s a e ≡ k' s a e

tree-agree : (r : Option ℕ) (k k' : Rows) (s : List ℕ) (at stop end : ℕ) → ReachIn (at + 3) stop r → stop ≤ end →
    Agree k k' s at end → tree_on r k s at stop ≡ tree_on r k' s at stop
unfolding tree_on
tree-agree None k k' s at stop end i le g = refl
tree-agree (Some b) k k' s at stop end i le g = ap (field (get_or s at 0) (slice (at + 3) b s)) (g b stop (omega arith) i.1 le)

row-agree : (r : Option ℕ) (k k' : Rows) (s : List ℕ) (at end : ℕ) → ReachIn (at + 3) end r → Agree k k' s at end →
    row_on r k s at end ≡ row_on r k' s at end
unfolding row_on tree_by
row-agree None k k' s at end i g = refl
row-agree (Some stop) k k' s at end i g =
    ap₂ more
    (tree-agree (fixed_at s (get_or s at 0) (at + 3) stop) k k' s at stop end (fixed-in s (get_or s at 0) (at + 3) stop i.0) i.1 g)
    (g stop end (omega arith) i.1 (omega arith))

enough : (n m : ℕ) (s : List ℕ) (at end : ℕ) → at ≤ end → end - at < n → end - at < m → row n s at end ≡ row m s at end
unfolding row
enough zero m s at end le hn hm = absurd (omega arith)
enough (suc n) zero s at end le hn hm = absurd (omega arith)
enough (suc n) (suc m) s at end le hn hm =
    row-agree (extent_at s at end) (row n) (row m) s at end (extent-in s at end le) (λ a e l₁ l₂ l₃. enough n m s a e l₂ (omega arith) (omega arith))

row-step : (s : List ℕ) (at end : ℕ) → at ≤ end → row_at s at end ≡ row_on (extent_at s at end) row_at s at end
unfolding row_at row
row-step s at end le =
    row-agree (extent_at s at end) (row (end - at)) row_at s at end (extent-in s at end le)
    (λ a e l₁ l₂ l₃. enough (end - at) (suc (e - a)) s a e l₂ (omega arith) (omega arith))

-- from a place to its first field and the fields after it
pub row-more : (s : List ℕ) (at end stop : ℕ) → at ≤ end → extent_at s at end ≡ Some stop →
    row_at s at end ≡ more (tree_at s at stop) (row_at s stop end)
unfolding tree_at row_on
row-more s at end stop le e = row-step s at end le ∙ ap (λ (r : Option ℕ). row_on r row_at s at end) e

pub row-none : (s : List ℕ) (at end : ℕ) → at ≤ end → extent_at s at end ≡ None → row_at s at end ≡ none
unfolding row_on
row-none s at end le e = row-step s at end le ∙ ap (λ (r : Option ℕ). row_on r row_at s at end) e

-- from a field to its children
pub tree-upto : (s : List ℕ) (at stop b : ℕ) → fixed_at s (get_or s at 0) (at + 3) stop ≡ Some b →
    tree_at s at stop ≡ field (get_or s at 0) (slice (at + 3) b s) (row_at s b stop)
unfolding tree_at tree_by tree_on
tree-upto s at stop b e = ap (λ (r : Option ℕ). tree_on r row_at s at stop) e

pub tree-short : (s : List ℕ) (at stop : ℕ) → fixed_at s (get_or s at 0) (at + 3) stop ≡ None →
    tree_at s at stop ≡ field 0 [] none
unfolding tree_at tree_by tree_on
tree-short s at stop e = ap (λ (r : Option ℕ). tree_on r row_at s at stop) e

abbrev Standing : Kids → List ℕ → Type 0
Standing k s = (at end d : ℕ) (q : Rule) (p : ℕ) (fs : Fields) → at ≤ end → k s at end d q p ≡ fine fs → row_at s at end ≡ fs

fixed-standing : (r : Option ℕ) (k : Kids) (s : List ℕ) (at stop d : ℕ) (f : Field) → Standing k s →
    fixed_at s (get_or s at 0) (at + 3) stop ≡ r → ReachIn (at + 3) stop r →
    on_fixed r k s at stop d ≡ fine f → tree_at s at stop ≡ f
unfolding on_fixed
fixed-standing None k s at stop d f ih x i e = absurd (no-refused e)
fixed-standing (Some b) k s at stop d f ih x i e =
    let m = mapped-fine (field (get_or s at 0) (slice (at + 3) b s)) (k s b stop d (rule_of (get_or s at 0)) at) f e in
    tree-upto s at stop b x ∙ ap (field (get_or s at 0) (slice (at + 3) b s)) (ih b stop d (rule_of (get_or s at 0)) at m.0 i.1 m.1) ∙ m.2

content-standing : (k : Kids) (s : List ℕ) (at stop d : ℕ) (f : Field) → Standing k s → at + 3 ≤ stop →
    content_by k s at stop d ≡ fine f → tree_at s at stop ≡ f
unfolding content_by
content-standing k s at stop d f ih h e =
    fixed-standing (fixed_at s (get_or s at 0) (at + 3) stop) k s at stop d f ih refl (fixed-in s (get_or s at 0) (at + 3) stop h) e

nothing-left : (s : List ℕ) (at end : ℕ) → at ≡ end → extent_at s at end ≡ None
unfolding extent_at
nothing-left s at end e = rw (lt-leb 3 (end - at) (omega arith))

head-standing : (h : Head) (k : Kids) (s : List ℕ) (at end d : ℕ) (q : Rule) (p : ℕ) (fs : Fields) → Standing k s →
    at ≤ end → HeadIn at end d h → Says s at end q h →
    on_head h k s at end d p ≡ fine fs → row_at s at end ≡ fs
unfolding on_head
head-standing Done k s at end d q p fs ih le i y e = row-none s at end le (nothing-left s at end y.0) ∙ fine-inj e
head-standing Missing k s at end d q p fs ih le i y e = absurd (no-refused e)
head-standing (Bad w) k s at end d q p fs ih le i y e = absurd (no-refused e)
head-standing (Child q' stop) k s at end d q p fs ih le i y e =
    let m = both-fine more (content_by k s at stop (d + 1)) (k s stop end d q' p) fs e in
    row-more s at end stop le y.2
    ∙ ap₂ more (content-standing k s at stop (d + 1) m.0 ih i.0 m.2) (ih stop end d q' p m.1 i.1 m.3) ∙ m.4

children-standing : (n : ℕ) (s : List ℕ) → Standing (children n) s
unfolding children
children-standing zero s at end d q p fs le e = absurd (no-refused e)
children-standing (suc n) s at end d q p fs le e =
    head-standing (head_at s at end d q) (children n) s at end d q p fs (children-standing n s) le (head-in s at end d q le) (head-says s at end d q) e

pub row-standing : (s : List ℕ) (at end d : ℕ) (q : Rule) (p : ℕ) (fs : Fields) → at ≤ end →
    children_at s at end d q p ≡ fine fs → row_at s at end ≡ fs
unfolding children_at
row-standing s at end d q p fs le e = children-standing (suc (end - at)) s at end d q p fs le e

pub whole-standing : (s : List ℕ) (at stop d : ℕ) (f : Field) → at + 3 ≤ stop → content_at s at stop d ≡ fine f →
    tree_at s at stop ≡ f
unfolding content_at
whole-standing s at stop d f h e = content-standing children_at s at stop d f (row-standing s) h e

-- what reading gives is what stands in the bytes
pub read-standing : (root : Set) (s : List ℕ) (fs : Fields) → read root s ≡ fine fs → row_at s 0 (length s) ≡ fs
read-standing root s fs e = row-standing s 0 (length s) 0 (top root) 0 fs (omega arith) (read-children root s fs e)

whole-on : (r : Option ℕ) (s : List ℕ) (at stop d : ℕ) (f : Field) → on_fixed r children_at s at stop d ≡ fine f →
    (b : ℕ) × (r ≡ Some b) × Row s b stop (rule_of (get_or s at 0))
unfolding on_fixed
whole-on None s at stop d f e = absurd (no-refused e)
whole-on (Some b) s at stop d f e =
    let m = mapped-fine (field (get_or s at 0) (slice (at + 3) b s)) (children_at s b stop d (rule_of (get_or s at 0)) at) f e in
    (b, refl, (d, at, m.0, m.1))

pub whole-step : (s : List ℕ) (at stop : ℕ) → Whole s at stop →
    (b : ℕ) × (fixed_at s (get_or s at 0) (at + 3) stop ≡ Some b) × Row s b stop (rule_of (get_or s at 0))
unfolding content_at content_by
whole-step s at stop w = whole-on (fixed_at s (get_or s at 0) (at + 3) stop) s at stop w.0 w.1 w.2

-- it has the tag that stands at its place
pub whole-tag : (s : List ℕ) (at stop : ℕ) → Whole s at stop → tag_of (tree_at s at stop) ≡ get_or s at 0
whole-tag s at stop w = let m = whole-step s at stop w in ap tag_of (tree-upto s at stop m.0 m.1)

-- a row that has not ended has a first field, which its rule takes
abbrev pub First : List ℕ → ℕ → ℕ → Rule → Type 0
First s at end q = (q' : Rule) × (stop : ℕ) × (step_at q (get_or s at 0) ≡ Some q') × (extent_at s at end ≡ Some stop) × Whole s at stop × Row s stop end q'

abbrev Ended : ℕ → ℕ → Rule → Type 0
Ended at end q = (at ≡ end) × (done_at q ≡ true)

row_on-says : (h : Head) (s : List ℕ) (at end d : ℕ) (q : Rule) (p : ℕ) (fs : Fields) → Says s at end q h →
    on_head h children_at s at end d p ≡ fine fs → Ended at end q ⊎ First s at end q
unfolding on_head content_at
row_on-says Done s at end d q p fs y e = inl y
row_on-says Missing s at end d q p fs y e = absurd (no-refused e)
row_on-says (Bad w) s at end d q p fs y e = absurd (no-refused e)
row_on-says (Child q' stop) s at end d q p fs y e =
    let m = both-fine more (content_by children_at s at stop (d + 1)) (children_at s stop end d q' p) fs e in
    inr (q', stop, y.0, y.2, (d + 1, m.0, m.2), (d, p, m.1, m.3))

pub row-cases : (s : List ℕ) (at end : ℕ) (q : Rule) → at ≤ end → Row s at end q → Ended at end q ⊎ First s at end q
row-cases s at end q le w =
    row_on-says (head_at s at end w.0 q) s at end w.0 q w.1 w.2 (head-says s at end w.0 q)
    (sym (children-step s at end w.0 q w.1 le) ∙ w.3)

-- by the place, or by the rule
pub row-next : (s : List ℕ) (at end : ℕ) (q : Rule) → at ≤ end → Row s at end q → (at ≡ end → ⊥) → First s at end q
row-next s at end q le w n = ⊎_elim (λ e. absurd (n e.0)) (λ f. f) (row-cases s at end q le w)

pub row-first : (s : List ℕ) (at end : ℕ) (q : Rule) → at ≤ end → Row s at end q → done_at q ≡ false → First s at end q
row-first s at end q le w n =
    ⊎_elim (λ e. let d = e.1 in cc) (λ f. f) (row-cases s at end q le w)

-- a row whose place has no field has ended, and lacks nothing
pub row-end : (s : List ℕ) (at end : ℕ) (q : Rule) → at ≤ end → Row s at end q → extent_at s at end ≡ None →
    (at ≡ end) × (done_at q ≡ true)
row-end s at end q le w x =
    ⊎_elim (λ e. e) (λ f. let e = f.3 in cc) (row-cases s at end q le w)

pub read-row : (root : Set) (s : List ℕ) (fs : Fields) → read root s ≡ fine fs → Row s 0 (length s) (top root)
read-row root s fs e = (0, 0, fs, read-children root s fs e)

-- where a walk over accepted bytes starts: one field from 0 up to the end
pub record Rooted (root : Set) (s : List ℕ) (fs : Fields) : Type 0 where
  pub room : 3 ≤ length s
  pub tag : holds_at root (get_or s 0 0) ≡ true
  pub extent : extent_at s 0 (length s) ≡ Some (length s)
  pub whole : Whole s 0 (length s)
  pub tree : fs ≡ more (tree_at s 0 (length s)) none

none-left : (s : List ℕ) (at end : ℕ) → at ≤ end → Row s at end parts0 → at ≡ end
none-left s at end le w = ⊎_elim (λ e. e.0) (λ f. absurd (no-step (get_or s at 0) f.2)) (row-cases s at end parts0 le w)

pub read-field : (root : Set) (s : List ℕ) (fs : Fields) → read root s ≡ fine fs → Rooted root s fs
read-field root s fs e =
    let f = row-first s 0 (length s) (top root) (omega arith) (read-row root s fs e) refl in
    let stop = f.1 in
    let one = step-one root Nothing Nothing Nothing (get_or s 0 0) f.0 f.2 in
    let i = extent-upto s 0 (length s) (omega arith) f.3 in
    let all : stop ≡ length s = none-left s stop (length s) i.1 (subst (Row s stop (length s)) one.1 f.5) in
    let x : extent_at s 0 (length s) ≡ Some (length s) = f.3 ∙ ap Some all in
    record {
      room = omega arith;
      tag = one.0;
      extent = x;
      whole = subst (Whole s 0) all f.4;
      tree =
          sym (read-standing root s fs e) ∙ row-more s 0 (length s) (length s) (omega arith) x
          ∙ ap (more (tree_at s 0 (length s))) (row-none s (length s) (length s) (omega arith) (nothing-left s (length s) (length s) refl));
    }
