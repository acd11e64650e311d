-- Every tree within the grammar, the depth and the lengths reads back to itself, wherever it stands.
use Rattle.std.specs.Prelude.{Option, Some}
use Prim.Native.Nat.{ℕ, ◌+◌, ◌-◌, ◌/◌, ◌%◌, ◌≤◌, ◌<◌}
use mathlib.Core.Path.{◌≡◌, refl, sym, ap, ap₂, ◌∙◌}
use mathlib.Core.Bool.{true}
use mathlib.Core.List.{List, [], ◌∷◌, ◌++◌}
use native.Mathlib.Omega.{arith}
use lib.ListN.{length, get_or, length-append}
use lib.Seq.{slice, length-slice, take-length}
use borrow.Author.Tests.{le-leb, lt-ltb, eq-eqb, ne_eqb}
use Rattle.tree.specs.declared.grammar.Set.{Set}
use Rattle.tree.specs.declared.grammar.Slot.TheVariants.{Nothing}
use Rattle.tree.specs.declared.grammar.Rule.{Rule}
use Rattle.tree.specs.declared.read.Head.{Head}
use Rattle.tree.specs.declared.read.Head.TheVariants.{Done, Child}
use Rattle.tree.specs.Layout.{skip_at}
use Rattle.tree.specs.Tree.{Field, field, Fields, none, more, tag_of, framed, encode, encodes, depth, depths}
use Rattle.tree.specs.Grammar.{parts0, rule_of, step_at, done_at}
use Rattle.tree.specs.Access.{fixed_at, length_at, extent_at}
use Rattle.tree.specs.Read.{fine, mapped, both, on_extent, on_step, head_at, on_fixed, content_by, on_head, children_at, content_at, read, top}
use Rattle.tree.specs.Within.{Exact, Formed, FormedAll, Within}
use Rattle.tree.proofs.SliceLaws.{slice-split, get_d-slice}
use Rattle.tree.proofs.GrammarLaws.{open-rule, formed-none, one-step}
use Rattle.tree.proofs.TreeLaws.{size-encode, content-size, depth-parts, depth-positive, depth-first, depth-rest, depth-one, encodes-one}
use Rattle.tree.proofs.FixedLaws.{fixed-same}
use Rattle.tree.proofs.ReadLaws.{children-step}

-- ---- the tag, the length and the content of a field that stands in bytes

record Framed (s : List ℕ) (at stop t : ℕ) (c : List ℕ) : Type 0 where
  tag : get_or s at 0 ≡ t
  long : length_at s at ≡ length c
  ends : stop ≡ at + 3 + length c
  inner : slice (at + 3) stop s ≡ c

framed-here : (s : List ℕ) (at stop t : ℕ) (c : List ℕ) → at ≤ stop → stop ≤ length s → slice at stop s ≡ framed t c →
    Framed s at stop t c
unfolding framed length_at
framed-here s at stop t c h k e =
    let n : stop - at ≡ 3 + length c = sym (length-slice at stop s k) ∙ ap length e ∙ omega arith in
    let z : at + 0 ≡ at = omega arith in
    let w = slice-split at stop s (t ∷ length c / 256 ∷ length c % 256 ∷ []) c h k e in
    let b₀ = sym (get_d-slice at stop s 0 (omega arith)) ∙ ap (λ (l : List ℕ). get_or l 0 0) e in
    let b₁ = sym (get_d-slice at stop s 1 (omega arith)) ∙ ap (λ (l : List ℕ). get_or l 1 0) e in
    let b₂ = sym (get_d-slice at stop s 2 (omega arith)) ∙ ap (λ (l : List ℕ). get_or l 2 0) e in
    record {
      tag = sym (ap (λ (j : ℕ). get_or s j 0) z) ∙ b₀;
      long = omega arith;
      ends = omega arith;
      inner = w.2;
    }

extent-here : (s : List ℕ) (at end : ℕ) → at + 3 + length_at s at ≤ end →
    extent_at s at end ≡ Some (at + 3 + length_at s at)
unfolding extent_at skip_at
extent-here s at end h =
    let a : 3 ≤ end - at = omega arith in
    let b : length_at s at ≤ end - (at + 3) = omega arith in
    rw (le-leb 3 (end - at) a, le-leb (length_at s at) (end - (at + 3)) b)

head-done : (s : List ℕ) (at end d : ℕ) (q : Rule) → at ≡ end → done_at q ≡ true → head_at s at end d q ≡ Done
unfolding head_at
head-done s at end d q e h = rw (eq-eqb at end e, h)

head-child : (s : List ℕ) (at end d : ℕ) (q q' : Rule) (stop : ℕ) → (at ≡ end → ⊥) → step_at q (get_or s at 0) ≡ Some q' →
    extent_at s at end ≡ Some stop → d < 64 →
    head_at s at end d q ≡ Child q' stop
unfolding head_at on_step on_extent
head-child s at end d q q' stop n e x h = rw (ne_eqb at end n, e, x, lt-ltb d 64 h)

-- ---- a row and a field, where their parts are read back

row-done : (s : List ℕ) (at end d : ℕ) (q : Rule) (p : ℕ) → at ≡ end → done_at q ≡ true →
    children_at s at end d q p ≡ fine none
unfolding on_head
row-done s at end d q p e h =
    children-step s at end d q p (omega arith) ∙ ap (λ (x : Head). on_head x children_at s at end d p) (head-done s at end d q e h)

row-child : (s : List ℕ) (at end d : ℕ) (q q' : Rule) (p stop : ℕ) (f : Field) (fs : Fields) → at ≤ end →
    head_at s at end d q ≡ Child q' stop →
    content_at s at stop (d + 1) ≡ fine f → children_at s stop end d q' p ≡ fine fs →
    children_at s at end d q p ≡ fine (more f fs)
unfolding on_head content_at
row-child s at end d q q' p stop f fs le h a b =
    children-step s at end d q p le ∙ ap (λ (x : Head). on_head x children_at s at end d p) h ∙ ap₂ (both more) a b

field-parts : (s : List ℕ) (at stop d b t : ℕ) (x : List ℕ) (cs : Fields) → get_or s at 0 ≡ t →
    fixed_at s t (at + 3) stop ≡ Some b → slice (at + 3) b s ≡ x →
    children_at s b stop d (rule_of t) at ≡ fine cs → content_at s at stop d ≡ fine (field t x cs)
unfolding content_at content_by on_fixed
field-parts s at stop d b t x cs e h w r =
    ap (λ (y : Option ℕ). on_fixed y children_at s at stop d) (ap (λ (u : ℕ). fixed_at s u (at + 3) stop) e ∙ h)
    ∙ ap (mapped (field (get_or s at 0) (slice (at + 3) b s))) (ap (λ (u : ℕ). children_at s b stop d (rule_of u) at) e ∙ r)
    ∙ ap₂ (λ (u : ℕ) (v : List ℕ). fine (field u v cs)) e w

-- the fixed bytes of a tree are found where it stands
fixed-here : (s : List ℕ) (at stop t : ℕ) (x : List ℕ) (cs : Fields) → stop ≤ length s → at ≤ stop → Exact t x →
    FormedAll cs (rule_of t) → slice at stop s ≡ x ++ encodes cs →
    fixed_at s t at stop ≡ Some (at + length x)
unfolding encode
fixed-here s at stop t x cs k h ex w e =
    let m = slice-split at stop s x (encodes cs) h k e in
    let z : length x ≡ 0 + length x = omega arith in
    let long : stop - at ≡ length (x ++ encodes cs) = sym (length-slice at stop s k) ∙ ap length e in
    let two = length-append x (encodes cs) in
    fixed-same t x s 0 at (length x) (length x) stop (omega arith)
    (λ j l. let y : 0 + j ≡ j = omega arith in
    ap (λ (n : ℕ). get_or x n 0) y ∙ sym (ap (λ (u : List ℕ). get_or u j 0) m.1) ∙ get_d-slice at (at + length x) s j (omega arith)) m.0
    (λ o. let none-left = ap (λ (u : Fields). length (encodes u)) (formed-none cs (rw (open-rule t o) at w)) in omega arith) (ex ∙ ap Some z)

field-here : (s : List ℕ) (at stop d t : ℕ) (x : List ℕ) (cs : Fields) → at ≤ stop → stop ≤ length s →
    Formed (field t x cs) → slice at stop s ≡ encode (field t x cs) →
    ((b : ℕ) → b ≤ stop → slice b stop s ≡ encodes cs → children_at s b stop d (rule_of t) at ≡ fine cs) →
    content_at s at stop d ≡ fine (field t x cs)
unfolding encode
field-here s at stop d t x cs h k w e ih =
    let f = framed-here s at stop t (x ++ encodes cs) h k e in
    let n = f.ends in
    let le : at + 3 ≤ stop = omega arith in
    let m = slice-split (at + 3) stop s x (encodes cs) le k f.inner in
    field-parts s at stop d (at + 3 + length x) t x cs f.tag (fixed-here s (at + 3) stop t x cs k le w.1 w.2 f.inner) m.1
    (ih (at + 3 + length x) m.0 m.2)

row-here : (s : List ℕ) (at end d : ℕ) (q : Rule) (p : ℕ) (f : Field) (fs : Fields) → at ≤ end → end ≤ length s →
    FormedAll (more f fs) q → d < 64 → slice at end s ≡ encodes (more f fs) →
    ((stop : ℕ) → at ≤ stop → stop ≤ end → slice at stop s ≡ encode f → content_at s at stop (d + 1) ≡ fine f) →
    ((stop : ℕ) (q' : Rule) → stop ≤ end → FormedAll fs q' → slice stop end s ≡ encodes fs → children_at s stop end d q' p ≡ fine fs) →
    children_at s at end d q p ≡ fine (more f fs)
unfolding encode
row-here s at end d q p (field t x cs) fs h k w dd e ihf ihr =
    let f = field t x cs in
    let m = slice-split at end s (encode f) (encodes fs) h k e in
    let stop = at + length (encode f) in
    let le : at ≤ stop = omega arith in
    let g = framed-here s at stop t (x ++ encodes cs) le (omega arith) m.1 in
    let ends = g.ends in
    let long = g.long in
    let inside = m.0 in
    let where-to : at + 3 + length_at s at ≡ stop = omega arith in
    let ne : at ≡ end → ⊥ = λ z. omega arith in
    row-child s at end d q w.0 p stop f fs h
    (head-child s at end d q w.0 stop ne (ap (step_at q) g.tag ∙ w.1) (extent-here s at end (omega arith) ∙ ap Some where-to) dd)
    (ihf stop le m.0 m.1) (ihr stop w.0 m.0 w.3 m.2)

none-here : (s : List ℕ) (at end : ℕ) → at ≤ end → end ≤ length s → slice at end s ≡ encodes none → at ≡ end
unfolding encode
none-here s at end h k e = let n : end - at ≡ 0 = sym (length-slice at end s k) ∙ ap length e in omega arith

mutual
  pub field-complete : (f : Field) (s : List ℕ) (at stop d : ℕ) → at ≤ stop → stop ≤ length s → Formed f →
      d + depth f ≤ 65 → slice at stop s ≡ encode f → content_at s at stop d ≡ fine f
  field-complete (field t x cs) s at stop d h k w dd e =
      field-here s at stop d t x cs h k w e
      (λ b l u. row-complete cs s b stop d (rule_of t) at l k w.2 (let z = depth-parts t x cs in omega arith) u)

  pub row-complete : (fs : Fields) (s : List ℕ) (at end d : ℕ) (q : Rule) (p : ℕ) → at ≤ end → end ≤ length s →
      FormedAll fs q → d + depths fs ≤ 64 → slice at end s ≡ encodes fs →
      children_at s at end d q p ≡ fine fs
  row-complete none s at end d q p h k w dd e = row-done s at end d q p (none-here s at end h k e) w
  row-complete (more f fs) s at end d q p h k w dd e =
      row-here s at end d q p f fs h k w (let z = depth-first f fs in let y = depth-positive f in omega arith) e
      (λ stop a b u. field-complete f s at stop (d + 1) a (omega arith) w.2 (let z = depth-first f fs in omega arith) u)
      (λ stop q' a v u. row-complete fs s stop end d q' p a k v (let z = depth-rest f fs in omega arith) u)

encode-some : (f : Field) → length (encode f) ≡ 0 → ⊥
encode-some (field t x cs) e = let n = size-encode (field t x cs) in let m = content-size t x cs in omega arith

-- every tree within the root reads back to itself
pub read-complete : (root : Set) (f : Field) → Within root f → read root (encode f) ≡ fine (more f none)
unfolding read
read-complete root f w =
    let s = encode f in
    let one = depth-one f in
    let deep = w.2 in
    let none-zero : length s ≡ 0 → ⊥ = encode-some f in
    rw (ne_eqb (length s) 0 none-zero)
    (row-complete (more f none) s 0 (length s) 0 (top root) 0 (omega arith) (omega arith)
    (parts0, one-step root Nothing Nothing Nothing (tag_of f) w.0, w.1, refl) (omega arith) (take-length s ∙ sym (encodes-one f)))
