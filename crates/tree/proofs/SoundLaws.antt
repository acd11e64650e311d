-- What is read is within the grammar, the depth and the lengths, and its bytes are those that were read.
use Rattle.std.specs.Prelude.{Option, Some, None}
use Prim.Native.Nat.{ℕ, zero, suc, ◌+◌, ◌-◌, ◌*◌, ◌/◌, ◌%◌, ◌≤◌, ◌<◌}
use mathlib.Core.Path.{◌≡◌, refl, sym, ap, ap₂, subst, ◌∙◌}
use mathlib.Core.Bool.{true}
use mathlib.Core.List.{List, ◌∷◌, ◌++◌, append-nil}
use native.Mathlib.Omega.{arith}
use native.Mathlib.Numerals.{add-one}
use lib.ListN.{length, get_or}
use lib.Seq.{slice, slice_empty, slice-cons, length-slice, take-length}
use Rattle.tree.specs.declared.grammar.Set.{Set}
use Rattle.tree.specs.declared.grammar.Slot.TheVariants.{Nothing}
use Rattle.tree.specs.declared.grammar.Rule.{Rule}
use Rattle.tree.specs.declared.read.Head.{Head}
use Rattle.tree.specs.declared.read.Head.TheVariants.{Done, Missing, Bad, Child}
use Rattle.tree.specs.Tree.{Field, field, Fields, none, more, tag_of, framed, encode, encodes, size, depth, depths}
use Rattle.tree.specs.Layout.{Bytes}
use Rattle.tree.specs.Grammar.{rule_of, step_at, done_at}
use Rattle.tree.specs.Access.{fixed_at, length_at, extent_at}
use Rattle.tree.specs.Read.{fine, Kids, head_at, on_fixed, content_by, on_head, children, children_at, content_at, read, top}
use Rattle.tree.specs.Standing.{row_at, tree_at, Whole, Row}
use Rattle.tree.specs.Within.{Exact, Formed, FormedAll, Within}
use Rattle.tree.proofs.SliceLaws.{slice-join, get_d-slice}
use Rattle.tree.proofs.GrammarLaws.{formed-none, formed-one}
use Rattle.tree.proofs.TreeLaws.{size-encode, content-size, depth-parts, depth-none, depth-most, depth-one}
use Rattle.tree.proofs.FixedLaws.{fixed-same}
use Rattle.tree.proofs.AccessLaws.{ReachIn, fixed-in, extent-upto}
use Rattle.tree.proofs.ReadLaws.{HeadIn, head-in, no-refused, fine-inj, mapped-fine, both-fine, Says, head-says, extent-length, read-children}
use Rattle.tree.proofs.StandingLaws.{row-standing, whole-standing}

-- a frame whose content is the bytes behind a head of that length
frame-here : (s : List ℕ) (at stop : ℕ) (c : List ℕ) → Bytes s → at + 3 ≤ stop → stop ≤ length s →
    stop ≡ at + 3 + length_at s at → c ≡ slice (at + 3) stop s →
    framed (get_or s at 0) c ≡ slice at stop s
unfolding framed length_at
frame-here s at stop c bs h le e ec =
    let b₁ = bs (at + 1) in
    let b₂ = bs (at + 2) in
    let e₂ : suc (at + 1) ≡ at + 2 = omega arith in
    let e₃ : suc (at + 2) ≡ at + 3 = omega arith in
    let n : length c ≡ get_or s (at + 1) 0 * 256 + get_or s (at + 2) 0 = ap length ec ∙ length-slice (at + 3) stop s le ∙ omega arith in
    let hi : length c / 256 ≡ get_or s (at + 1) 0 = omega arith in
    let lo : length c % 256 ≡ get_or s (at + 2) 0 = omega arith in
    ap₂ (λ (x y : ℕ). get_or s at 0 ∷ x ∷ y ∷ c) hi lo
    ∙ ap (λ (l : List ℕ). get_or s at 0 ∷ get_or s (at + 1) 0 ∷ get_or s (at + 2) 0 ∷ l) ec
    ∙ sym (slice-cons at stop s 0 (omega arith) le
    ∙ ap (λ (l : List ℕ). get_or s at 0 ∷ l) (ap (λ (n : ℕ). slice n stop s) (sym (add-one at)) ∙ slice-cons (at + 1) stop s 0 (omega arith) le
    ∙ ap (λ (l : List ℕ). get_or s (at + 1) 0 ∷ l) (ap (λ (n : ℕ). slice n stop s) e₂ ∙ slice-cons (at + 2) stop s 0 (omega arith) le
    ∙ ap (λ (n : ℕ). get_or s (at + 2) 0 ∷ slice n stop s) e₃)))

-- the fixed bytes that were found are just those of the tag
found-exact : (s : List ℕ) (t at stop b : ℕ) → at ≤ stop → b ≤ length s → ReachIn at stop (Some b) →
    fixed_at s t at stop ≡ Some b → Exact t (slice at b s)
found-exact s t at stop b le len i e =
    let x = slice at b s in
    let n : length x ≡ b - at = length-slice at b s len in
    let e₁ : b ≡ at + length x = omega arith in
    let e₂ : 0 + length x ≡ length x = omega arith in
    fixed-same t s x at 0 (length x) stop (length x) le
    (λ k l. let z : k ≡ 0 + k = omega arith in sym (get_d-slice at b s k (omega arith)) ∙ ap (λ (j : ℕ). get_or x j 0) z)
    (omega arith) (λ _. e₂) (e ∙ ap Some e₁) ∙ ap Some e₂

-- what holds of parts that a reading accepts at depth d
abbrev pub SoundRow : List ℕ → ℕ → ℕ → ℕ → Rule → Fields → Type 0
SoundRow s at end d q fs = (encodes fs ≡ slice at end s) × FormedAll fs q × (d ≤ 64 → d + depths fs ≤ 64)

abbrev Sound : Kids → List ℕ → Type 0
Sound k s =
    (at end d : ℕ) (q : Rule) (p : ℕ) (fs : Fields) → at ≤ end → end ≤ length s → k s at end d q p ≡ fine fs → SoundRow s at end d q fs

-- and of a field
abbrev pub SoundAt : List ℕ → ℕ → ℕ → ℕ → Field → Type 0
SoundAt s at stop d f = (encode f ≡ slice at stop s) × Formed f × (d ≤ 64 → d + depth f ≤ 65) × (tag_of f ≡ get_or s at 0)

length-small : (s : List ℕ) (at : ℕ) → Bytes s → length_at s at < 65536
unfolding length_at
length-small s at bs = omega (arith, bs (at + 1), bs (at + 2))

field-sound : (s : List ℕ) (at stop d b : ℕ) (cs : Fields) → Bytes s → at + 3 ≤ stop → stop ≤ length s →
    stop ≡ at + 3 + length_at s at → ReachIn (at + 3) stop (Some b) →
    fixed_at s (get_or s at 0) (at + 3) stop ≡ Some b →
    SoundRow s b stop d (rule_of (get_or s at 0)) cs →
    SoundAt s at stop d (field (get_or s at 0) (slice (at + 3) b s) cs)
unfolding encode
field-sound s at stop d b cs bs h le st i x w =
    let t = get_or s at 0 in
    let c = slice (at + 3) b s in
    let enc : encode (field t c cs) ≡ slice at stop s =
    frame-here s at stop (c ++ encodes cs) bs h le st (ap (λ (l : List ℕ). c ++ l) w.0 ∙ slice-join (at + 3) b stop s i.0 i.1 le)
    in
    let n : size (field t c cs) ≡ stop - at = size-encode (field t c cs) ∙ ap length enc ∙ length-slice at stop s le in
    let m = content-size t c cs in
    let k = length-small s at bs in
    let p = depth-parts t c cs in
    (enc, (omega arith, found-exact s t (at + 3) stop b h (omega arith) i x, w.1), (λ l. let deep = w.2 l in omega arith), refl)

fixed-sound : (r : Option ℕ) (k : Kids) (s : List ℕ) (at stop d : ℕ) (f : Field) → Bytes s → Sound k s → at + 3 ≤ stop →
    stop ≤ length s → stop ≡ at + 3 + length_at s at →
    ReachIn (at + 3) stop r → fixed_at s (get_or s at 0) (at + 3) stop ≡ r → on_fixed r k s at stop d ≡ fine f →
    SoundAt s at stop d f
unfolding on_fixed
fixed-sound None k s at stop d f bs ih h le st i x e = absurd (no-refused e)
fixed-sound (Some b) k s at stop d f bs ih h le st i x e =
    let m = mapped-fine (field (get_or s at 0) (slice (at + 3) b s)) (k s b stop d (rule_of (get_or s at 0)) at) f e in
    subst (SoundAt s at stop d) m.2 (field-sound s at stop d b m.0 bs h le st i x (ih b stop d (rule_of (get_or s at 0)) at m.0 i.1 le m.1))

none-sound : (s : List ℕ) (at end d : ℕ) (q : Rule) → at ≡ end → done_at q ≡ true → SoundRow s at end d q none
unfolding encode
none-sound s at end d q e h = (sym (ap (λ (n : ℕ). slice n end s) e ∙ slice_empty end s), h, λ l. let z = depth-none in omega arith)

more-sound : (s : List ℕ) (at stop end d : ℕ) (q q' : Rule) (f : Field) (fs : Fields) → at ≤ stop → stop ≤ end →
    end ≤ length s → step_at q (get_or s at 0) ≡ Some q' →
    d < 64 → SoundAt s at stop (d + 1) f → SoundRow s stop end d q' fs → SoundRow s at end d q (more f fs)
unfolding encode
more-sound s at stop end d q q' f fs h k len y lt w v =
    let a = w.2 (omega arith) in
    let b = v.2 (omega arith) in
    let most = depth-most f fs (64 - d) (omega arith) (omega arith) in
    (ap₂ ◌++◌ w.0 v.0 ∙ slice-join at stop end s h k len, (q', ap (step_at q) w.3 ∙ y, w.1, v.1), λ l. omega arith)

head-sound : (h : Head) (k : Kids) (s : List ℕ) (at end d : ℕ) (q : Rule) (p : ℕ) (fs : Fields) → Bytes s → Sound k s →
    at ≤ end → end ≤ length s →
    HeadIn at end d h → Says s at end q h → on_head h k s at end d p ≡ fine fs → SoundRow s at end d q fs
unfolding on_head content_by
head-sound Done k s at end d q p fs bs ih le len i y e =
    subst (SoundRow s at end d q) (fine-inj e) (none-sound s at end d q y.0 y.1)
head-sound Missing k s at end d q p fs bs ih le len i y e = absurd (no-refused e)
head-sound (Bad w) k s at end d q p fs bs ih le len i y e = absurd (no-refused e)
head-sound (Child q' stop) k s at end d q p fs bs ih le len i y e =
    let m = both-fine more (content_by k s at stop (d + 1)) (k s stop end d q' p) fs e in
    let f =
    fixed-sound (fixed_at s (get_or s at 0) (at + 3) stop) k s at stop (d + 1) m.0 bs ih i.0 (omega arith) y.1
    (fixed-in s (get_or s at 0) (at + 3) stop i.0) refl m.2
    in
    subst (SoundRow s at end d q) m.4
    (more-sound s at stop end d q q' m.0 m.1 (omega arith) i.1 len y.0 i.2 f (ih stop end d q' p m.1 i.1 len m.3))

children-sound : (n : ℕ) (s : List ℕ) → Bytes s → Sound (children n) s
unfolding children
children-sound zero s bs at end d q p fs le len e = absurd (no-refused e)
children-sound (suc n) s bs at end d q p fs le len e =
    head-sound (head_at s at end d q) (children n) s at end d q p fs bs (children-sound n s bs) le len (head-in s at end d q le)
    (head-says s at end d q) e

children-at-sound : (s : List ℕ) → Bytes s → Sound children_at s
unfolding children_at
children-at-sound s bs at end d q p fs le len e = children-sound (suc (end - at)) s bs at end d q p fs le len e

-- where reading accepts parts, what stands there has these bytes and is by the grammar
pub row-sound : (s : List ℕ) (at end : ℕ) (q : Rule) → Bytes s → at ≤ end → end ≤ length s → Row s at end q →
    (encodes (row_at s at end) ≡ slice at end s) × FormedAll (row_at s at end) q
row-sound s at end q bs le len w =
    let r = children-at-sound s bs at end w.0 q w.1 w.2 le len w.3 in
    subst (λ (fs : Fields). (encodes fs ≡ slice at end s) × FormedAll fs q) (sym (row-standing s at end w.0 q w.1 w.2 le w.3))
    (r.0, r.1)

-- and where it accepts a field
pub whole-sound : (s : List ℕ) (at end stop : ℕ) → Bytes s → at ≤ end → end ≤ length s → extent_at s at end ≡ Some stop →
    Whole s at stop →
    (encode (tree_at s at stop) ≡ slice at stop s) × Formed (tree_at s at stop)
unfolding content_at content_by
whole-sound s at end stop bs le len x w =
    let i = extent-upto s at end le x in
    let r =
    fixed-sound (fixed_at s (get_or s at 0) (at + 3) stop) children_at s at stop w.0 w.1 bs (children-at-sound s bs) i.0 (omega arith)
    (extent-length s at end x)
    (fixed-in s (get_or s at 0) (at + 3) stop i.0) refl w.2
    in
    subst (λ (f : Field). (encode f ≡ slice at stop s) × Formed f) (sym (whole-standing s at stop w.0 w.1 i.0 w.2)) (r.0, r.1)

root-sound : (root : Set) (s : List ℕ) (fs : Fields) → encodes fs ≡ s → FormedAll fs (top root) → depths fs ≤ 64 →
    (f : Field) × (fs ≡ more f none) × Within root f × (encode f ≡ s)
unfolding encode
root-sound root s fs e w d =
    let m = formed-one root Nothing Nothing Nothing fs w in
    let one : fs ≡ more m.0 none = m.2 ∙ ap (more m.0) (formed-none m.1 m.5) in
    let k = depth-one m.0 in
    let l = ap depths one in
    (m.0, one, (m.3, m.4, omega arith), sym (append-nil (encode m.0)) ∙ ap encodes (sym one) ∙ e)

-- what is read is one tree within the root, and encodes to the bytes
pub read-sound : (root : Set) (s : List ℕ) (fs : Fields) → Bytes s → read root s ≡ fine fs →
    (f : Field) × (fs ≡ more f none) × Within root f × (encode f ≡ s)
read-sound root s fs bs e =
    let w = children-at-sound s bs 0 (length s) 0 (top root) 0 fs (omega arith) (omega arith) (read-children root s fs e) in
    root-sound root s fs (w.0 ∙ take-length s) w.1 (let z = w.2 (omega arith) in omega arith)
