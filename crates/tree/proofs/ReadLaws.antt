-- Reading: what it finds lies inside, its fuel is always enough, and what the code makes of each head.
use Rattle.std.specs.Prelude.{Option, Some, None, Result, Ok, Err}
use Prim.Native.Nat.{ℕ, zero, suc, ◌+◌, ◌-◌, ◌≤◌, ◌<◌}
use mathlib.Core.Path.{◌≡◌, refl, ap, ap₂, subst, ◌∙◌}
use mathlib.Core.Bool.{Bool, true, false, cond}
use mathlib.Core.List.{List}
use lib.Dec.{ltb, leb, eqb}
use lib.ListN.{get_or, length}
use lib.Seq.{slice}
use borrow.Author.Tests.{ltb-true, eqb-true, eq-eqb}
use native.Mathlib.Omega.{arith}
use Rattle.tree.specs.declared.grammar.Set.{Set}
use Rattle.tree.specs.declared.grammar.Rule.{Rule}
use Rattle.tree.specs.declared.read.Why.{Why}
use Rattle.tree.specs.declared.read.Why.TheVariants.{Cut, Lacking, Deep}
use Rattle.tree.specs.declared.read.Head.{Head}
use Rattle.tree.specs.declared.read.Head.TheVariants.{Done, Missing, Bad, Child}
use Rattle.tree.specs.Read.{Unread}
use Rattle.tree.specs.Layout.{skip_at}
use Rattle.tree.specs.Tree.{field, Fields, more}
use Rattle.tree.specs.Grammar.{rule_of, step_at, done_at}
use Rattle.tree.specs.Access.{fixed_at, length_at, extent_at}
use Rattle.tree.specs.Read.{Reading, fine, refused, mapped, both, verdict, Kids, on_extent, on_step, head_at, on_fixed, content_by, on_head, children, children_at, content_at, top, read}
use Rattle.tree.proofs.AccessLaws.{cond-ind, ReachIn, fixed-in, extent-in}

-- a child stands inside, and its depth is at most 64
abbrev pub HeadIn : ℕ → ℕ → ℕ → Head → Type 0
HeadIn at end d Done = Unit
HeadIn at end d Missing = Unit
HeadIn at end d (Bad w) = Unit
HeadIn at end d (Child q stop) = (at + 3 ≤ stop) × (stop ≤ end) × (d < 64)

extent-head : (r : Option ℕ) (q : Rule) (at end d : ℕ) → ReachIn (at + 3) end r → HeadIn at end d (on_extent r q d)
unfolding on_extent
extent-head None q at end d h = tt
extent-head (Some stop) q at end d h =
    cond-ind (HeadIn at end d) (ltb d 64) (Child q stop) (Bad Deep) (λ e. (h.0, h.1, ltb-true d 64 e)) (λ e. tt)

step-head : (x : Option Rule) (s : List ℕ) (at end d : ℕ) → at ≤ end → HeadIn at end d (on_step x s at end d)
unfolding on_step
step-head None s at end d h = tt
step-head (Some q) s at end d h = extent-head (extent_at s at end) q at end d (extent-in s at end h)

pub head-in : (s : List ℕ) (at end d : ℕ) (q : Rule) → at ≤ end → HeadIn at end d (head_at s at end d q)
unfolding head_at
head-in s at end d q h =
    cond-ind (HeadIn at end d) (eqb at end) (cond (done_at q) Done Missing) (on_step (step_at q (get_or s at 0)) s at end d)
    (λ e. cond-ind (HeadIn at end d) (done_at q) Done Missing (λ _. tt) (λ _. tt)) (λ e. step-head (step_at q (get_or s at 0)) s at end d h)

pub child-in : (s : List ℕ) (at end d : ℕ) (q : Rule) {q' : Rule} {stop : ℕ} → at ≤ end →
    head_at s at end d q ≡ Child q' stop → HeadIn at end d (Child q' stop)
child-in s at end d q le e = subst (HeadIn at end d) e (head-in s at end d q le)

-- two readings of children agree on parts that start after `at` and end inside `end`
abbrev Agree : Kids → Kids → List ℕ → ℕ → ℕ → Type 0
Agree k k' s at end = (a e d : ℕ) (q : Rule) (p : ℕ) → at < a → a ≤ e → e ≤ end → k s a e d q p ≡ k' s a e d q p

fixed-agree : (r : Option ℕ) (k k' : Kids) (s : List ℕ) (at stop end d : ℕ) → ReachIn (at + 3) stop r → stop ≤ end →
    Agree k k' s at end →
    on_fixed r k s at stop d ≡ on_fixed r k' s at stop d
unfolding on_fixed
fixed-agree None k k' s at stop end d h le g = refl
fixed-agree (Some b) k k' s at stop end d h le g =
    ap (mapped (field (get_or s at 0) (slice (at + 3) b s))) (g b stop d (rule_of (get_or s at 0)) at (omega arith) h.1 le)

content-agree : (k k' : Kids) (s : List ℕ) (at stop end d : ℕ) → at + 3 ≤ stop → stop ≤ end → Agree k k' s at end →
    content_by k s at stop d ≡ content_by k' s at stop d
unfolding content_by
content-agree k k' s at stop end d h le g =
    fixed-agree (fixed_at s (get_or s at 0) (at + 3) stop) k k' s at stop end d (fixed-in s (get_or s at 0) (at + 3) stop h) le g

head-agree : (h : Head) (k k' : Kids) (s : List ℕ) (at end d p : ℕ) → HeadIn at end d h → Agree k k' s at end →
    on_head h k s at end d p ≡ on_head h k' s at end d p
unfolding on_head
head-agree Done k k' s at end d p i g = refl
head-agree Missing k k' s at end d p i g = refl
head-agree (Bad w) k k' s at end d p i g = refl
head-agree (Child q stop) k k' s at end d p i g =
    ap₂ (both more) (content-agree k k' s at stop end (d + 1) i.0 i.1 g) (g stop end d q p (omega arith) i.1 (omega arith))

enough : (n m : ℕ) (s : List ℕ) (at end d : ℕ) (q : Rule) (p : ℕ) → at ≤ end → end - at < n → end - at < m →
    children n s at end d q p ≡ children m s at end d q p
unfolding children
enough zero m s at end d q p le hn hm = absurd (omega arith)
enough (suc n) zero s at end d q p le hn hm = absurd (omega arith)
enough (suc n) (suc m) s at end d q p le hn hm =
    head-agree (head_at s at end d q) (children n) (children m) s at end d p (head-in s at end d q le)
    (λ a e d' q' p' l₁ l₂ l₃. enough n m s a e d' q' p' l₂ (omega arith) (omega arith))

pub children-step : (s : List ℕ) (at end d : ℕ) (q : Rule) (p : ℕ) → at ≤ end →
    children_at s at end d q p ≡ on_head (head_at s at end d q) children_at s at end d p
unfolding children_at children
children-step s at end d q p le =
    head-agree (head_at s at end d q) (children (end - at)) children_at s at end d p (head-in s at end d q le)
    (λ a e d' q' p' l₁ l₂ l₃. enough (end - at) (suc (e - a)) s a e d' q' p' l₂ (omega arith) (omega arith))

-- the first, then the second; the first refusal stands
abbrev pub after : Result Unit Unread → Result Unit Unread → Result Unit Unread
after (Ok u) v = v
after (Err e) v = Err e

pub verdict-mapped : {A B : Type 0} (f : A → B) (r : Reading A) → verdict (mapped f r) ≡ verdict r
verdict-mapped f (fine a) = refl
verdict-mapped f (refused w p) = refl

verdict-both : {A B C : Type 0} (f : A → B → C) (a : Reading A) (b : Reading B) →
    verdict (both f a b) ≡ after (verdict a) (verdict b)
verdict-both f (fine a) b = verdict-mapped (f a) b
verdict-both f (refused w p) b = refl

-- the content's verdict, by its fixed bytes
pub content-short : (s : List ℕ) (at stop d : ℕ) → fixed_at s (get_or s at 0) (at + 3) stop ≡ None →
    verdict (content_at s at stop d) ≡ Err (record { why = Lacking; place = at })
unfolding content_at content_by on_fixed
content-short s at stop d e = rw e

pub content-upto : (s : List ℕ) (at stop d b : ℕ) → fixed_at s (get_or s at 0) (at + 3) stop ≡ Some b →
    verdict (content_at s at stop d) ≡ verdict (children_at s b stop d (rule_of (get_or s at 0)) at)
unfolding content_at content_by on_fixed
content-upto s at stop d b e = rw e (verdict-mapped (field (get_or s at 0) (slice (at + 3) b s)) (children_at s b stop d (rule_of (get_or s at 0)) at))

-- the children's verdict, by their head
abbrev pub verdict-by : Head → List ℕ → ℕ → ℕ → ℕ → ℕ → Result Unit Unread
verdict-by Done s at end d p = Ok tt
verdict-by Missing s at end d p = Err (record { why = Lacking; place = p })
verdict-by (Bad w) s at end d p = Err (record { why = w; place = at })
verdict-by (Child q stop) s at end d p = after (verdict (content_at s at stop (d + 1))) (verdict (children_at s stop end d q p))

on-head : (h : Head) (s : List ℕ) (at end d p : ℕ) →
    verdict (on_head h children_at s at end d p) ≡ verdict-by h s at end d p
unfolding on_head content_at
on-head Done s at end d p = refl
on-head Missing s at end d p = refl
on-head (Bad w) s at end d p = refl
on-head (Child q stop) s at end d p = verdict-both more (content_by children_at s at stop (d + 1)) (children_at s stop end d q p)

pub children-verdict : (s : List ℕ) (at end d : ℕ) (q : Rule) (p : ℕ) (h : Head) → at ≤ end → head_at s at end d q ≡ h →
    verdict (children_at s at end d q p) ≡ verdict-by h s at end d p
children-verdict s at end d q p h le e =
    ap verdict (children-step s at end d q p le) ∙ on-head (head_at s at end d q) s at end d p ∙ ap (λ (x : Head). verdict-by x s at end d p) e

-- the verdict at the end of the parts
pub end-done : (s : List ℕ) (at end d : ℕ) (q : Rule) (p : ℕ) → at ≡ end → done_at q ≡ true → verdict (children_at s at end d q p) ≡ Ok tt
unfolding head_at
end-done s at end d q p e x = children-verdict s at end d q p Done (omega arith) (rw (eq-eqb at end e, x))

pub end-lacks : (s : List ℕ) (at end d : ℕ) (q : Rule) (p : ℕ) → at ≡ end → done_at q ≡ false →
    verdict (children_at s at end d q p) ≡ Err (record { why = Lacking; place = p })
unfolding head_at
end-lacks s at end d q p e x = children-verdict s at end d q p Missing (omega arith) (rw (eq-eqb at end e, x))

pub after-good : {v : Result Unit Unread} (w : Result Unit Unread) → v ≡ Ok tt → after v w ≡ w
after-good w e = rw e

pub after-refused : {v : Result Unit Unread} {r : Unread} (w : Result Unit Unread) → v ≡ Err r → after v w ≡ Err r
after-refused w e = rw e

-- ---- what an accepted reading says

pub no-refused : {A : Type 0} {w : Why} {p : ℕ} {a : A} → refused w p ≡ fine a → ⊥
no-refused e = cc

pub fine-inj : {A : Type 0} {a b : A} → fine a ≡ fine b → a ≡ b
fine-inj e = cc

pub mapped-fine : {A B : Type 0} (f : A → B) (r : Reading A) (b : B) → mapped f r ≡ fine b →
    (a : A) × (r ≡ fine a) × (f a ≡ b)
mapped-fine f (fine a) b e = (a, refl, fine-inj e)
mapped-fine f (refused w p) b e = absurd (no-refused e)

pub both-fine : {A B C : Type 0} (f : A → B → C) (r : Reading A) (t : Reading B) (c : C) → both f r t ≡ fine c →
    (a : A) × (b : B) × (r ≡ fine a) × (t ≡ fine b) × (f a b ≡ c)
both-fine f (fine a) t c e = let m = mapped-fine (f a) t c e in (a, m.0, refl, m.1, m.2)
both-fine f (refused w p) t c e = absurd (no-refused e)

-- what a head says of the bytes: at the end, or a child whose tag the rule takes and whose length it has
abbrev pub Says : List ℕ → ℕ → ℕ → Rule → Head → Type 0
Says s at end q Done = (at ≡ end) × (done_at q ≡ true)
Says s at end q Missing = Unit
Says s at end q (Bad w) = Unit
Says s at end q (Child q' stop) = (step_at q (get_or s at 0) ≡ Some q') × (stop ≡ at + 3 + length_at s at) × (extent_at s at end ≡ Some stop)

abbrev Stops : List ℕ → ℕ → Option ℕ → Type 0
Stops s at None = Unit
Stops s at (Some stop) = stop ≡ at + 3 + length_at s at

extent-says : (s : List ℕ) (at end : ℕ) → Stops s at (extent_at s at end)
unfolding extent_at skip_at
extent-says s at end =
    cond-ind (Stops s at) (leb 3 (end - at)) (skip_at (at + 3) (length_at s at) end) None
    (λ e. cond-ind (Stops s at) (leb (length_at s at) (end - (at + 3))) (Some (at + 3 + length_at s at)) None (λ _. refl) (λ _. tt)) (λ e. tt)

pub extent-length : (s : List ℕ) (at end : ℕ) {stop : ℕ} → extent_at s at end ≡ Some stop → stop ≡ at + 3 + length_at s at
extent-length s at end e = subst (Stops s at) e (extent-says s at end)

on-extent-says : (r : Option ℕ) (s : List ℕ) (at end d : ℕ) (q q' : Rule) → step_at q (get_or s at 0) ≡ Some q' → Stops s at r →
    extent_at s at end ≡ r → Says s at end q (on_extent r q' d)
unfolding on_extent
on-extent-says None s at end d q q' e h x = tt
on-extent-says (Some stop) s at end d q q' e h x = cond-ind (Says s at end q) (ltb d 64) (Child q' stop) (Bad Deep) (λ _. (e, h, x)) (λ _. tt)

on-step-says : (x : Option Rule) (s : List ℕ) (at end d : ℕ) (q : Rule) → step_at q (get_or s at 0) ≡ x →
    Says s at end q (on_step x s at end d)
unfolding on_step
on-step-says None s at end d q e = tt
on-step-says (Some q') s at end d q e = on-extent-says (extent_at s at end) s at end d q q' e (extent-says s at end) refl

pub head-says : (s : List ℕ) (at end d : ℕ) (q : Rule) → Says s at end q (head_at s at end d q)
unfolding head_at
head-says s at end d q =
    cond-ind (Says s at end q) (eqb at end) (cond (done_at q) Done Missing) (on_step (step_at q (get_or s at 0)) s at end d)
    (λ e. cond-ind (Says s at end q) (done_at q) Done Missing (λ f. (eqb-true at end e, f)) (λ _. tt))
    (λ e. on-step-says (step_at q (get_or s at 0)) s at end d q refl)

read_by : (b : Bool) (r : Reading Fields) (fs : Fields) → cond b (refused Cut 0) r ≡ fine fs → r ≡ fine fs
read_by true r fs e = absurd (no-refused e)
read_by false r fs e = e

-- an accepted reading is one of parts, at depth 0
pub read-children : (root : Set) (s : List ℕ) (fs : Fields) → read root s ≡ fine fs →
    children_at s 0 (length s) 0 (top root) 0 ≡ fine fs
unfolding read
read-children root s fs e = read_by (eqb (length s) 0) (children_at s 0 (length s) 0 (top root) 0) fs e

-- what the code calls good was read
pub good-fine : {A : Type 0} (r : Reading A) → verdict r ≡ Ok tt → (a : A) × (r ≡ fine a)
good-fine (fine a) e = (a, refl)
good-fine (refused w p) e = cc

pub verdict-refused : {A : Type 0} (r : Reading A) {w : Why} {p : ℕ} → verdict r ≡ Err (record { why = w; place = p }) → r ≡ refused w p
verdict-refused (fine a) e = cc
verdict-refused (refused v o) {w} {p} e =
    let h : ◌≡◌ {A = Unread} (record { why = v; place = o }) (record { why = w; place = p }) = cc in
    ap (λ (u : Unread). refused u.why u.place) h
