-- Searches in lists and in lists of byte runs.
use Rattle.std.specs.Prelude.{Some}
use Prim.Native.Nat.{ℕ}
use mathlib.Core.Path.{◌≡◌, refl, sym, ap, subst, ◌∙◌}
use mathlib.Core.Bool.{Bool, true, false, cond, ◌||◌, true≢false, or-false, or_assoc}
use mathlib.Core.List.{List, [], ◌∷◌, ◌++◌, map}
use native.Mathlib.Omega.{arith}
use Rattle.tree.specs.Layout.{same}
use Rattle.tree.proofs.LayoutLaws.{same-refl, same-equal}
use Rattle.inputs.specs.Lists.{find, filter, among}
use Rattle.extraction_rules.proofs.TestLaws.{or-neither, neither-or, is-false}

-- P holds of every element
abbrev pub All : {A : Type 0} → (A → Type 0) → List A → Type 0
All P [] = Unit {0}
All P (a ∷ l) = P a × All P l

pub all-weaken : {A : Type 0} (P Q : A → Type 0) (l : List A) → ((a : A) → P a → Q a) → All P l → All Q l
all-weaken P Q [] k h = tt
all-weaken P Q (a ∷ l) k h = (k a h.0, all-weaken P Q l k h.1)

pub all-last : {A : Type 0} (P : A → Type 0) (l : List A) (b : A) → All P l → P b → All P (l ++ (b ∷ []))
all-last P [] b h k = (k, tt)
all-last P (a ∷ l) b h k = (h.0, all-last P l b h.1 k)

pub all-filter : {A : Type 0} (P Q : A → Type 0) (t : A → Bool) (l : List A) → ((a : A) → t a ≡ true → P a → Q a) → All P l → All Q (filter t l)
unfolding filter
all-filter P Q t [] k h = tt
all-filter P Q t (a ∷ l) k h = go (t a) refl (all-filter P Q t l k h.1)
  where
    go : (b : Bool) → t a ≡ b → All Q (filter t l) → All Q (cond b (a ∷ filter t l) (filter t l))
    go true e r = (k a e h.0, r)
    go false e r = r

pub all-map : {A B : Type 0} (P : A → Type 0) (Q : B → Type 0) (f : A → B) (l : List A) → ((a : A) → P a → Q (f a)) → All P l → All Q (map f l)
all-map P Q f [] k h = tt
all-map P Q f (a ∷ l) k h = (k a h.0, all-map P Q f l k h.1)

-- what is found meets P
pub all-find : {A : Type 0} (P : A → Type 0) (t : A → Bool) (l : List A) (a : A) → All P l → find t l ≡ Some a → P a
unfolding find
all-find P t [] a h e = absurd (let z : ◌≡◌ {A = ℕ} 0 1 = cc in omega arith)
all-find P t (b ∷ l) a h e = go (t b) e (all-find P t l a h.1)
  where
    go : (c : Bool) → cond c (Some b) (find t l) ≡ Some a → (find t l ≡ Some a → P a) → P a
    go true e k = subst P (let q : b ≡ a = cc in q) h.0
    go false e k = k e

-- the first of those that meet a test
pub all-first : {A : Type 0} (P : A → Type 0) (t : A → Bool) (l : List A) (a : A) (r : List A) → All P l → filter t l ≡ a ∷ r → P a × (t a ≡ true)
unfolding filter
all-first P t [] a r h e = absurd (let z : ◌≡◌ {A = ℕ} 0 1 = cc in omega arith)
all-first P t (b ∷ l) a r h e = go (t b) refl e (all-first P t l a r h.1)
  where
    go : (c : Bool) → t b ≡ c → cond c (b ∷ filter t l) (filter t l) ≡ a ∷ r → (filter t l ≡ a ∷ r → P a × (t a ≡ true)) → P a × (t a ≡ true)
    go true w e k = let q : b ≡ a = cc in (subst P q h.0, ap t (sym q) ∙ w)
    go false w e k = k e

-- ---- Runs of bytes

pub same-not : (l m : List ℕ) → (l ≡ m → ⊥) → same l m ≡ false
same-not l m h = is-false (same l m) (λ e. h (same-equal l m e))

pub not-same : (l m : List ℕ) → same l m ≡ false → l ≡ m → ⊥
not-same l m e q = true≢false (sym (same-refl m) ∙ ap (λ (x : List ℕ). same x m) (sym q) ∙ e)

pub same-swap : (l m : List ℕ) → same l m ≡ same m l
same-swap l m = go (same l m) refl
  where
    go : (b : Bool) → same l m ≡ b → b ≡ same m l
    go true e = sym (ap (same m) (same-equal l m e) ∙ same-refl m)
    go false e = sym (same-not m l (λ q. not-same l m e (sym q)))

pub among-last : (a b : List ℕ) (l : List (List ℕ)) → among a (l ++ (b ∷ [])) ≡ among a l || same a b
unfolding among
among-last a b [] = or-false (same a b)
among-last a b (c ∷ l) = rw (among-last a b l) (sym (or_assoc (same a c) (among a l) (same a b)))

pub among-more : (a b : List ℕ) (l : List (List ℕ)) → among a l ≡ true → among a (l ++ (b ∷ [])) ≡ true
among-more a b l h = among-last a b l ∙ ap (λ (c : Bool). c || same a b) h

pub among-new : (a : List ℕ) (l : List (List ℕ)) → among a (l ++ (a ∷ [])) ≡ true
among-new a l = among-last a a l ∙ go (among a l)
  where
    go : (b : Bool) → b || same a a ≡ true
    go true = refl
    go false = same-refl a

-- no two are equal
abbrev pub Distinct : List (List ℕ) → Type 0
Distinct [] = Unit {0}
Distinct (a ∷ l) = (among a l ≡ false) × Distinct l

pub distinct-last : (l : List (List ℕ)) (b : List ℕ) → Distinct l → among b l ≡ false → Distinct (l ++ (b ∷ []))
unfolding among
distinct-last [] b h n = (refl, tt)
distinct-last (a ∷ l) b h n =
    let m = or-neither (same b a) (among b l) n in
    (among-last a b l ∙ neither-or (among a l) (same a b) h.0 (same-swap a b ∙ m.0), distinct-last l b h.1 m.1)
