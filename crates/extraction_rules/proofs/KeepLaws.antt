-- Fields that are kept by a test: those that meet it. So the specifiers of an import and its attributes are told apart.
use Rattle.std.specs.Prelude.{Option, None, Some}
use Prim.Native.Nat.{ℕ}
use mathlib.Core.Path.{◌≡◌, refl, ap, ap₂, ◌∙◌, sym}
use mathlib.Core.Bool.{Bool, true, false, not, cond}
use Rattle.tree.specs.Tree.{Field, Fields, none, more, tag_of}
use Rattle.metadata.specs.Metadata.{append, with_metadata}
use Rattle.metadata.proofs.EncodeLaws.{append-none}
use Rattle.inputs.specs.Fields.{has, keep}
use Rattle.extraction_rules.specs.First.{specifiers_in, attributes_in, with_context}
use borrow.Author.Tests.{eqb-true}
use native.Mathlib.Omega.{arith}

-- P holds of each field
abbrev pub Each : (Field → Type 0) → Fields → Type 0
Each P none = Unit {0}
Each P (more f fs) = P f × Each P fs

pub each-append : (P : Field → Type 0) (fs gs : Fields) → Each P fs → Each P gs → Each P (append fs gs)
unfolding append
each-append P none gs h k = k
each-append P (more f fs) gs h k = (h.0, each-append P fs gs h.1 k)

pub each-weaken : (P Q : Field → Type 0) (fs : Fields) → ((f : Field) → P f → Q f) → Each P fs → Each Q fs
each-weaken P Q none k h = tt
each-weaken P Q (more f fs) k h = (k f h.0, each-weaken P Q fs k h.1)

pub each-both : (P Q : Field → Type 0) (fs : Fields) → Each P fs → Each Q fs → Each (λ f. P f × Q f) fs
each-both P Q none h k = tt
each-both P Q (more f fs) h k = ((h.0, k.0), each-both P Q fs h.1 k.1)

-- ---- What is kept

pub keep-none : (p : Field → Bool) → keep p none ≡ none
unfolding keep
keep-none p = refl

pub keep-yes : (p : Field → Bool) (f : Field) (fs : Fields) → p f ≡ true → keep p (more f fs) ≡ more f (keep p fs)
unfolding keep
keep-yes p f fs e = rw e refl

pub keep-no : (p : Field → Bool) (f : Field) (fs : Fields) → p f ≡ false → keep p (more f fs) ≡ keep p fs
unfolding keep
keep-no p f fs e = rw e refl

pub keep-append : (t : Field → Bool) (fs gs : Fields) → keep t (append fs gs) ≡ append (keep t fs) (keep t gs)
unfolding keep append
keep-append t none gs = refl
keep-append t (more f fs) gs = go (t f) (keep-append t fs gs)
  where
    go : (b : Bool) → keep t (append fs gs) ≡ append (keep t fs) (keep t gs) →
        cond b (more f (keep t (append fs gs))) (keep t (append fs gs)) ≡ append (cond b (more f (keep t fs)) (keep t fs)) (keep t gs)
    go true h = ap (more f) h
    go false h = h

-- every field meets the test
abbrev pub Meets : (Field → Bool) → Fields → Type 0
Meets p fs = Each (λ f. p f ≡ true) fs

pub keep-all : (p : Field → Bool) (fs : Fields) → Meets p fs → keep p fs ≡ fs
keep-all p none h = keep-none p
keep-all p (more f fs) h = keep-yes p f fs h.0 ∙ ap (more f) (keep-all p fs h.1)

pub keep-meets : (p : Field → Bool) (fs : Fields) → Meets p (keep p fs)
unfolding keep
keep-meets p none = tt
keep-meets p (more f fs) = go (p f) refl (keep-meets p fs)
  where
    go : (b : Bool) → p f ≡ b → Meets p (keep p fs) → Meets p (cond b (more f (keep p fs)) (keep p fs))
    go true q h = (q, h)
    go false q h = h

-- ---- Specifiers in front of attributes

-- no part is a 2F
abbrev pub not_attributes : Field → Bool
not_attributes f = not (has 0x2F f)

pub specifiers-front : (fs gs : Fields) → Meets not_attributes fs → specifiers_in gs ≡ none → specifiers_in (append fs gs) ≡ fs
specifiers-front fs gs h k = keep-append not_attributes fs gs ∙ ap₂ {C = Fields} append (keep-all not_attributes fs h) k ∙ append-none fs

pub no-specifiers : (ds : Fields) → specifiers_in (attributes_in ds) ≡ none
unfolding keep
no-specifiers none = refl
no-specifiers (more f fs) = go (has 0x2F f) refl (no-specifiers fs)
  where
    go : (b : Bool) → has 0x2F f ≡ b → specifiers_in (attributes_in fs) ≡ none → specifiers_in (cond b (more f (attributes_in fs)) (attributes_in fs)) ≡ none
    go true q h = rw q h
    go false q h = h

pub no-context : (m : Option ℕ) (ds : Fields) → specifiers_in (with_context m ds) ≡ none
unfolding keep with_context with_metadata
no-context None ds = no-specifiers ds
no-context (Some n) ds = refl

-- the attributes are no namespace
pub keep-specifiers : (fs : Fields) → keep (has 0x22) (specifiers_in fs) ≡ keep (has 0x22) fs
unfolding keep
keep-specifiers none = refl
keep-specifiers (more f fs) = go (has 0x2F f) (has 0x22 f) refl refl (keep-specifiers fs)
  where
    go : (a b : Bool) → has 0x2F f ≡ a → has 0x22 f ≡ b → keep (has 0x22) (specifiers_in fs) ≡ keep (has 0x22) fs →
        keep (has 0x22) (cond (not a) (more f (specifiers_in fs)) (specifiers_in fs)) ≡ cond b (more f (keep (has 0x22) fs)) (keep (has 0x22) fs)
    go true true p q h = absurd (let v : ◌≡◌ {A = ℕ} 0x2F 0x22 = sym (eqb-true (tag_of f) 0x2F p) ∙ eqb-true (tag_of f) 0x22 q in omega arith)
    go true false p q h = h
    go false true p q h = rw q (ap (more f) h)
    go false false p q h = rw q h
