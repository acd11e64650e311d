-- What holds of the value and the state of a step that is not refused.
use mathlib.Core.Path.{◌≡◌, refl, subst}
use mathlib.Core.Bool.{Bool, true, false, cond}
use Rattle.inputs.specs.Outcome.{Outcome, done, refused, onto}
use Rattle.extraction_rules.specs.State.{State, Act}

-- P holds of the value and the state, if the step is not refused
abbrev pub After : {A : Type 0} → Outcome (A × State) → (A → State → Type 0) → Type 0
After (done r) P = P r.0 r.1
After (refused n p) P = Unit {0}

-- one step, then the next
pub after-bind : {A B : Type 0} (m : Outcome (A × State)) (f : A × State → Outcome (B × State)) (P : A → State → Type 0) (Q : B → State → Type 0) →
    After m P → ((a : A) (s : State) → P a s → After (f (a, s)) Q) → After (onto m f) Q
after-bind (done r) f P Q h k = k r.0 r.1 h
after-bind (refused n p) f P Q h k = tt

pub after-weaken : {A : Type 0} (m : Outcome (A × State)) (P Q : A → State → Type 0) → ((a : A) (s : State) → P a s → Q a s) → After m P → After m Q
after-weaken (done r) P Q k h = k r.0 r.1 h
after-weaken (refused n p) P Q k h = tt

pub after-both : {A : Type 0} (m : Outcome (A × State)) (P Q : A → State → Type 0) → After m P → After m Q → After m (λ a s. P a s × Q a s)
after-both (done r) P Q h k = (h, k)
after-both (refused n p) P Q h k = tt

-- either way of a test
pub after-if : {A : Type 0} (c : Bool) (m n : Act A) (s : State) (Q : A → State → Type 0) → (c ≡ true → After (m s) Q) →
    (c ≡ false → After (n s) Q) → After (cond c m n s) Q
after-if true m n s Q h k = h refl
after-if false m n s Q h k = k refl

-- of a step that gave r
pub after-done : {A : Type 0} (m : Outcome (A × State)) (P : A → State → Type 0) (r : A × State) → m ≡ done r → After m P → P r.0 r.1
after-done m P r e h = subst (λ (o : Outcome (_ × State)). After o P) e h

-- ---- Outcomes of a call

-- P holds of the value, if the call is accepted
abbrev pub Of : {A : Type 0} → Outcome A → (A → Type 0) → Type 0
Of (done a) P = P a
Of (refused n p) P = Unit {0}

pub of-each : {A : Type 0} (m : Outcome A) (P : A → Type 0) → ((a : A) → m ≡ done a → P a) → Of m P
of-each (done a) P h = h a refl
of-each (refused n p) P h = tt

-- of a call that gave a
pub of-done : {A : Type 0} (m : Outcome A) (P : A → Type 0) (a : A) → m ≡ done a → Of m P → P a
of-done m P a e h = subst (λ (o : Outcome _). Of o P) e h

pub of-onto : {A B : Type 0} (m : Outcome A) (f : A → Outcome B) (P : A → Type 0) (Q : B → Type 0) → Of m P →
    ((a : A) → P a → Of (f a) Q) → Of (onto m f) Q
of-onto (done a) f P Q h k = k a h
of-onto (refused n p) f P Q h k = tt
