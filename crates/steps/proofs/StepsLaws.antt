-- Steps one after the other: what two steps do, or the first one's refusal, is what the rule of both does.
use Rattle.std.specs.Prelude.{Result, Ok, Err}
use Prim.Native.Nat.{ℕ}
use mathlib.Core.Path.{◌≡◌, refl, sym, ap, subst, ◌∙◌}
use mathlib.Core.List.{List, [], ◌++◌, append-nil}
use lib.ListN.{length, length-set}
use Rattle.writer.specs.Wrote.{Wrote, Opened}
use Rattle.writer.proofs.Wrote.{wrote-none, wrote-then, wrote-as, wrote-field}
use Rattle.tree.specs.Tree.{field, Fields, encode, encodes}
use Rattle.metadata.proofs.EncodeLaws.{framed-field}
use Rattle.inputs.specs.Outcome.{Outcome, done, refused, onto}
use Rattle.extraction_rules.specs.State.{State, Act}
use Rattle.state.specs.Cells.{Env, Shows}
use Rattle.state.specs.Does.{Turns, Did}
use Rattle.steps.specs.Refusal.{Refusal}
use Rattle.steps.specs.Step.{Step, Effect, Steps, Effects, Begun, Ended, with_parts, Made}
use Rattle.steps.specs.Refusal.{refusal_of}

-- ---- Answers

pub done-refused : {A T E : Type 0} {k : Result T E} {p : T} {e : E} → k ≡ Ok p → k ≡ Err e → A
done-refused {p = p} {e} f g = absurd (cc)

pub done-same : {p q : ℕ} → ◌≡◌ {A = Step} (Ok p) (Ok q) → p ≡ q
done-same e = cc

pub refused-as : {A T : Type 0} {m : Outcome A} {e f : Refusal} → m ≡ refused (refusal_of e.why) e.place → ◌≡◌ {A = Result T Refusal} (Err e) (Err f) →
    m ≡ refused (refusal_of f.why) f.place
refused-as {e = e} {f} g h = let z : e ≡ f = cc in g ∙ ap (λ (r : Refusal). refused (refusal_of r.why) r.place) z

pub fine-turned : {A T E : Type 0} {a : T} {e : E} → ◌≡◌ {A = Result T E} (Ok a) (Err e) → A
fine-turned f = done-refused refl f

pub turned-as : {A : Type 0} {m : Outcome A} {e f : Refusal} → m ≡ refused (refusal_of e.why) e.place → ◌≡◌ {A = Effect} (Err e) (Err f) →
    m ≡ refused (refusal_of f.why) f.place
turned-as g h = refused-as g h

-- ---- One step

-- it is done, or refused
module _ {A : Type 0} {bytes : A → List ℕ} {P : Env → State → Type 0} {act : Env → Act A} {t out : List ℕ} {o : ℕ} {t' out' : List ℕ}
    (z : length out' ≡ length out) where
  pub steps-done : {p : ℕ} → ((x : Env) (s : State) → Shows x t s → P x s → Made bytes x (act x s) out o t' out' p) → Steps bytes P act t out o t' out' (Ok p)
  steps-done h =
      record {
        size = z;
        made = λ q e {x = x} s w c. subst (λ (j : ℕ). Made bytes x (act x s) out o t' out' j) (done-same e) (h x s w c);
        turned = λ e f s w c. done-refused refl f;
      }

  pub steps-refused : {e : Refusal} → ((x : Env) (s : State) → Shows x t s → P x s → act x s ≡ refused (refusal_of e.why) e.place) →
      Steps bytes P act t out o t' out' (Err e)
  steps-refused h =
      record { size = z; made = λ p f s w c. done-refused f refl; turned = λ f g {x = x} s w c. refused-as (h x s w c) g }

-- by what its answer is
pub steps-is : {A : Type 0} {bytes : A → List ℕ} {P : Env → State → Type 0} {act : Env → Act A} {t out t' out' : List ℕ} {o : ℕ} {j k : Step} →
    Steps bytes P act t out o t' out' j → j ≡ k → Steps bytes P act t out o t' out' k
steps-is {bytes = bytes} {P} {act} {t} {out} {t'} {out'} {o} m e = subst (Steps bytes P act t out o t' out') e m

-- nothing is written, and nothing changes
pub steps-give : {A : Type 0} (bytes : A → List ℕ) (P : Env → State → Type 0) (act : Env → Act A) (a : A) {t out : List ℕ} {o : ℕ} → bytes a ≡ [] →
    ((x : Env) (s : State) → P x s → act x s ≡ done (a, s)) → Steps bytes P act t out o t out (Ok o)
steps-give bytes P act a e h =
    steps-done refl (λ x s w c. record { value = a; state = s; is = h x s c; wrote = wrote-as wrote-none (sym e); shows = w })

-- another rule that does the same in every state that is shown
pub steps-by : {A : Type 0} {bytes : A → List ℕ} {P Q : Env → State → Type 0} {act : Env → Act A} (rule : Env → Act A) {t out t' out' : List ℕ} {o : ℕ} {k : Step} →
    Steps bytes P act t out o t' out' k → ((x : Env) (s : State) → Shows x t s → Q x s → P x s × (rule x s ≡ act x s)) → Steps bytes Q rule t out o t' out' k
steps-by rule m h =
    record {
      size = m.size;
      made = λ p q {x = x} s w c.
          let z = h x s w c in
          let d = m.made p q s w z.0 in
          record { value = d.value; state = d.state; is = z.1 ∙ d.is; wrote = d.wrote; shows = d.shows };
      turned = λ e q {x = x} s w c. let z = h x s w c in z.1 ∙ m.turned e q s w z.0;
    }

-- or in every state
pub steps-as : {A : Type 0} {bytes : A → List ℕ} {P Q : Env → State → Type 0} {act : Env → Act A} (rule : Env → Act A) {t out t' out' : List ℕ} {o : ℕ} {k : Step} →
    Steps bytes P act t out o t' out' k → ((x : Env) (s : State) → Q x s → P x s × (rule x s ≡ act x s)) → Steps bytes Q rule t out o t' out' k
steps-as rule m h = steps-by rule m (λ x s w c. h x s c)

-- a value made of the step's value, with the same bytes
pub steps-map : {A B : Type 0} (b_a : A → List ℕ) (b_b : B → List ℕ) (h : A → B) {P : Env → State → Type 0} (R : Env → State → Type 0) {m : Env → Act A}
    {t out t' out' : List ℕ} {o : ℕ} {k : Step} →
    Steps b_a P m t out o t' out' k → ((x : Env) (s : State) → R x s → P x s) → ((x : Env) (s : State) → R x s → (a : A) (s1 : State) → m x s ≡ done (a, s1) →
    b_b (h a) ≡ b_a a) →
    Steps b_b R (λ x s. onto (m x s) (λ r. done (h r.0, r.1))) t out o t' out' k
steps-map {A} {B} b_a b_b h R m before bytes =
    record {
      size = m.size;
      made = λ p q {x = x} s w c.
          let d = m.made p q s w (before x s c) in
          record {
            value = h d.value;
            state = d.state;
            is = ap (λ (z : Outcome (A × State)). onto z (λ r. done (h r.0, r.1))) d.is;
            wrote = wrote-as d.wrote (sym (bytes x s c d.value d.state d.is));
            shows = d.shows;
          };
      turned = λ e q {x = x} s w c. ap (λ (z : Outcome (A × State)). onto z (λ r. done (h r.0, r.1))) (m.turned e q s w (before x s c));
    }

-- a step from a state that was changed before
pub steps-changed : {A : Type 0} {bytes : A → List ℕ} {P : Env → State → Type 0} {act : Env → Act A} (f : State → State) {t u out t' out' : List ℕ} {o : ℕ} {k : Step} →
    Turns f t u → Steps bytes P act u out o t' out' k → ((x : Env) (s : State) → P x s → P x (f s)) → Steps bytes P (λ x s. act x (f s)) t out o t' out' k
steps-changed f g m h =
    record {
      size = m.size;
      made = λ p q {x = x} s w c.
          let d = m.made p q (f s) (g.shows s w) (h x s c) in
          record { value = d.value; state = d.state; is = d.is; wrote = d.wrote; shows = d.shows };
      turned = λ e q {x = x} s w c. m.turned e q (f s) (g.shows s w) (h x s c);
    }

-- a change, and bytes that are written at once
pub steps-write : {A : Type 0} (bytes : A → List ℕ) (P : Env → State → Type 0) (rule : Env → Act A) (a : A) (f : State → State) {t t' out out' : List ℕ} {o p : ℕ} →
    Turns f t t' → Wrote out o (bytes a) out' p → ((x : Env) (s : State) → Shows x t s → P x s → rule x s ≡ done (a, f s)) → Steps bytes P rule t out o t' out' (Ok p)
steps-write bytes P rule a f g v h =
    steps-done v.size (λ x s w c. record { value = a; state = f s; is = h x s w c; wrote = v; shows = g.shows s w })

-- where nothing can stand
pub steps-never : {A : Type 0} (bytes : A → List ℕ) (P : Env → State → Type 0) (act : Env → Act A) {t out : List ℕ} {o : ℕ} (k : Step) →
    ((x : Env) (s : State) → P x s → ⊥) → Steps bytes P act t out o t out k
steps-never bytes P act k h =
    record { size = refl; made = λ p q {x = x} s w c. absurd (h x s c); turned = λ e q {x = x} s w c. absurd (h x s c) }

-- ---- Two steps

-- one rule, then another that may look at the first one's value
abbrev pub pair_of : {A B C : Type 0} → (A → B → C) → (Env → Act A) → (A → Env → Act B) → Env → Act C
pair_of h m n = λ x s. onto (m x s) (λ a. onto (n a.0 x a.1) (λ b. done (h a.0 b.0, b.1)))

module _ {A B C : Type 0} (b_a : A → List ℕ) (b_b : B → List ℕ) (b_c : C → List ℕ) (h : A → B → C) (bytes : (a : A) (b : B) → b_c (h a b) ≡ b_a a ++ b_b b)
    {P : Env → State → Type 0} (R : Env → State → Type 0) {m : Env → Act A} (n : A → Env → Act B) {t out : List ℕ} {o : ℕ} where
  pub steps-pair : {Q : A → Env → State → Type 0} {t1 out1 : List ℕ} {p : ℕ} → Steps b_a P m t out o t1 out1 (Ok p) → {t2 out2 : List ℕ} {k : Step} →
      ((a : A) → Steps b_b (Q a) (n a) t1 out1 p t2 out2 k) → A →
      ((x : Env) (s : State) → R x s → P x s) → ((x : Env) (s : State) → R x s → (a : A) (s1 : State) → m x s ≡ done (a, s1) → Q a x s1) →
      Steps b_c R (pair_of h m n) t out o t2 out2 k
  steps-pair {p = p} first {t2} {out2} {k} second a₀ before between =
      record {
        size = (second a₀).size ∙ first.size;
        made = λ q e {x = x} s w c.
            let d = first.made p refl s w (before x s c) in
            let f = (second d.value).made q e d.state d.shows (between x s c d.value d.state d.is) in
            record {
              value = h d.value f.value;
              state = f.state;
              is =
                  ap (λ (z : Outcome (A × State)). onto z (λ a. onto (n a.0 x a.1) (λ b. done (h a.0 b.0, b.1)))) d.is
                  ∙ ap (λ (z : Outcome (B × State)). onto z (λ b. done (h d.value b.0, b.1))) f.is;
              wrote = wrote-as (wrote-then d.wrote f.wrote) (sym (bytes d.value f.value));
              shows = f.shows;
            };
        turned = λ r e {x = x} s w c.
            let d = first.made p refl s w (before x s c) in
            let f = (second d.value).turned r e d.state d.shows (between x s c d.value d.state d.is) in
            ap (λ (z : Outcome (A × State)). onto z (λ a. onto (n a.0 x a.1) (λ b. done (h a.0 b.0, b.1)))) d.is
            ∙ ap (λ (z : Outcome (B × State)). onto z (λ b. done (h d.value b.0, b.1))) f;
      }

  -- the first is refused
  pub steps-turned : {t1 out1 : List ℕ} {e : Refusal} → Steps b_a P m t out o t1 out1 (Err e) → ((x : Env) (s : State) → R x s → P x s) →
      Steps b_c R (pair_of h m n) t out o t1 out1 (Err e)
  steps-turned {e = e} first before =
      steps-refused first.size (λ x s w c.
      ap (λ (z : Outcome (A × State)). onto z (λ a. onto (n a.0 x a.1) (λ b. done (h a.0 b.0, b.1)))) (first.turned e refl s w (before x s c)))

-- ---- A field and its parts

opened-size : {l m : List ℕ} {o n a : ℕ} → Opened l o n m a → length m ≡ length l
opened-size {l} {o = o} {n} u = ap length u.tag ∙ length-set l o n

pub begun : {l m l' x : List ℕ} {o n a c : ℕ} → Opened l o n m a → Wrote m a x l' c → Begun l o n x l' c
begun {m = m} {a = a} u v = record { head = m; start = a; opened = u; fixed = v }

pub steps-field : {P : Env → State → Type 0} {act : Env → Act Fields} {t t' out out1 out2 out3 x : List ℕ} {o n c : ℕ} (r : Step) {k : Step} →
    Begun out o n x out1 c → Steps encodes P act t out1 c t' out2 r → Ended o r out2 out3 k → Steps encode P (with_parts n x act) t out o t' out3 k
steps-field {out = out} {out3 = out3} {x} {o} {n} (Ok p) b m e =
    let k = e.done p refl in
    record {
      size = e.size ∙ m.size ∙ b.fixed.size ∙ opened-size b.opened;
      made = λ q f s w c.
          let d = m.made p refl s w c in
          let z : p ≡ q = done-same (sym k.0 ∙ f) in
          record {
            value = field n x d.value;
            state = d.state;
            is = ap (λ (u : Outcome (Fields × State)). onto u (λ r. done (field n x r.0, r.1))) d.is;
            wrote =
                subst (λ (i : ℕ). Wrote out o (encode (field n x d.value)) out3 i) z
                (wrote-as (wrote-field b.opened (wrote-then b.fixed d.wrote) k.1) (framed-field n x d.value));
            shows = d.shows;
          };
      turned = λ v f s w c. done-refused k.0 f;
    }
steps-field {x = x} {n = n} (Err v) b m e =
    record {
      size = e.size ∙ m.size ∙ b.fixed.size ∙ opened-size b.opened;
      made = λ q f s w c. done-refused f (e.refused v refl);
      turned = λ u f s w c.
          refused-as (ap (λ (i : Outcome (Fields × State)). onto i (λ r. done (field n x r.0, r.1))) (m.turned v refl s w c)) (sym (e.refused v refl) ∙ f);
    }

-- ---- Steps that write nothing

pub steps-did : {P : Env → State → Type 0} {act : Env → Act (Unit {0})} {t t' out : List ℕ} {o : ℕ} → ((x : Env) (s : State) → Shows x t s → P x s →
    Did x (act x s) t') →
    Steps (λ _. []) P act t out o t' out (Ok o)
steps-did h = steps-done refl (λ x s w c. let d = h x s w c in record { value = tt; state = d.state; is = d.is; wrote = wrote-none; shows = d.shows })

pub effects-fine : {P : Env → State → Type 0} {act : Env → Act (Unit {0})} {t t' out : List ℕ} {o : ℕ} {k : Effect} → Effects P act t t' k → k ≡ Ok tt →
    Steps (λ _. []) P act t out o t' out (Ok o)
effects-fine m e = steps-did (λ x s w c. m.fine e s w c)

pub effects-turned : {P : Env → State → Type 0} {act : Env → Act (Unit {0})} {t t' out : List ℕ} {o : ℕ} {e : Refusal} {k : Effect} → Effects P act t t' k → k ≡ Err e →
    Steps (λ _. []) P act t out o t' out (Err e)
effects-turned {e = e} m f = steps-refused refl (λ x s w c. m.turned e f s w c)

-- a step, and then one that writes nothing
abbrev pub then_of : {A : Type 0} → (Env → Act A) → (Env → Act (Unit {0})) → Env → Act A
then_of m n = pair_of (λ a b. a) m (λ _. n)

pub steps-then : {A : Type 0} (bytes : A → List ℕ) (a₀ : A) {P Q : Env → State → Type 0} (R : Env → State → Type 0) {m : Env → Act A} {n : Env → Act (Unit {0})}
    {t out t1 out1 t2 : List ℕ} {o p : ℕ} {k : Step} →
    Steps bytes P m t out o t1 out1 (Ok p) → Steps (λ _. []) Q n t1 out1 p t2 out1 k →
    ((x : Env) (s : State) → R x s → P x s) → ((x : Env) (s : State) → R x s → (a : A) (s1 : State) → m x s ≡ done (a, s1) → Q x s1) →
    Steps bytes R (then_of m n) t out o t2 out1 k
steps-then bytes a₀ R {n = n} first second before between =
    steps-pair bytes (λ _. []) bytes (λ a b. a) (λ a b. sym (append-nil (bytes a))) R (λ _. n) first (λ _. second) a₀ before between

pub steps-then-turned : {A : Type 0} (bytes : A → List ℕ) {P : Env → State → Type 0} (R : Env → State → Type 0) {m : Env → Act A} (n : Env → Act (Unit {0}))
    {t out t1 out1 : List ℕ} {o : ℕ} {e : Refusal} →
    Steps bytes P m t out o t1 out1 (Err e) → ((x : Env) (s : State) → R x s → P x s) → Steps bytes R (then_of m n) t out o t1 out1 (Err e)
steps-then-turned bytes R n first before = steps-turned bytes (λ _. []) bytes (λ a b. a) (λ a b. sym (append-nil (bytes a))) R (λ _. n) first before
