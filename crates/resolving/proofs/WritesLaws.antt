-- What is written of the rules' values: a value, a refusal, one field after another, a field with its parts.
use Rattle.std.specs.Prelude.{Ok, Err}
use Prim.Native.Nat.{ℕ}
use mathlib.Core.Path.{◌≡◌, refl, sym, ap, subst, ◌∙◌}
use mathlib.Core.List.{List, ◌++◌, append-nil}
use native.Mathlib.Omega.{arith}
use lib.ListN.{length, length-set}
use Rattle.tree.specs.Tree.{Field, field, Fields, none, more, framed as framed_field, encode, encodes}
use Rattle.tree.proofs.TreeLaws.{encodes-none, encodes-more}
use Rattle.writer.specs.Bytes.{framed}
use Rattle.writer.specs.Wrote.{Wrote, Opened, closed}
use Rattle.writer.proofs.Wrote.{wrote-none, wrote-then, wrote-as, wrote-field}
use Rattle.inputs.specs.Outcome.{Outcome, done, refused, onto}
use Rattle.resolving.specs.Writes.{Refusal}
use Rattle.resolving.specs.Writes.{Step, Puts, Onward}
use Rattle.resolving.specs.Answer.{why_number}

-- a field's bytes, as the writer frames them
framed-parts : (t : ℕ) (x : List ℕ) (cs : Fields) → framed t (x ++ encodes cs) ≡ encode (field t x cs)
unfolding framed framed_field encode
framed-parts t x cs = refl

pub framed-leaf : (t : ℕ) (x : List ℕ) → framed t x ≡ encode (field t x none)
unfolding framed framed_field encode
framed-leaf t x = ap (framed t) (sym (append-nil x))

-- ---- A value, or a refusal

done-refuses : {A : Type 0} {p : ℕ} {r : Refusal} → Ok p ≡ Err r → A
done-refuses e = absurd (let z : ◌≡◌ {A = ℕ} 0 1 = cc in omega arith)

done-place : {p q : ℕ} → ◌≡◌ {A = Step} (Ok p) (Ok q) → p ≡ q
done-place e = cc

refused-why : {q r : Refusal} → ◌≡◌ {A = Step} (Err q) (Err r) → q ≡ r
refused-why e = cc

module _ {A : Type 0} {bytes : A → List ℕ} {m : Outcome A} {l l' : List ℕ} {o : ℕ} where
  pub puts-done : {a : A} {p : ℕ} → m ≡ done a → Wrote l o (bytes a) l' p → Puts bytes m l o l' (Ok p)
  puts-done {a} e w =
      record {
        size = w.size;
        put = λ q z. record { value = a; is = e; wrote = subst (Wrote l o (bytes a) l') (done-place z) w };
        turned = λ r z. done-refuses z;
      }

  pub puts-refused : {r : Refusal} → length l' ≡ length l → m ≡ refused (why_number r.why) r.place → Puts bytes m l o l' (Err r)
  puts-refused n e =
      record {
        size = n;
        put = λ p z. done-refuses (sym z);
        turned = λ q z. e ∙ ap (λ (r : Refusal). refused (why_number r.why) r.place) (refused-why z);
      }

  pub puts-as : {n : Outcome A} {k : Step} → n ≡ m → Puts bytes m l o l' k → Puts bytes n l o l' k
  puts-as e w =
      record {
        size = w.size;
        put = λ p z. let v = w.put p z in record { value = v.value; is = e ∙ v.is; wrote = v.wrote };
        turned = λ r z. e ∙ w.turned r z;
      }

-- ---- One field after another

-- a field, and then others
abbrev pub consed : Outcome Field → Outcome Fields → Outcome Fields
consed one n = onto one (λ g. onto n (λ gs. done (more g gs)))

pub record Cons (m : Outcome Fields) (one : Outcome Field) (n : Outcome Fields) : Type 0 where
  pub is : m ≡ consed one n

module _ {one : Outcome Field} (n : Outcome Fields) {l l1 : List ℕ} {o : ℕ} {j : Step} (a : Puts encode one l o l1 j) where
  puts-then : {l2 : List ℕ} {k : Step} {p : ℕ} → j ≡ Ok p → Puts encodes n l1 p l2 k → Puts encodes (consed one n) l o l2 k
  puts-then {p = p} e b =
      let u = a.put p e in
      record {
        size = b.size ∙ a.size;
        put = λ q z.
            let v = b.put q z in
            record {
              value = more u.value v.value;
              is = ap (λ (i : Outcome Field). consed i n) u.is ∙ ap (λ (i : Outcome Fields). onto i (λ gs. done (more u.value gs))) v.is;
              wrote = wrote-as (wrote-then u.wrote v.wrote) (sym (encodes-more u.value v.value));
            };
        turned = λ r z.
            ap (λ (i : Outcome Field). consed i n) u.is ∙ ap (λ (i : Outcome Fields). onto i (λ gs. done (more u.value gs))) (b.turned r z);
      }

  puts-first : {r : Refusal} → j ≡ Err r → Puts encodes (consed one n) l o l1 (Err r)
  puts-first {r} e = puts-refused a.size (ap (λ (i : Outcome Field). consed i n) (a.turned r e))

pub onward-all : {m : Outcome Fields} {l : List ℕ} {o : ℕ} → Onward m m l o l o
onward-all = record { size = refl; rest = λ w. w }

module _ {m n : Outcome Fields} {l l1 : List ℕ} {o p : ℕ} (w : Onward m n l o l1 p) where
  pub onward-end : n ≡ done none → Puts encodes m l o l1 (Ok p)
  onward-end e = w.rest (puts-done e (wrote-as wrote-none (sym encodes-none)))

  module _ {one : Outcome Field} {rest : Outcome Fields} (e : Cons n one rest) {l2 : List ℕ} {j : Step} (a : Puts encode one l1 p l2 j) where
    pub onward-more : {q : ℕ} → j ≡ Ok q → Onward m rest l o l2 q
    onward-more z = record { size = a.size ∙ w.size; rest = λ b. w.rest (puts-as e.is (puts-then rest a z b)) }

    pub onward-stop : {r : Refusal} → j ≡ Err r → Puts encodes m l o l2 (Err r)
    onward-stop z = w.rest (puts-as e.is (puts-first rest a z))

-- ---- A field with its parts

module _ {m : Outcome Fields} {l l1 l2 l3 : List ℕ} {o t c d : ℕ} {x : List ℕ} {j : Step} (a : Opened l o t l1 c) (b : Wrote l1 c x l2 d) (w : Puts encodes m l2 d l3 j) where
  pub puts-field : {l' : List ℕ} {p : ℕ} → j ≡ Ok p → l' ≡ closed l3 o p → Puts encode (onto m (λ gs. done (field t x gs))) l o l' (Ok p)
  puts-field {l'} {p} e z =
      let u = w.put p e in
      puts-done (ap (λ (i : Outcome Fields). onto i (λ gs. done (field t x gs))) u.is)
      (wrote-as (wrote-field a (wrote-then b u.wrote) z) (framed-parts t x u.value))

  pub puts-parts : {r : Refusal} → j ≡ Err r → Puts encode (onto m (λ gs. done (field t x gs))) l o l3 (Err r)
  puts-parts {r} e =
      puts-refused (w.size ∙ b.size ∙ ap length a.tag ∙ length-set l o t)
      (ap (λ (i : Outcome Fields). onto i (λ gs. done (field t x gs))) (w.turned r e))
