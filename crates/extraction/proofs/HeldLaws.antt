-- What is written is held to its buffer: the tree of a pass, and the records.
use Prim.Native.Nat.{ℕ, ◌-◌, ◌≤◌}
use native.Mathlib.Omega.{arith}
use mathlib.Core.Path.{◌≡◌, sym, ap, ap₂, subst, ◌∙◌}
use mathlib.Core.Bool.{Bool, true, false, not}
use mathlib.Core.List.{List, ◌++◌}
use lib.ListN.{length, take, replicate}
use lib.Seq.{take-append_seam}
use Rattle.tree.specs.Tree.{Field, Fields, encode, size}
use Rattle.tree.proofs.TreeLaws.{size-encode}
use Rattle.writer.specs.Wrote.{Wrote}
use Rattle.writer.specs.Finished.{has_room, Finished, Delivered}
use Rattle.writer.proofs.Wrote.{wrote-as, wrote-end}
use Rattle.writer.proofs.Finished.{room-true, delivered-field, delivers}
use Rattle.inputs.specs.Outcome.{Outcome, done, refused, onto, refuse_if}
use Rattle.inputs.specs.Buffer.{fits}
use Rattle.inputs.proofs.AcceptedLaws.{done-inj, onto-done, done-refused}
use Rattle.extraction_rules.specs.State.{State, Setting}
use Rattle.extraction_rules.specs.Walk.{walk_module}
use Rattle.extraction_rules.specs.Call.{module_with}
use Rattle.state.specs.Cells.{Env, Shows}
use Rattle.steps.specs.Step.{Made}
use Rattle.records.specs.Writes.{WroteFor, Placing, BothRead, items_in, records_in}
use Rattle.extraction.specs.Passes.{pass_act}
use Rattle.extraction.specs.Stages.{Held, TooLong, DeliversFor}

-- ---- Room

pub fits-not : (f : Field) (room : ℕ) → has_room (size f) room ≡ false → fits f room ≡ refused 9 0
unfolding fits
fits-not f room e = ap (λ (b : Bool). refuse_if (not b) 9) e

pub fits-so : (f : Field) (room : ℕ) → has_room (size f) room ≡ true → fits f room ≡ done tt
unfolding fits
fits-so f room e = ap (λ (b : Bool). refuse_if (not b) 9) e

pub room-size : (f : Field) {l l' : List ℕ} {r : Bool} → Delivered (encode f) l r l' → has_room (size f) (length l) ≡ r
room-size f {l} d = ap (λ (n : ℕ). has_room n (length l)) (size-encode f) ∙ sym d.room

-- a field that was finished stands in the first bytes of its buffer
finished-part : (f : Field) {l m k : List ℕ} {n : ℕ} → Wrote l 0 (encode f) m n → Finished n m true k → take n k ≡ encode f
finished-part f {l} {m} {k} {n} w g =
    let d = delivers w g in
    let r = room-true n (length m) (sym g.room) in
    let e : n ≡ length (encode f) = let z = wrote-end w r.0 in omega arith in
    let q : k ≡ encode f ++ replicate (length l - length (encode f)) 0 = d.buffer ∙ delivered-field (encode f) (length l) (sym d.room) in
    ap₂ (λ (i : ℕ) (l : List ℕ). take i l) e q ∙ take-append_seam (encode f) (replicate (length l - length (encode f)) 0)

-- ---- A pass

-- it walked the items and wrote the module of what became of them
pub record Walked (x : Env) (m : Outcome (Fields × State)) (out t' out' : List ℕ) (n : ℕ) : Type 0 where
  pub items : Fields
  pub state : State
  pub is : m ≡ done (items, state)
  pub wrote : Wrote out 0 (encode (module_with items)) out' n
  pub shows : Shows x t' state

pub walked : (e : Setting) (s : List ℕ) (u : State) {x : Env} {out t' out' : List ℕ} {p : ℕ} → Made encode x (pass_act e s u) out 0 t' out' p →
    Walked x (walk_module e (items_in s) u) out t' out' p
walked e s u {x} {t' = t'} d =
    let a = onto-done (walk_module e (items_in s) u) _ (d.value, d.state) d.is in
    let q : ◌≡◌ {A = Field × State} (module_with a.0.0, a.0.1) (d.value, d.state) = done-inj a.2 in
    record {
      items = a.0.0;
      state = a.0.1;
      is = a.1;
      wrote = wrote-as d.wrote (ap (λ (z : Field × State). encode z.0) (sym q));
      shows = subst (Shows x t') (ap (λ (z : Field × State). z.1) (sym q)) d.shows;
    }

refused-number : {A : Type 0} {n m p q : ℕ} → ◌≡◌ {A = Outcome A} (refused n p) (refused m q) → n ≡ m
refused-number e = cc

pub refused-place : {A : Type 0} {n m p q : ℕ} → ◌≡◌ {A = Outcome A} (refused n p) (refused m q) → p ≡ q
refused-place e = cc

-- a refusal is that of the first step, where the next has none
onto-refused : {A B : Type 0} (m : Outcome A) (f : A → B) (n p : ℕ) → onto m (λ a. done (f a)) ≡ refused n p → m ≡ refused n p
onto-refused (done a) f n p e = done-refused (sym e)
onto-refused (refused k q) f n p e = ap₂ refused (refused-number e) (refused-place e)

pub walked-refused : (e : Setting) (s : List ℕ) (u : State) (n p : ℕ) → pass_act e s u ≡ refused n p → walk_module e (items_in s) u ≡ refused n p
walked-refused e s u n p q = onto-refused (walk_module e (items_in s) u) (λ r. (module_with r.0, r.1)) n p q

module _ {l1 l2 : List ℕ} {n : ℕ} {b : Bool} (f : Finished n l1 b l2) where
  pub pass-inside : (l : List ℕ) → length l1 ≡ length l → b ≡ true → n ≤ length l
  pass-inside l h e = let r = room-true n (length l1) (sym f.room ∙ e) in omega arith

  module _ {x : Env} {m : Outcome (Fields × State)} {l t' : List ℕ} (w : Walked x m l t' l1 n) where
    abbrev made : Field
    made = module_with w.items

    pub pass-held : b ≡ true → Held x m l t' l2 n
    pass-held e =
        record {
          items = w.items;
          state = w.state;
          is = w.is;
          room = room-size made (delivers w.wrote f) ∙ e;
          buffer = (delivers w.wrote f).buffer;
          part = finished-part made w.wrote (subst (λ (b : Bool). Finished n l1 b l2) e f);
          shows = w.shows;
        }

    pub pass-long : b ≡ false → TooLong m (length l)
    pass-long e = record { items = w.items; state = w.state; is = w.is; short = room-size made (delivers w.wrote f) ∙ e }

-- ---- The records

pub records-delivered : (tree work out : List ℕ) {t records records1 records2 : List ℕ} {n : ℕ} {b : Bool} →
    WroteFor (λ x. Placing tree work x × BothRead work out) (λ s. encode (records_in work out s)) t records 0 records1 n → Finished n records1 b records2 →
    DeliversFor tree work out t records records2 b
records-delivered tree work out w f = record { is = λ s v p u. delivers (w.is s v (p, u)) f }
