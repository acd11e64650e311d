-- Zeros behind what is written, and the buffer that a call hands back: what is written and finished is delivered.
use mathlib.Core.Bool.{Bool, true, false, cond}
use mathlib.Core.List.{List, [], ◌++◌, append-nil}
use mathlib.Core.Path.{◌≡◌, refl, ap, sym, ◌∙◌}
use Prim.Native.Nat.{ℕ, ◌+◌, ◌-◌, ◌≤◌, ◌<◌, min}
use native.Mathlib.Omega.{arith}
use borrow.Author.Tests.{leb-true, leb-false, le-leb, lt-leb}
use lib.ListN.{length, take, drop, replicate, length-drop, drop_of_length-le}
use borrow.Rule.Slice.PartMut.{put_mid, mid_of, mid_len}
use lib.Seq.{sets-eq, take_all, take-append_seam}
use Rattle.writer.specs.Wrote.{Wrote}
use Rattle.writer.specs.Finished.{has_room, zeroed_from, zeroed, Finished, delivered, Delivered}

-- what is stored from n to the end is all zero
pub zeroed-behind : (l m : List ℕ) (n : ℕ) → n ≤ length l → m ≡ replicate (length (mid_of n (length l - n) l)) 0 →
    put_mid n (length l - n) l m ≡ zeroed_from n l
unfolding zeroed_from
zeroed-behind l m n h e =
    let k = mid_len n (length l) l (omega arith) in
    let d : drop (length l - n) (drop n l) ≡ [] = drop_of_length-le (drop n l) (simp length-drop (omega arith)) in
    rw (d, append-nil m, e, k)

-- past the end there is nothing to zero
pub zeroed-end : (l : List ℕ) (i : ℕ) → length l ≤ i → zeroed_from i l ≡ l
unfolding zeroed_from
zeroed-end l i h = let e : length l - i ≡ 0 = omega arith in rw (e, take_all i l h) (append-nil l)

pub zeroed-all : (l : List ℕ) → zeroed_from 0 l ≡ zeroed l
unfolding zeroed_from zeroed
zeroed-all l = let e : length l - 0 ≡ length l = omega arith in ap (λ (n : ℕ). replicate n 0) e

-- what each answer of `has_room` says, and when it is given
pub room-true : (n room : ℕ) → has_room n room ≡ true → (n ≤ 65538) × (n ≤ room)
unfolding has_room
room-true n room e = let h = leb-true n (min 65538 room) e in (omega arith, omega arith)

pub room-false : (n room : ℕ) → has_room n room ≡ false → min 65538 room < n
unfolding has_room
room-false n room e = leb-false n (min 65538 room) e

pub has_room-true : (n room : ℕ) → n ≤ 65538 → n ≤ room → has_room n room ≡ true
unfolding has_room
has_room-true n room a b = le-leb n (min 65538 room) (omega arith)

pub no-room : (n room : ℕ) → min 65538 room < n → has_room n room ≡ false
unfolding has_room
no-room n room h = lt-leb n (min 65538 room) h

-- a field's buffer by the answer: the field and zeros behind it, or zeros
pub delivered-field : (bs : List ℕ) (room : ℕ) → has_room (length bs) room ≡ true →
    delivered bs room ≡ bs ++ replicate (room - length bs) 0
unfolding delivered
delivered-field bs room e = rw e

pub delivered-none : (bs : List ℕ) (room : ℕ) → has_room (length bs) room ≡ false → delivered bs room ≡ replicate room 0
unfolding delivered
delivered-none bs room e = rw e

-- the position reached has room exactly where the bytes have, in this buffer or in another
pub room-written : {l m bs : List ℕ} {p : ℕ} → Wrote l 0 bs m p → (room : ℕ) → has_room p room ≡ has_room (length bs) room
room-written {l} {m} {bs} {p} w room = by (has_room (length bs) room) refl
  where
    by : (b : Bool) → has_room (length bs) room ≡ b → has_room p room ≡ b
    by true e = let a = w.at in let h = room-true (length bs) room e in has_room-true p room (omega arith) (omega arith)
    by false e = let a = w.at in let h = room-false (length bs) room e in no-room p room (omega arith)

module _ {l m bs : List ℕ} {p : ℕ} (w : Wrote l 0 bs m p) where
  zeros-behind : length bs ≤ 65538 → length bs ≤ length l → zeroed_from p m ≡ bs ++ replicate (length l - length bs) 0
  unfolding zeroed_from
  zeros-behind g h =
      let a = w.at in
      let e : p ≡ length bs = omega arith in
      let f : m ≡ bs ++ drop (0 + length bs) l = w.bytes (omega arith) ∙ sets-eq bs l 0 (omega arith) in
      rw (e, w.size)
      (ap (λ (x : List ℕ). take (length bs) x ++ replicate (length l - length bs) 0) f ∙ rw take-append_seam)

  buffer-written : (r : Bool) → has_room (length bs) (length l) ≡ r →
      cond r (zeroed_from p m) (zeroed m) ≡ delivered bs (length l)
  unfolding zeroed
  buffer-written true e =
      let h = room-true (length bs) (length l) e in zeros-behind h.0 h.1 ∙ sym (delivered-field bs (length l) e)
  buffer-written false e = rw w.size (sym (delivered-none bs (length l) e))

-- bs is written from 0 on, and the output is finished at the position reached: bs is delivered
pub delivers : {l m bs k : List ℕ} {p : ℕ} {r : Bool} → Wrote l 0 bs m p → Finished p m r k → Delivered bs l r k
delivers {l} {m} {bs} {k} {p} {r} w f =
    let e = f.room ∙ ap (has_room p) w.size ∙ room-written w (length l) in
    record { room = e; buffer = f.buffer ∙ buffer-written w r (sym e) }
