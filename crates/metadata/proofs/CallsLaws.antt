-- Lent attributes that are read: what stands in their bytes, and what each call makes of them.
use Rattle.std.specs.Prelude.{Option, Some, Ok, Err}
use Prim.Native.Nat.{ℕ, ◌+◌, ◌-◌, ◌≤◌}
use mathlib.Core.Path.{◌≡◌, refl, sym, ap, subst, ◌∙◌}
use mathlib.Core.Bool.{Bool, true, false, cond}
use mathlib.Core.List.{List, [], ◌∷◌, ◌++◌}
use native.Mathlib.Omega.{arith}
use lib.Dec.{eqb}
use lib.ListN.{length, drop, drop_of_length-le}
use borrow.Author.Tests.{lt-leb, le-leb, eq-eqb, ne_eqb, eqb-true}
use Rattle.writer.specs.Bytes.{framed}
use Rattle.writer.specs.Wrote.{Wrote}
use Rattle.writer.specs.Finished.{has_room, zeroed, Finished}
use Rattle.writer.proofs.Wrote.{wrote-as, wrote-end}
use Rattle.writer.proofs.Finished.{delivers, room-true}
use Rattle.tree.specs.declared.grammar.Set.TheVariants.{Attributes}
use Rattle.tree.specs.declared.grammar.Piece.TheVariants.{Plain}
use Rattle.tree.specs.declared.grammar.Value.TheVariants.{Empty}
use Rattle.tree.specs.Read.{Unread}
use Rattle.tree.specs.Layout.{Bytes, skip_at}
use Rattle.tree.specs.Tree.{Field, field, Fields, none, parts_of, framed as framed_field, encode, encodes, depth, depths}
use Rattle.tree.specs.Grammar.{within, rule_of, pieces_of, holds_at}
use Rattle.tree.specs.Access.{value_at, piece_at, then_piece, fixed_at, extent_at}
use Rattle.tree.specs.Read.{Reading, fine, refused, mapped, verdict, read}
use Rattle.tree.specs.Standing.{row_on, row, row_at}
use Rattle.tree.specs.Within.{Exact, FormedAll, Within}
use Rattle.tree.proofs.TreeLaws.{depth-parts}
use Rattle.tree.proofs.ReadLaws.{mapped-fine, fine-inj, good-fine, verdict-mapped, verdict-refused}
use Rattle.tree.proofs.StandingLaws.{read-standing}
use Rattle.tree.proofs.SoundLaws.{read-sound}
use Rattle.metadata.specs.declared.EncodeError.TheVariants.{Broken, NoRoom}
use Rattle.metadata.specs.Metadata.{Metadata, append, attributes_for, with_metadata, decode}
use Rattle.metadata.specs.MetadataValue.{written_bytes}
use Rattle.metadata.specs.Calls.{attributes_in, lent, decode_call, answer_on, out_on, encode_answer, encode_out, Encoding}
use Rattle.metadata.proofs.EncodeLaws.{framed-field, encodes-append}

-- ---- What was lent

-- nothing stands where no byte is left
row-past : (s : List ℕ) (at end : ℕ) → end ≤ at → row_at s at end ≡ none
unfolding row_at row row_on extent_at
row-past s at end h = rw (lt-leb 3 (end - at) (omega arith))

pub skip-none : (at stop : ℕ) → skip_at at 0 stop ≡ Some (at + 0)
unfolding skip_at
skip-none at stop = rw (le-leb 0 (stop - at) (omega arith))

-- a 2F has no fixed bytes
fixed-none : (x : List ℕ) → Exact 0x2F x → x ≡ []
unfolding fixed_at then_piece pieces_of piece_at value_at
fixed-none [] e = refl
fixed-none (b ∷ x) e =
    let f = ap (λ (r : Option ℕ). then_piece r (b ∷ x) (Plain Empty) (length (b ∷ x))) (skip-none 0 (length (b ∷ x))) ∙ skip-none (0 + 0) (length (b ∷ x)) in
    let z : 0 + 0 + 0 ≡ length (b ∷ x) = cc in
    absurd (omega arith)

-- what reading accepted: the attributes' bytes stand behind the head, and they are within the grammar
pub record Sound (s : List ℕ) (old : Fields) : Type 0 where
  pub bytes : encodes old ≡ drop 3 s
  pub formed : FormedAll old (rule_of 0x2F)
  pub shallow : depths old ≤ 63

none-sound : (s : List ℕ) → length s ≡ 0 → Sound s none
unfolding encode rule_of within depth
none-sound s e = record { bytes = sym (drop_of_length-le s {i = 3} (omega arith)); formed = refl; shallow = omega arith }

module _ (s : List ℕ) where
  field-sound : (t : ℕ) (x : List ℕ) (cs : Fields) → Within Attributes (field t x cs) → encode (field t x cs) ≡ s → Sound s cs
  unfolding holds_at encode framed_field
  field-sound t x cs w e =
      let tag : t ≡ 0x2F = eqb-true t 0x2F w.0 in
      let empty : x ≡ [] = fixed-none x (subst (λ (u : ℕ). Exact u x) tag w.1.1) in
      let d = depth-parts t x cs in
      let k = w.2 in
      record {
        bytes = sym (ap (λ (y : List ℕ). y ++ encodes cs) empty) ∙ ap (drop 3) e;
        formed = subst (λ (u : ℕ). FormedAll cs (rule_of u)) tag w.1.2;
        shallow = omega arith;
      }

  root-sound : (f : Field) → Within Attributes f → encode f ≡ s → Sound s (parts_of f)
  root-sound (field t x cs) w e = field-sound t x cs w e

  module _ (old : Fields) where
    read-lent : (fs : Fields) → Bytes s → read Attributes s ≡ fine fs → attributes_in fs ≡ old → Sound s old
    read-lent fs bs e o =
        let r = read-sound Attributes s fs bs e in
        subst (Sound s) (sym (ap attributes_in r.1) ∙ o) (root-sound r.0 r.2 r.3)

    sound-by : (b : Bool) → eqb (length s) 0 ≡ b → Bytes s → cond b (fine none) (mapped attributes_in (read Attributes s)) ≡ fine old → Sound s old
    sound-by true l bs e = subst (Sound s) (fine-inj e) (none-sound s (eqb-true (length s) 0 l))
    sound-by false l bs e = let m = mapped-fine attributes_in (read Attributes s) old e in read-lent m.0 bs m.1 m.2

    pub lent-sound : Bytes s → lent s ≡ fine old → Sound s old
    unfolding lent
    lent-sound bs e = sound-by (eqb (length s) 0) refl bs e

    stands-by : (b : Bool) → eqb (length s) 0 ≡ b → cond b (fine none) (mapped attributes_in (read Attributes s)) ≡ fine old →
        attributes_in (row_at s 0 (length s)) ≡ old
    stands-by true l e = let z = eqb-true (length s) 0 l in ap attributes_in (row-past s 0 (length s) (omega arith)) ∙ fine-inj e
    stands-by false l e =
        let m = mapped-fine attributes_in (read Attributes s) old e in
        ap attributes_in (read-standing Attributes s m.0 m.1) ∙ m.2

    -- they are what stands in the field at 0
    pub lent-stands : lent s ≡ fine old → attributes_in (row_at s 0 (length s)) ≡ old
    unfolding lent
    lent-stands e = stands-by (eqb (length s) 0) refl e

-- ---- The verdict on them

pub lent-empty : (s : List ℕ) → length s ≡ 0 → verdict (lent s) ≡ Ok tt
unfolding lent
lent-empty s e = rw (eq-eqb (length s) 0 e)

pub lent-read : (s : List ℕ) → (length s ≡ 0 → ⊥) → verdict (lent s) ≡ verdict (read Attributes s)
unfolding lent
lent-read s e = rw (ne_eqb (length s) 0 e) (verdict-mapped attributes_in (read Attributes s))

-- ---- The calls, by the verdict

module _ (s : List ℕ) where
  pub decode-good : verdict (lent s) ≡ Ok tt → fine (decode (attributes_in (row_at s 0 (length s)))) ≡ decode_call s
  unfolding decode_call
  decode-good v =
      let g = good-fine (lent s) v in
      ap (λ (old : Fields). fine (decode old)) (lent-stands s g.0 g.1) ∙ sym (ap (mapped decode) g.1)

  pub decode-refused : (u : Unread) → verdict (lent s) ≡ Err u → refused u.why u.place ≡ decode_call s
  unfolding decode_call
  decode-refused u v = sym (ap (mapped decode) (verdict-refused (lent s) v))

  module _ (m : Metadata) where
    pub encode-refused : {l k : List ℕ} → k ≡ zeroed l → (u : Unread) → verdict (lent s) ≡ Err u → Encoding m s l (Err (Broken u)) k
    unfolding encode_answer encode_out answer_on out_on zeroed
    encode-refused {l} z u v =
        let e = verdict-refused (lent s) v in
        record {
          answer = sym (ap (λ (r : Reading Fields). answer_on r m (length l)) e);
          buffer = z ∙ sym (ap (λ (r : Reading Fields). out_on r m (length l)) e);
        }

    -- the bytes that are written are those of the new attributes
    written : (old : Fields) → Bytes s → lent s ≡ fine old → written_bytes m s ≡ encode (with_metadata m old)
    unfolding with_metadata
    written old bs e =
        ap (framed 0x2F) (ap (λ (x : List ℕ). x ++ encodes (attributes_for m)) (sym (lent-sound s old bs e).bytes) ∙ sym (encodes-append old (attributes_for m)))
        ∙ framed-field 0x2F [] (append old (attributes_for m))

    module _ {l mid k : List ℕ} {n : ℕ} {r : Bool} (bs : Bytes s) (v : verdict (lent s) ≡ Ok tt)
        (w : Wrote l 0 (written_bytes m s) mid n) (f : Finished n mid r k) where
      old : Fields
      old = (good-fine (lent s) v).0

      is_lent : lent s ≡ fine old
      unfolding old
      is_lent = (good-fine (lent s) v).1

      new : List ℕ
      new = encode (with_metadata m old)

      wrote : Wrote l 0 new mid n
      unfolding new
      wrote = wrote-as w (written old bs is_lent)

      out-given : k ≡ encode_out m s (length l)
      unfolding new encode_out out_on
      out-given = (delivers wrote f).buffer ∙ sym (ap (λ (x : Reading Fields). out_on x m (length l)) is_lent)

      answer-by : (b : Bool) → has_room (length new) (length l) ≡ b → cond b (Ok (length new)) (Err NoRoom) ≡ encode_answer m s (length l)
      unfolding new encode_answer answer_on
      answer-by b e = sym (ap (λ (x : Reading Fields). answer_on x m (length l)) is_lent ∙ rw e)

      -- what was written had room
      pub encode-done : r ≡ true → Encoding m s l (Ok n) k
      encode-done t =
          let h = room-true n (length mid) (sym f.room ∙ t) in
          let g = wrote-end wrote h.0 in
          let e : n ≡ length new = omega arith in
          record { answer = ap Ok e ∙ answer-by true (sym (delivers wrote f).room ∙ t); buffer = out-given }

      -- it had none
      pub encode-short : r ≡ false → Encoding m s l (Err NoRoom) k
      encode-short t = record { answer = answer-by false (sym (delivers wrote f).room ∙ t); buffer = out-given }
