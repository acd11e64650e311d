-- What is written is read back: metadata onto attributes, on trees and on the bytes that the calls lend and hand back.
use Rattle.std.specs.Prelude.{Option, None, Some, Ok, Err}
use Prim.Native.Nat.{ℕ, ◌-◌, ◌≤◌}
use mathlib.Core.Path.{◌≡◌, refl, sym, ap, ◌∙◌}
use mathlib.Core.Bool.{Bool, true, false, cond, ◌||◌, or-false}
use mathlib.Core.List.{List, []}
use native.Mathlib.Omega.{arith}
use lib.ListN.{length, replicate}
use borrow.Author.Tests.{ne_eqb}
use Rattle.writer.specs.Finished.{has_room}
use Rattle.writer.proofs.Finished.{delivered-field, room-true}
use Rattle.tree.specs.declared.grammar.Set.TheVariants.{Attributes}
use Rattle.tree.specs.Layout.{Bytes, same, field_in}
use Rattle.tree.specs.Tree.{Field, field, Fields, none, more, encode, size, fixed_of, parts_of}
use Rattle.tree.specs.Read.{Reading, fine, refused, mapped}
use Rattle.tree.specs.Within.{Within}
use Rattle.tree.proofs.TreeLaws.{size-encode, encode-front}
use Rattle.tree.proofs.ReadLaws.{fine-inj}
use Rattle.tree.proofs.CompleteLaws.{read-complete}
use Rattle.metadata.specs.declared.EncodeError.TheVariants.{NoRoom}
use Rattle.metadata.specs.Metadata.{Metadata, Small, injected_attribute, context_attribute, injected_attributes, context_attributes, append}
use Rattle.metadata.specs.Metadata.{attributes_for, with_metadata, starts_with, context_in, told, newer, merged, decode_from, unset, decode}
use Rattle.metadata.specs.Calls.{attributes_in, lent, decode_call, answer_on, out_on, encode_answer, encode_out}
use Rattle.metadata.specs.RoundTrip.{WrittenAlone, WrittenOnto}
use Rattle.metadata.proofs.DecimalLaws.{decimal-parses}
use Rattle.metadata.proofs.CallsLaws.{lent-sound}
use Rattle.metadata.proofs.WithinLaws.{new-within}

abbrev metadata : Bool → Option ℕ → Metadata
metadata b x = record { injected = b; context = x }

-- ---- On trees

told-injected : told (fixed_of injected_attribute) ≡ metadata true None
unfolding told injected_attribute same context_in starts_with
told-injected = refl

told-context : (c : ℕ) → c ≤ 4294967295 → told (fixed_of (context_attribute c)) ≡ metadata false (Some c)
unfolding told injected_attribute context_attribute same context_in starts_with
told-context c h = ap (metadata false) (decimal-parses c h)

-- attributes behind others
decode-append : (fs gs : Fields) (m : Metadata) → decode_from m (append fs gs) ≡ decode_from (decode_from m fs) gs
unfolding decode_from append
decode-append none gs m = refl
decode-append (more f fs) gs m = decode-append fs gs (merged m (told (fixed_of f)))

module _ (m : Metadata) where
  decode-injected : (b : Bool) → decode_from m (injected_attributes b) ≡ merged m (metadata b None)
  unfolding decode_from
  decode-injected true = ap (merged m) told-injected
  decode-injected false = ap (λ (b : Bool). metadata b m.context) (sym (or-false m.injected))

  decode-context : (x : Option ℕ) → Small x → decode_from m (context_attributes x) ≡ merged m (metadata false x)
  unfolding decode_from
  decode-context None h = ap (λ (b : Bool). metadata b m.context) (sym (or-false m.injected))
  decode-context (Some c) h = ap (merged m) (told-context c h)

-- what metadata adds tells just that
decode-added : (m new : Metadata) → Small new.context → decode_from m (attributes_for new) ≡ merged m new
unfolding attributes_for
decode-added m new h =
    let i = injected_attributes new.injected in
    let c = context_attributes new.context in
    decode-append i c m
    ∙ ap (λ (x : Metadata). decode_from x c) (decode-injected m new.injected)
    ∙ decode-context (merged m (metadata new.injected None)) new.context h
    ∙ ap (λ (b : Bool). metadata b (newer new.context m.context)) (or-false (m.injected || new.injected))

-- written onto older attributes, injected is old or new, and the context is the new one, else the old
pub older-merged : (m : Metadata) (old : Fields) → Small m.context → decode (parts_of (with_metadata m old)) ≡ merged (decode old) m
unfolding decode with_metadata
older-merged m old h = decode-append old (attributes_for m) unset ∙ decode-added (decode_from unset old) m h

merged-unset : (m : Metadata) → merged unset m ≡ m
merged-unset m = newer-nothing m.context
  where
    newer-nothing : (x : Option ℕ) → metadata m.injected (newer x None) ≡ metadata m.injected x
    newer-nothing None = refl
    newer-nothing (Some c) = refl

-- written where no attributes stood, it is told as it was
pub written-told : (m : Metadata) → Small m.context → decode (parts_of (with_metadata m none)) ≡ m
unfolding decode decode_from
written-told m h = older-merged m none h ∙ merged-unset m

-- ---- On bytes

size-positive : (f : Field) → size f ≡ 0 → ⊥
unfolding size
size-positive (field t x cs) e = omega arith

-- attributes within the grammar, lent as their bytes
lent-back : (f : Field) → Within Attributes f → lent (encode f) ≡ fine (parts_of f)
unfolding lent
lent-back f w =
    let e = size-encode f in
    rw (ne_eqb (length (encode f)) 0 (λ z. size-positive f (omega arith))) (ap (mapped attributes_in) (read-complete Attributes f w))

-- what encoding that is accepted hands back
record Accepted (m : Metadata) (s : List ℕ) (room n : ℕ) (old : Fields) : Type 0 where
  is_lent : lent s ≡ fine old
  fits : length (encode (with_metadata m old)) ≤ 65538
  bytes : field_in (encode_out m s room) ≡ encode (with_metadata m old)

module _ (m : Metadata) (s : List ℕ) (room n : ℕ) where
  room-accepted : (old : Fields) (b : Bool) → lent s ≡ fine old → has_room (length (encode (with_metadata m old))) room ≡ b →
      cond b (Ok (length (encode (with_metadata m old)))) (Err NoRoom) ≡ Ok n → Accepted m s room n old
  unfolding encode_out out_on
  room-accepted old true e r a =
      let bs = encode (with_metadata m old) in
      record {
        is_lent = e;
        fits = (room-true (length bs) room r).0;
        bytes =
            ap (λ (x : Reading Fields). field_in (out_on x m room)) e
            ∙ ap field_in (delivered-field bs room r)
            ∙ encode-front (with_metadata m old) (replicate (room - length bs) 0);
      }
  room-accepted old false e r a = absurd (let z : ◌≡◌ {A = ℕ} 0 1 = cc in omega arith)

  answer-accepted : (r : Reading Fields) → lent s ≡ r → answer_on r m room ≡ Ok n → (old : Fields) × Accepted m s room n old
  unfolding answer_on
  answer-accepted (fine old) e a = (old, room-accepted old (has_room (length (encode (with_metadata m old))) room) e refl a)
  answer-accepted (refused w p) e a = absurd (let z : ◌≡◌ {A = ℕ} 0 1 = cc in omega arith)

  accepted-decodes : Bytes s → Small m.context → encode_answer m s room ≡ Ok n →
      (o : Metadata) × (decode_call s ≡ fine o) × (decode_call (field_in (encode_out m s room)) ≡ fine (merged o m))
  unfolding encode_answer decode_call
  accepted-decodes bs h a =
      let g = answer-accepted (lent s) refl a in
      let old = g.0 in
      let c = g.1 in
      let w = new-within m s old h (lent-sound s old bs c.is_lent) c.fits in (
        decode old,
        ap (mapped decode) c.is_lent,
        ap (λ (x : List ℕ). mapped decode (lent x)) c.bytes ∙ ap (mapped decode) (lent-back (with_metadata m old) w)
            ∙ ap fine (older-merged m old h),
      )

pub written-onto : WrittenOnto
written-onto m s l l' n e bs h =
    let g = accepted-decodes m s (length l) n bs h (sym e.answer) in
    (g.0, g.1, ap (λ (x : List ℕ). decode_call (field_in x)) e.buffer ∙ g.2)

-- onto nothing: what was written
pub written-alone : WrittenAlone
unfolding decode_call lent decode decode_from
written-alone m l l' n e h =
    let g = written-onto m [] l l' n e (λ i. omega arith) h in
    let o : g.0 ≡ unset = sym (fine-inj g.1) in
    g.2 ∙ ap (λ (x : Metadata). fine (merged x m)) o ∙ ap fine (merged-unset m)
