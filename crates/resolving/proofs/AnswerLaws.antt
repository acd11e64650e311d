-- The steps of the call in their order: what is tested first, the list in its buffer, the numbers, and what each answer leaves.
use Rattle.std.specs.Prelude.{Result, Ok, Err}
use Prim.Native.Nat.{ℕ}
use mathlib.Core.Path.{◌≡◌, refl, sym, ap, ap₂, subst, ◌∙◌}
use mathlib.Core.Bool.{Bool, true, false, not, cond}
use mathlib.Core.List.{List, []}
use lib.ListN.{length, replicate}
use Rattle.modes.specs.declared.Modes.{Modes}
use Rattle.report.specs.Counts.{no_counts}
use Rattle.scope.specs.Modules.{Modules}
use Rattle.scope.specs.ScopeValue.{modules_of}
use Rattle.scope.specs.declared.Scope.{Scope}
use Rattle.tree.specs.declared.grammar.Set.TheVariants.{Records}
use Rattle.tree.specs.Tree.{Field, field, Fields, encode}
use Rattle.tree.specs.Read.{Reading, fine, refused as unread, read, verdict}
use Rattle.tree.proofs.TreeLaws.{size-encode}
use Rattle.writer.specs.Finished.{has_room, zeroed, Finished, Delivered}
use Rattle.writer.proofs.Finished.{delivered-none, delivers}
use Rattle.inputs.specs.Outcome.{Outcome, done, refused, onto, refuse_if, refusal_in, number_in, place_in}
use Rattle.inputs.specs.Table.{rows_in, bad_table, repeats, table_of}
use Rattle.inputs.specs.Buffer.{fits, buffer_of}
use Rattle.inputs.proofs.AcceptedLaws.{done-inj, done-refused, onto-done}
use Rattle.resolving_rules.specs.Resolve.{sources_in, forced_in, number_all, resolved_all}
use Rattle.resolving_rules.specs.Call.{records_read, Numbered, numbered, Resolved, listed, resolved, modules_after, Left, resolving}
use Rattle.resolving.specs.Writes.{Refusal}
use Rattle.resolving.specs.declared.ResolveError.{ResolveError}
use Rattle.resolving.specs.declared.ResolveError.TheVariants.{BadTable, NamedTwice, TooManyFiles, Refused, NoRoom}
use Rattle.resolving.specs.Records.{RecordsRead, records_in}
use Rattle.resolving.specs.Numbers.{NumbersAll}
use Rattle.resolving.specs.Writes.{Step, Puts, list_with}
use Rattle.resolving.specs.Answer.{why_number, error_number, error_place, UnreadBy, lent_as, left_by}
use Rattle.resolving.specs.Stages.{read_as, lists_of, numbered_as, NumberedBy, listed_left}
use Rattle.resolving_rules.proofs.ResolvedLaws.{numbered-made}
use Rattle.resolving.proofs.RecordsLaws.{records-read, records-sound}
use Rattle.resolving.proofs.NumbersLaws.{numbers-all}

-- ---- '1, 2, 10'

unfoldable tested : List ℕ → List ℕ → Outcome Fields
tested table records =
    onto (refuse_if (bad_table table) 1) (λ _.
    onto (refuse_if (repeats (rows_in table)) 2) (λ _. records_read (read Records records)))

-- what each answer says: the records were read, or the rules refuse
abbrev Says : List ℕ → List ℕ → Result Unit ResolveError → Type 0
Says table records (Ok u) = (tested table records ≡ done (records_in records)) × ((fs : Fields) × (read Records records ≡ fine fs))
Says table records (Err e) = (tested table records ≡ refused (error_number e) (error_place e)) × UnreadBy e (read Records records)

lists-say : (table records : List ℕ) → Says table records (lists_of table records)
unfolding lists_of tested
lists-say table records = go (bad_table table) (repeats (rows_in table)) (read Records records) refl refl refl
  where
    on : Bool → Bool → Outcome Fields
    on a b = onto (refuse_if a 1) (λ _. onto (refuse_if b 2) (λ _. records_read (read Records records)))

    go : (a b : Bool) (r : Reading Fields) → bad_table table ≡ a → repeats (rows_in table) ≡ b → read Records records ≡ r →
        Says table records (cond a (Err BadTable) (cond b (Err NamedTwice) (read_as (verdict r))))
    go true b r e f q = (ap (λ (c : Bool). on c (repeats (rows_in table))) e, tt)
    go false true r e f q = (ap₂ on e f, tt)
    go false false (fine fs) e f q = (ap₂ on e f ∙ records-read records fs q, (fs, q))
    go false false (unread w p) e f q = (ap₂ on e f ∙ ap records_read q, q)

said : (table records : List ℕ) {r : Result Unit ResolveError} (a : Result Unit ResolveError) → r ≡ lists_of table records → r ≡ a → Says table records a
said table records a d e = subst (Says table records) (sym d ∙ e) (lists-say table records)

-- what goes on was read
pub records-good : (table records : List ℕ) {r : Result Unit ResolveError} → r ≡ lists_of table records → r ≡ Ok tt → RecordsRead records
records-good table records d e = let s = said table records (Ok tt) d e in records-sound records s.1.0 s.1.1

-- ---- '5'

module _ (table records : List ℕ) (ms : Modules) where
  abbrev numbered_on : Outcome Fields → Outcome Numbered
  numbered_on m = onto m (λ cs. onto (number_all (rows_in table) (sources_in cs) ms 3) (λ new. done (record { rows = rows_in table; records = cs; modules = new })))

  numbered-tested : (modes : Modes) → numbered (lent_as modes table records) ms ≡ numbered_on (tested table records)
  unfolding numbered table_of tested
  numbered-tested modes = go (refuse_if (bad_table table) 1) (refuse_if (repeats (rows_in table)) 2)
    where
      go : (a b : Outcome (Unit {0})) →
          onto a (λ _. onto (onto b (λ _. done (rows_in table))) (λ rows. onto (records_read (read Records records))
          (λ cs. onto (number_all rows (sources_in cs) ms 3) (λ new. done (record { rows = rows; records = cs; modules = new })))))
          ≡ numbered_on (onto a (λ _. onto b (λ _. records_read (read Records records))))
      go (done x) (done y) = refl
      go (done x) (refused n p) = refl
      go (refused n p) b = refl

  module _ {r : Result Unit ResolveError} (d : r ≡ lists_of table records) where
    -- 1, 2 or 10
    pub numbered-untested : {e : ResolveError} → r ≡ Err e → NumberedBy table records ms (Err e)
    numbered-untested {e} q =
        let s = said table records (Err e) d q in
        record { rules = λ modes. sym (numbered-tested modes ∙ ap numbered_on s.0); unread = s.1 }

    module _ (q : r ≡ Ok tt) where
      read_then : {m : Outcome Modules} → number_all (rows_in table) (sources_in (records_in records)) ms 3 ≡ m →
          (modes : Modes) → numbered (lent_as modes table records) ms ≡ onto m (λ new. done (numbered_as table records new))
      read_then e modes =
          numbered-tested modes ∙ ap numbered_on (said table records (Ok tt) d q).0
          ∙ ap (λ (m : Outcome Modules). onto m (λ new. done (numbered_as table records new))) e

      -- 5
      pub numbered-over : {p : ℕ} → number_all (rows_in table) (sources_in (records_in records)) ms 3 ≡ refused 5 p → NumberedBy table records ms (Err (TooManyFiles p))
      numbered-over e = record { rules = λ modes. sym (read_then e modes); unread = tt }

      pub numbered-given : {new : Scope} → number_all (rows_in table) (sources_in (records_in records)) ms 3 ≡ done (modules_of new) → NumberedBy table records ms (Ok new)
      numbered-given e = record { rules = λ modes. sym (read_then e modes); unread = tt }

-- a call that got its numbers has read its records, and each source has its number
module _ (modes : Modes) (table records : List ℕ) (ms : Modules) {new : Modules} (e : done (numbered_as table records new) ≡ numbered (lent_as modes table records) ms) where
  steps : (numbered_as table records new).rows ≡ rows_in table
      × (records_read (read Records records) ≡ done (records_in records))
      × (number_all (rows_in table) (sources_in (records_in records)) ms 3 ≡ done new)
  steps = numbered-made (lent_as modes table records) ms (numbered_as table records new) (sym e)

  fine-by : (r : Reading Fields) → read Records records ≡ r → records_read r ≡ done (records_in records) → RecordsRead records
  fine-by (fine fs) q w = records-sound records fs q
  fine-by (unread w p) q e = done-refused e

  pub given-read : RecordsRead records
  given-read = fine-by (read Records records) refl steps.1

  pub given-all : NumbersAll (rows_in table) new (sources_in (records_in records))
  given-all = numbers-all (rows_in table) (sources_in (records_in records)) ms new 3 steps.2

-- ---- '11 or 6, then 9'

fits-by : (g : Field) (room : ℕ) {c : Bool} → has_room (length (encode g)) room ≡ c → fits g room ≡ refuse_if (not c) 9
unfolding fits
fits-by g room e = ap (λ (c : Bool). refuse_if (not c) 9) (ap (λ (n : ℕ). has_room n room) (size-encode g) ∙ e)

module _ (table records : List ℕ) (ms : Modules) where
  abbrev all : Outcome Fields
  all = resolved_all (rows_in table) (forced_in (records_in records)) ms (sources_in (records_in records)) 3

  -- what is left by what the list is
  abbrev left_as : Outcome Resolved → ℕ → Left
  left_as o room = record { refusal = refusal_in o; modules = ms; report = no_counts; list = buffer_of (λ r. r.list) o room }

  abbrev made : ℕ → Fields → Outcome Resolved
  made room gs = onto (fits (field 0x03 [] gs) room) (λ _. done (record { modules = ms; list = field 0x03 [] gs }))

  list-as : (room : ℕ) {m : Outcome Fields} → all ≡ m → listed_left table records room ms ≡ left_as (onto m (made room)) room
  unfolding listed_left listed
  list-as room e = ap (λ (m : Outcome Fields). left_as (onto m (made room)) room) e

  module _ {l l1 l2 : List ℕ} {k : Step} (w : Puts encode (list_with all) l 0 l1 k) where
    pub list-turned : {r : Refusal} → k ≡ Err r → l2 ≡ zeroed l1 → left_by (Err (Refused r)) ms no_counts l2 ≡ listed_left table records (length l) ms
    unfolding zeroed
    list-turned {r} e z =
        ap (left_by (Err (Refused r)) ms no_counts) (z ∙ ap (λ (n : ℕ). replicate n 0) w.size) ∙ sym (list-as (length l) (back all (w.turned r e)))
      where
        back : (m : Outcome Fields) → list_with m ≡ refused (why_number r.why) r.place → m ≡ refused (why_number r.why) r.place
        back (done gs) e = done-refused (sym e)
        back (refused n p) e = ap (λ (o : Outcome Field). refused (number_in (refusal_in o)) (place_in (refusal_in o))) e

    module _ {n : ℕ} {r : Bool} (e : k ≡ Ok n) (f : Finished n l1 r l2) where
      list-given : (gs : Fields) × (all ≡ done gs) × Delivered (encode (field 0x03 [] gs)) l r l2
      list-given =
          let u = w.put n e in
          let o = onto-done all (λ gs. done (field 0x03 [] gs)) u.value u.is in
          (o.0, o.1, subst (λ (g : Field). Delivered (encode g) l r l2) (sym (done-inj o.2)) (delivers u.wrote f))

      -- by what finishing it answers
      list-by : {c : Bool} → r ≡ c →
          listed_left table records (length l) ms ≡ left_as (onto (refuse_if (not c) 9) (λ _. done (record { modules = ms; list = field 0x03 [] list-given.0 }))) (length l)
      list-by z =
          let g = list-given in
          let h = field 0x03 [] g.0 in
          list-as (length l) g.1
          ∙ ap (λ (o : Outcome (Unit {0})). left_as (onto o (λ _. done (record { modules = ms; list = h }))) (length l)) (fits-by h (length l) (sym g.2.room ∙ z))

      pub list-fits : r ≡ true → left_by (Ok tt) ms no_counts l2 ≡ listed_left table records (length l) ms
      list-fits z = ap (left_by (Ok tt) ms no_counts) list-given.2.buffer ∙ sym (list-by z)

      pub list-long : r ≡ false → left_by (Err NoRoom) ms no_counts l2 ≡ listed_left table records (length l) ms
      list-long z =
          let g = list-given in
          let d = g.2 in
          ap (left_by (Err NoRoom) ms no_counts) (d.buffer ∙ delivered-none (encode (field 0x03 [] g.0)) (length l) (sym d.room ∙ z)) ∙ sym (list-by z)

-- ---- The call

module _ (modes : Modes) (table records : List ℕ) (ms : Modules) (room : ℕ) where
  -- what a call leaves, by what numbering gives
  abbrev left_from : Outcome Numbered → Left
  left_from n =
      let o = onto n (λ q. listed q room) in
      record { refusal = refusal_in o; modules = modules_after n ms; report = no_counts; list = buffer_of (λ r. r.list) o room }

  -- 1, 2, 10 or 5: the scope is as it was, and the buffer is zeroed
  pub refused-early : (e : ResolveError) {k : List ℕ} → refused (error_number e) (error_place e) ≡ numbered (lent_as modes table records) ms → k ≡ replicate room 0 →
      left_by (Err e) ms no_counts k ≡ resolving (lent_as modes table records) room ms
  unfolding resolving resolved
  refused-early e q z = ap (left_by (Err e) ms no_counts) z ∙ ap left_from q

  -- the list, or 11, 6 or 9
  pub answers-list : {new : Modules} → done (numbered_as table records new) ≡ numbered (lent_as modes table records) ms →
      listed_left table records room new ≡ resolving (lent_as modes table records) room ms
  unfolding listed_left resolving resolved
  answers-list q = ap left_from q
