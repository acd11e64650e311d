-- Demand 3 of the functions, by their contracts: both sentences.
use Rattle.std.specs.Prelude.{None}
use Prim.Native.Nat.{ℕ, zero, suc}
use native.Mathlib.Omega.{arith}
use mathlib.Core.Path.{◌≡◌, refl, sym, ap, ◌∙◌}
use mathlib.Core.Bool.{Bool, true, false, cond}
use mathlib.Core.List.{List, [], ◌∷◌}
use lib.Dec.{ltb}
use lib.ListN.{length}
use borrow.Author.Tests.{ltb-false, le-ltb}
use Rattle.modes.specs.declared.Modes.{Modes}
use Rattle.scope.specs.declared.Mark.TheVariants.{Wrapping}
use Rattle.scope.specs.declared.Scope.{Scope}
use Rattle.scope.specs.declared.id.ModuleId.{ModuleId}
use Rattle.scope.specs.Modules.{Modules, Generated, Left as Requesting, done as tells, refused as untold, given, not_given, is_marked, read_mark}
use Rattle.scope.specs.ScopeValue.{modules_of}
use Rattle.tree.specs.declared.grammar.Set.TheVariants.{Module, Records}
use Rattle.tree.specs.Layout.{value_of, Bytes}
use Rattle.tree.specs.Tree.{Field, field, Fields, none, more, encode, size}
use Rattle.tree.specs.Read.{read}
use Rattle.writer.specs.Finished.{has_room}
use Rattle.inputs.specs.Outcome.{Outcome, done}
use Rattle.tree.specs.Layout.{field_in}
use Rattle.inputs.specs.Buffer.{buffer_of}
use Rattle.inputs.specs.Lists.{among}
use Rattle.inputs.specs.Table.{rows_in, atoms_in}
use Rattle.inputs.proofs.AcceptedLaws.{refusal-none}
use Rattle.inputs.proofs.BufferLaws.{delivered-holds}
use Rattle.extraction_rules.specs.Call.{Lent, Lengths, Extracted, Left, modules_after, extracted, extraction}
use Rattle.extraction_rules.proofs.ExtractedLaws.{call-room}
use Rattle.extraction_rules.proofs.ReadableLaws.{call-readable}
use Rattle.extraction_rules.proofs.RecordsLaws.{call-records}
use Rattle.extraction.specs.Answer.{answer_refusal, left}
use Rattle.resolving_rules.specs.Call.{Lent as LentRecords, Resolved, Left as LeftList, resolved, resolving}
use Rattle.resolving_rules.proofs.ResolvedLaws.{call-room as list-room, call-modules}
use Rattle.resolving.specs.Answer.{lent_as, answer_refusal as list_refusal, left as left_list}
use Rattle.placement.specs.Stands.{stands}
use Rattle.theorems.specs.Demand.{Declares, takes, Ends, handed_on}
use Rattle.theorems.specs.Relending.{without_marks}
use Rattle.theorems.specs.Lists.{Call, requests, requests_all, sets, reads, reads_esm, extracts, resolves, after, after_all, wraps_any}
use Rattle.corollaries.specs.Functions.{HandsBack, HandOn, AnswersExactly, KeepOrPart, WellPlaced, FunctionsKeepOrPart}
use Rattle.theorems.proofs.ListsLaws.{marked-exactly}
use Rattle.theorems.proofs.DemandLaws.{kept-whole-or-apart}
use Rattle.theorems.proofs.UnmarkedLaws.{kept-or-apart-unmarked}

-- ---- The sentence on lists

hands-back : (c : Call) (s t : Scope) → HandsBack c s t → modules_of t ≡ after c (modules_of s)
unfolding after
hands-back (requests f) s t h = ap modules_of h.2 ∙ ap (λ (g : Generated). g.modules) h.1
hands-back (requests_all files) s t h = ap modules_of h.2 ∙ ap (λ (g : Requesting). g.modules) h.1
hands-back (sets k m) s t h = ap modules_of h.2 ∙ ap (λ (g : Requesting). g.modules) h.1
hands-back (reads k m) s t h = ap modules_of h
hands-back (reads_esm m) s t h = ap modules_of h
hands-back (extracts l room) s t h = ap modules_of h.5 ∙ ap (λ (g : Left). g.modules) h.4
hands-back (resolves l room) s t h = ap modules_of h.3 ∙ ap (λ (g : LeftList). g.modules) h.2

hand-on : (calls : List Call) (s t : Scope) → HandOn calls s t → modules_of t ≡ after_all calls (modules_of s)
unfolding after_all
hand-on [] s t h = ap modules_of h
hand-on (c ∷ calls) s t h = hand-on calls h.0 t h.2 ∙ ap (after_all calls) (hands-back c s h.0 h.1)

-- what is read of a module's mark
read-marked : (m : ModuleId) (ms : Modules) (b : Bool) → tells b ≡ read_mark Wrapping m ms → b ≡ is_marked Wrapping m.0 ms
unfolding read_mark
read-marked m ms b e = go (given m ms) e
  where
    go : (c : Bool) → tells b ≡ cond c (tells (is_marked Wrapping m.0 ms)) (untold not_given) → b ≡ is_marked Wrapping m.0 ms
    go true e = cc
    go false e = absurd (let z : ◌≡◌ {A = ℕ} 0 1 = cc in omega arith)

-- a number that was not given has no mark
unmarked-past : (n : ℕ) (ms : Modules) → ltb n (length ms) ≡ false → is_marked Wrapping n ms ≡ false
unfolding is_marked
unmarked-past n [] e = refl
unmarked-past zero (m ∷ ms) e = absurd (let z = ltb-false 0 (length (m ∷ ms)) e in omega arith)
unmarked-past (suc n) (m ∷ ms) e =
    let z = ltb-false (suc n) (length (m ∷ ms)) e in
    unmarked-past n ms (le-ltb n (length ms) (omega arith))

unread-marked : (m : ModuleId) (ms : Modules) → untold not_given ≡ read_mark Wrapping m ms → is_marked Wrapping m.0 ms ≡ false
unfolding read_mark
unread-marked m ms e = go (given m ms) refl e
  where
    go : (c : Bool) → given m ms ≡ c → untold not_given ≡ cond c (tells (is_marked Wrapping m.0 ms)) (untold not_given) → is_marked Wrapping m.0 ms ≡ false
    go true q e = absurd (let z : ◌≡◌ {A = ℕ} 0 1 = cc in omega arith)
    go false q e = unmarked-past m.0 ms q

handed-marked : (calls : List Call) (s t : Scope) → modules_of s ≡ [] → HandOn calls s t → (n : ℕ) → is_marked Wrapping n (modules_of t) ≡ wraps_any n calls []
handed-marked calls s t fresh h n = ap (is_marked Wrapping n) (hand-on calls s t h ∙ ap (after_all calls) fresh) ∙ marked-exactly calls n

pub answers-exactly : AnswersExactly
answers-exactly calls s t fresh h m b e = read-marked m (modules_of t) b e ∙ handed-marked calls s t fresh h m.0

-- and a number that was not given was wrapped by no call
pub answers-none : (calls : List Call) (s t : Scope) → modules_of s ≡ [] → HandOn calls s t → (m : ModuleId) →
    untold not_given ≡ read_mark Wrapping m (modules_of t) → wraps_any m.0 calls [] ≡ false
answers-none calls s t fresh h m e = sym (handed-marked calls s t fresh h m.0) ∙ unread-marked m (modules_of t) e

-- ---- What the buffers hold

-- the field in the buffer of an accepted call
held : {A : Type 0} (f : A → Field) (m : Outcome A) (a : A) (room : ℕ) {s : List ℕ} → m ≡ done a → has_room (size (f a)) room ≡ true →
    s ≡ buffer_of f m room → field_in s ≡ encode (f a)
held f m a room e h q = ap field_in (q ∙ ap (λ (o : Outcome _). buffer_of f o room) e) ∙ delivered-holds (f a) room h

module _ (l : Lent) (room : Lengths) (ms : Modules) where
  extraction-accepted : {x : Left} → x ≡ extraction l room ms → x.refusal ≡ None → (t : Extracted) × (extracted l room ms ≡ done t)
  unfolding extraction
  extraction-accepted e a = refusal-none (extracted l room ms) (sym (ap (λ (z : Left). z.refusal) e) ∙ a)

  module _ {x : Left} (t : Extracted) (e : x ≡ extraction l room ms) (d : extracted l room ms ≡ done t) where
    extraction-out : field_in x.out ≡ encode t.out
    unfolding extraction
    extraction-out = held (λ (r : Extracted). r.out) (extracted l room ms) t room.out d (call-room l room ms t d).1 (ap (λ (z : Left). z.out) e)

    extraction-records : field_in x.records ≡ encode t.records
    unfolding extraction
    extraction-records = held (λ (r : Extracted). r.records) (extracted l room ms) t room.records d (call-room l room ms t d).2 (ap (λ (z : Left). z.records) e)

    extraction-modules : x.modules ≡ t.modules
    unfolding extraction
    extraction-modules = ap (λ (z : Left). z.modules) e ∙ ap (λ (o : Outcome Extracted). modules_after o ms) d

module _ (l : LentRecords) (room : ℕ) (ms : Modules) {x : LeftList} (e : x ≡ resolving l room ms) where
  resolving-accepted : x.refusal ≡ None → (u : Resolved) × (resolved l room ms ≡ done u)
  unfolding resolving
  resolving-accepted a = refusal-none (resolved l room ms) (sym (ap (λ (z : LeftList). z.refusal) e) ∙ a)

  module _ (u : Resolved) (d : resolved l room ms ≡ done u) where
    resolving-list : field_in x.list ≡ encode u.list
    unfolding resolving
    resolving-list = held (λ (r : Resolved). r.list) (resolved l room ms) u room d (list-room l room ms u d) (ap (λ (z : LeftList). z.list) e)

    resolving-modules : x.modules ≡ u.modules
    unfolding resolving
    resolving-modules = ap (λ (z : LeftList). z.modules) e ∙ call-modules l room ms u d

-- ---- Kept whole or taken apart

-- what is to be shown of every namespace import
abbrev Sentence : Lent → Fields → Extracted → Resolved → Type 0
Sentence l items t u =
    (k : ℕ) (x i : List ℕ) → Declares items k x (more (field 0x22 i none) none) → among (value_of x) (atoms_in l.externals) ≡ false →
    Ends (takes (rows_in l.table) x (stands items i)) i x k (stands items i) items l t u

-- of what accepted calls leave, where the sentence holds of what the rules gave; resolving has the modules c
pub keep-or-part : (l : Lent) (room : Lengths) (ms : Modules) (x : Left) (m : Modes) (n : ℕ) (c : Modules) (y : LeftList) (items : Fields) →
    x ≡ extraction l room ms → x.refusal ≡ None → y ≡ resolving (lent_as m l.table (field_in x.records)) n c → y.refusal ≡ None → Bytes l.tree →
    ((t : Extracted) (u : Resolved) → extracted l room ms ≡ done t → x.modules ≡ t.modules → resolved (handed_on m l t) n c ≡ done u → Sentence l items t u) →
    KeepOrPart l m room n items ms x.modules c y.modules x.out x.records y.list
keep-or-part l room ms x m n c y items e a f b bs sentence =
    let v = extraction-accepted l room ms e a in
    let t = v.0 in
    let records = extraction-records l room ms t e v.1 in
    let modules = extraction-modules l room ms t e v.1 in
    let given = lent_as m l.table (field_in x.records) in
    let w = resolving-accepted given n c f b in
    let u = w.0 in (
      t,
      u,
      v.1,
      w.1,
      record {
        out = ap (read Module) (extraction-out l room ms t e v.1) ∙ (call-readable l room ms bs t v.1).1;
        records = ap (read Records) records ∙ call-records l room ms bs t v.1;
        list = resolving-list given n c f u w.1;
        extracted = modules;
        resolved = resolving-modules given n c f u w.1;
      },
      sentence t u v.1 modules (sym (ap (λ (z : List ℕ). resolved (lent_as m l.table z) n c) records) ∙ w.1),
    )

-- resolving in the scope that extraction handed back
pub functions-keep-or-part : FunctionsKeepOrPart
functions-keep-or-part l room s r w o k m n q g e a f b bs items p =
    keep-or-part l room (modules_of s) (left r w o k) m n (modules_of r.scope) (left_list q g) items e (ap answer_refusal a) f (ap list_refusal b) bs
    (λ t u d modules v k x i h inside.
    kept-whole-or-apart l room (modules_of s) t m n u items p.own d (sym (ap (λ (ms : Modules). resolved (handed_on m l t) n ms) modules) ∙ v) bs
    p.reading p.requesting p.placed k x i h inside)

-- resolving in a scope with its files, without marks
pub keep-or-part-unmarked : (l : Lent) (room : Lengths) (ms : Modules) (x : Left) (m : Modes) (n : ℕ) (y : LeftList) (items : Fields) →
    x ≡ extraction l room ms → x.refusal ≡ None → y ≡ resolving (lent_as m l.table (field_in x.records)) n (without_marks x.modules) →
    y.refusal ≡ None → Bytes l.tree → WellPlaced l ms items →
    KeepOrPart l m room n items ms x.modules (without_marks x.modules) y.modules x.out x.records y.list
keep-or-part-unmarked l room ms x m n y items e a f b bs p =
    keep-or-part l room ms x m n (without_marks x.modules) y items e a f b bs
    (λ t u d modules v k i h inside.
    kept-or-apart-unmarked l room ms t m n u items p.own d (sym (ap (λ (ms : Modules). resolved (handed_on m l t) n (without_marks ms)) modules) ∙ v) bs
    p.reading p.requesting p.placed k i h inside)
