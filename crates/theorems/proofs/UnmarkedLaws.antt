-- Resolving reads no mark and sets none: each of its steps commutes with taking the marks away, since a request and a number look at the
-- files alone. So demand 3's first sentence holds as well where resolving has the extraction's files without their marks.
use Rattle.std.specs.Prelude.{Option, None, Some}
use Prim.Native.Nat.{ℕ, ◌+◌}
use mathlib.Core.Path.{◌≡◌, refl, sym, ap, subst, ◌∙◌}
use mathlib.Core.Bool.{Bool, true, false, cond}
use mathlib.Core.List.{List, [], ◌∷◌, ◌++◌}
use Rattle.std.specs.Option.{unwrap_or}
use lib.Dec.{ltb}
use lib.ListN.{length}
use Rattle.modes.specs.declared.Modes.{Modes}
use Rattle.report.specs.Counts.{no_counts}
use Rattle.scope.specs.Modules.{Modules, number_of, unmarked, request_by, request}
use Rattle.tree.specs.declared.grammar.Set.TheVariants.{Module, Records}
use Rattle.tree.specs.Layout.{value_of, Bytes}
use Rattle.tree.specs.Tree.{Field, field, Fields, none, more, fixed_of, parts_of, size}
use Rattle.tree.specs.Read.{read}
use Rattle.inputs.specs.Outcome.{Outcome, done, refused, onto, refuse_if, refusal_in}
use Rattle.inputs.specs.Lists.{mapped, among}
use Rattle.inputs.specs.Fields.{inside}
use Rattle.inputs.specs.Table.{Row, rows_in, atoms_in, bad_table, table_of, file_of}
use Rattle.inputs.specs.Buffer.{fits, buffer_of}
use Rattle.inputs.proofs.AcceptedLaws.{done-inj, onto-done}
use Rattle.extraction_rules.specs.Call.{Lent, Lengths, Extracted, items_read, extracted}
use Rattle.resolving_rules.specs.Resolve.{sources_in, source_of, forced_in, requested, number_one, number_all, resolved_specifiers, heading, resolved_record, resolved_all}
use Rattle.resolving_rules.specs.Call.{Lent as LentRecords, records_read, Numbered, numbered, Resolved, listed, resolved, modules_after, Left, resolving}
use Rattle.placement.specs.Stands.{How, stands}
use Rattle.placement.specs.Placed.{well_placed}
use Rattle.theorems.specs.Demand.{Declares, takes, Ends, handed_on}
use Rattle.theorems.specs.Relending.{without_marks, ResolvesByFiles}
use Rattle.theorems.proofs.RelendingLaws.{unmarked-append, unmarked-count, unmarked-numbers}
use Rattle.theorems.proofs.DemandLaws.{kept-whole-or-apart}

-- ---- Steps through a function of their value

abbrev through : {A B : Type 0} → (A → B) → Outcome A → Outcome B
through f m = onto m (λ a. done (f a))

-- where the next step commutes with a function, so do both
onto-through : {A B C : Type 0} (f : B → C) (m : Outcome A) (k : A → Outcome B) (j : A → Outcome C) → ((a : A) → j a ≡ through f (k a)) →
    onto m j ≡ through f (onto m k)
onto-through f (done a) k j h = h a
onto-through f (refused n p) k j h = refl

-- the same where the first step goes through a function, too
through-onto : {A B C D : Type 0} (g : A → D) (f : B → C) (m : Outcome A) (k : A → Outcome B) (j : D → Outcome C) →
    ((a : A) → j (g a) ≡ through f (k a)) → onto (through g m) j ≡ through f (onto m k)
through-onto g f (done a) k j h = h a
through-onto g f (refused n p) k j h = refl

-- ---- Numbers

request-unmarked : (f : ℕ) (ms : Modules) → request f (without_marks ms) ≡ mapped (λ r. (r.0, without_marks r.1)) (request f ms)
unfolding request
request-unmarked f ms = ap (λ (o : Option ℕ). request_by o f (without_marks ms)) (unmarked-numbers f ms) ∙ go (number_of f ms)
  where
    room : (b : Bool) →
        cond {A = Option (ℕ × Modules)} b (Some (length ms, without_marks ms ++ (unmarked f ∷ []))) None
        ≡ mapped (λ (r : ℕ × Modules). (r.0, without_marks r.1)) (cond b (Some (length ms, ms ++ (unmarked f ∷ []))) None)
    room true = ap (λ (l : Modules). Some (length ms, l)) (sym (unmarked-append ms (unmarked f ∷ [])))
    room false = refl

    go : (o : Option ℕ) → request_by o f (without_marks ms) ≡ mapped (λ (r : ℕ × Modules). (r.0, without_marks r.1)) (request_by o f ms)
    go (Some n) = refl
    go None =
        ap (λ (n : ℕ). cond {A = Option (ℕ × Modules)} (ltb n 256) (Some (n, without_marks ms ++ (unmarked f ∷ []))) None) (unmarked-count ms) ∙ room (ltb (length ms) 256)

number_one-unmarked : (o : Option ℕ) (ms : Modules) (p : ℕ) → number_one o (without_marks ms) p ≡ through without_marks (number_one o ms p)
unfolding number_one
number_one-unmarked None ms p = refl
number_one-unmarked (Some f) ms p = ap (λ (o : Option (ℕ × Modules)). requested o p) (request-unmarked f ms) ∙ go (request f ms)
  where
    go : (o : Option (ℕ × Modules)) → requested (mapped (λ r. (r.0, without_marks r.1)) o) p ≡ through without_marks (requested o p)
    go None = refl
    go (Some r) = refl

number_all-unmarked : (rows : List Row) (fs : Fields) (ms : Modules) (p : ℕ) →
    number_all rows fs (without_marks ms) p ≡ through without_marks (number_all rows fs ms p)
unfolding number_all
number_all-unmarked rows none ms p = refl
number_all-unmarked rows (more f fs) ms p =
    ap (λ (m : Outcome Modules). onto m (λ new. number_all rows fs new (p + size f))) (number_one-unmarked (file_of (source_of f) rows) ms p)
    ∙ through-onto without_marks without_marks (number_one (file_of (source_of f) rows) ms p) (λ new. number_all rows fs new (p + size f))
    (λ new. number_all rows fs new (p + size f)) (λ new. number_all-unmarked rows fs new (p + size f))

abbrev unmarked_numbered : Numbered → Numbered
unmarked_numbered q = record { rows = q.rows; records = q.records; modules = without_marks q.modules }

numbered-unmarked : (l : LentRecords) (ms : Modules) → numbered l (without_marks ms) ≡ through unmarked_numbered (numbered l ms)
unfolding numbered
numbered-unmarked l ms =
    onto-through unmarked_numbered (refuse_if (bad_table l.table) 1) _ _ λ _.
    onto-through unmarked_numbered (table_of l.table) _ _ λ rows.
    onto-through unmarked_numbered (records_read (read Records l.records)) _ _ λ cs.
    let next : Modules → Outcome Numbered = λ new. done (record { rows = rows; records = cs; modules = new }) in
    ap (λ (m : Outcome Modules). onto m next) (number_all-unmarked rows (sources_in cs) ms 3)
    ∙ through-onto without_marks unmarked_numbered (number_all rows (sources_in cs) ms 3) next next (λ new. refl)

-- ---- The list

record-unmarked : (o : Option ℕ) (forced : List (List ℕ)) (ms : Modules) (f : Field) (p : ℕ) →
    resolved_record o forced (without_marks ms) f p ≡ resolved_record o forced ms f p
unfolding resolved_record
record-unmarked None forced ms f p = refl
record-unmarked (Some file) forced ms f p =
    ap
    (λ (n : Option ℕ). onto (resolved_specifiers (among (source_of f) forced) (parts_of f) (inside p (fixed_of f)))
    (λ gs. done (field 0x90 (heading f (unwrap_or n 0) file) gs)))
    (unmarked-numbers file ms)

all-unmarked : (rows : List Row) (forced : List (List ℕ)) (ms : Modules) (fs : Fields) (p : ℕ) →
    resolved_all rows forced (without_marks ms) fs p ≡ resolved_all rows forced ms fs p
unfolding resolved_all
all-unmarked rows forced ms none p = refl
all-unmarked rows forced ms (more f fs) p =
    rw (record-unmarked (file_of (source_of f) rows) forced ms f p, all-unmarked rows forced ms fs (p + size f)) refl

abbrev unmarked_resolved : Resolved → Resolved
unmarked_resolved q = record { modules = without_marks q.modules; list = q.list }

listed-unmarked : (q : Numbered) (room : ℕ) → listed (unmarked_numbered q) room ≡ through unmarked_resolved (listed q room)
unfolding listed
listed-unmarked q room =
    rw (all-unmarked q.rows (forced_in q.records) q.modules (sources_in q.records) 3)
    (onto-through unmarked_resolved (resolved_all q.rows (forced_in q.records) q.modules (sources_in q.records) 3) _ _ λ gs.
    onto-through unmarked_resolved (fits (field 0x03 [] gs) room) _ _ λ _. refl)

-- ---- The whole call

resolved-unmarked : (l : LentRecords) (room : ℕ) (ms : Modules) → resolved l room (without_marks ms) ≡ through unmarked_resolved (resolved l room ms)
unfolding resolved
resolved-unmarked l room ms =
    ap (λ (m : Outcome Numbered). onto m (λ q. listed q room)) (numbered-unmarked l ms)
    ∙ through-onto unmarked_numbered unmarked_resolved (numbered l ms) (λ q. listed q room) (λ q. listed q room) (λ q. listed-unmarked q room)

-- what a call leaves, by its outcomes
abbrev left_by : Outcome Numbered → Outcome Resolved → ℕ → Modules → Left
left_by m o room ms = record { refusal = refusal_in o; modules = modules_after m ms; report = no_counts; list = buffer_of (λ r. r.list) o room }

abbrev unmarked_left : Left → Left
unmarked_left r = record { refusal = r.refusal; modules = without_marks r.modules; report = r.report; list = r.list }

left-unmarked : (m : Outcome Numbered) (o : Outcome Resolved) (room : ℕ) (ms : Modules) →
    left_by (through unmarked_numbered m) (through unmarked_resolved o) room (without_marks ms) ≡ unmarked_left (left_by m o room ms)
left-unmarked (done q) (done r) room ms = refl
left-unmarked (done q) (refused k p) room ms = refl
left-unmarked (refused n i) (done r) room ms = refl
left-unmarked (refused n i) (refused k p) room ms = refl

pub resolves-by-files : ResolvesByFiles
unfolding resolving
resolves-by-files l room ms =
    ap (λ (m : Outcome Numbered). left_by m (resolved l room (without_marks ms)) room (without_marks ms)) (numbered-unmarked l ms)
    ∙ ap (λ (o : Outcome Resolved). left_by (through unmarked_numbered (numbered l ms)) o room (without_marks ms)) (resolved-unmarked l room ms)
    ∙ left-unmarked (numbered l ms) (resolved l room ms) room ms

-- ---- Kept whole or taken apart

ends-unmarked : (b : Bool) (i x : List ℕ) (k : ℕ) (hs : List How) (items : Fields) (l : Lent) (r : Extracted) (q : Resolved) →
    Ends b i x k hs items l r q → Ends b i x k hs items l r (unmarked_resolved q)
ends-unmarked true i x k hs items l r q h = (h.0, (h.1.0, h.1.1, unmarked-numbers h.1.0 q.modules ∙ h.1.2), h.2)
ends-unmarked false i x k hs items l r q h = h

-- `KeptOrApart`, with the files of the extraction's scope in place of that scope
pub kept-or-apart-unmarked : (l : Lent) (room : Lengths) (ms : Modules) (r : Extracted) (m : Modes) (n : ℕ) (q : Resolved) (items : Fields) (own : ℕ × Modules) →
    extracted l room ms ≡ done r → resolved (handed_on m l r) n (without_marks r.modules) ≡ done q →
    Bytes l.tree → items_read (read Module l.tree) ≡ done items → request l.file ms ≡ Some own → well_placed own.0 items ≡ true →
    (k : ℕ) (x i : List ℕ) → Declares items k x (more (field 0x22 i none) none) → among (value_of x) (atoms_in l.externals) ≡ false →
    Ends (takes (rows_in l.table) x (stands items i)) i x k (stands items i) items l r q
kept-or-apart-unmarked l room ms r m n q items own e v bs reading requesting placed k x i d inside =
    let b = takes (rows_in l.table) x (stands items i) in
    let w = onto-done (resolved (handed_on m l r) n r.modules) _ q (sym (resolved-unmarked (handed_on m l r) n r.modules) ∙ v) in
    subst (λ (u : Resolved). Ends b i x k (stands items i) items l r u) (done-inj w.2)
    (ends-unmarked b i x k (stands items i) items l r w.0
    (kept-whole-or-apart l room ms r m n w.0 items own e w.1 bs reading requesting placed k x i d inside))
