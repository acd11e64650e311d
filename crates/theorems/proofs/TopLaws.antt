-- Demand 3, first part, for a source that resolves and records that read back: a namespace import is kept whole or taken apart completely.
use Rattle.std.specs.Prelude.{Option, None, Some}
use Prim.Native.Nat.{ℕ}
use mathlib.Core.Path.{◌≡◌, refl, sym, subst}
use mathlib.Core.Bool.{Bool, true, false, true≢false}
use mathlib.Core.List.{List}
use Rattle.modes.specs.declared.Modes.{Modes}
use Rattle.scope.specs.Id.{require_atom, local}
use Rattle.scope.specs.Modules.{Modules, request}
use Rattle.tree.specs.declared.grammar.Set.TheVariants.{Module, Records}
use Rattle.tree.specs.Layout.{same, two, four, name_of, context_of, value_of}
use Rattle.tree.specs.Tree.{field, Fields, none, more, parts_of, encode}
use Rattle.tree.specs.Grammar.{rule_of}
use Rattle.tree.specs.Read.{read}
use Rattle.inputs.specs.Outcome.{done}
use Rattle.inputs.specs.Lists.{is_some, among}
use Rattle.inputs.specs.Table.{Row, rows_in, atoms_in, file_of}
use Rattle.extraction_rules.specs.State.{first, second, start}
use Rattle.extraction_rules.specs.Walk.{walk_module, walk_again}
use Rattle.extraction_rules.specs.Records.{record_fields, records_of}
use Rattle.extraction_rules.proofs.OutcomeLaws.{after-done}
use Rattle.extraction_rules.specs.First.{external}
use Rattle.extraction_rules.specs.Call.{Lent, Lengths, Extracted, items_read, setting, extracted}
use Rattle.extraction_rules.proofs.ShapeLaws.{Shaped, shaped-parts, shaped-each}
use Rattle.extraction_rules.proofs.ReadableLaws.{Items}
use Rattle.extraction_rules.proofs.ExtractedLaws.{Run, call-run}
use Rattle.resolving_rules.specs.Resolve.{sources_in, forced_in, resolved_all}
use Rattle.resolving_rules.specs.Call.{Resolved, records_read, resolved}
use Rattle.resolving_rules.proofs.ResolvedLaws.{Listed, call-listed}
use Rattle.placement.specs.Stands.{How, stands}
use Rattle.placement.specs.Placed.{own_locals, sole_namespace, well_placed, item_at}
use Rattle.placement.proofs.PlacedLaws.{front-imports, fits-placed, each-at, imports-all, well-of, mine-of}
use Rattle.placement.proofs.DroppedLaws.{place-front}
use Rattle.placement.proofs.DefaultLaws.{SpaceIn, space-local, imports-of}
use Rattle.theorems.specs.Demand.{Declares, takes, Ends, handed_on}
use Rattle.theorems.proofs.SettledLaws.{takes_apart}
use Rattle.theorems.proofs.SurroundedLaws.{fine-placed, ready-placed, around-well}
use Rattle.theorems.proofs.SourcesLaws.{sources-of}
use Rattle.theorems.proofs.ResolvesLaws.{Collected, first-collects, again-collects, collected-resolves}
use Rattle.theorems.proofs.CoreLaws.{EndsBy, core}

-- ---- The theorem

-- taken apart or kept, in the words of the statement
ends-from : (b : Bool) (i x : List ℕ) (k file : ℕ) (hs : List How) (items : Fields) (l : Lent) (r : Extracted) (q : Resolved) (own : ℕ)
    (context : context_of i ≡ four (local own)) (named : same (name_of i) (two require_atom) ≡ false)
    (Space : List ℕ → Type 0) (locals : (j : List ℕ) → Space j → context_of j ≡ four (local own))
    (res : file_of (value_of x) (rows_in l.table) ≡ Some file) (inner : external (setting first own l (rows_in l.table)) x ≡ false)
    (within : external (setting second own l (rows_in l.table)) x ≡ false) →
    EndsBy i x own file context named Space locals l (rows_in l.table) res inner within b k hs items (parts_of r.out) (parts_of q.list) q.modules → Ends b i x k hs items l r q
ends-from true i x k file hs items l r q own context named Space locals res inner within h = (h.0, (file, res, h.1), h.2)
ends-from false i x k file hs items l r q own context named Space locals res inner within h = h

takes-is : (rows : List Row) (x : List ℕ) (file : ℕ) (hs : List How) → file_of (value_of x) rows ≡ Some file → takes rows x hs ≡ takes_apart hs
unfolding takes
takes-is rows x file hs q = rw q

-- of a source that resolves
resolving-ends : (l : Lent) (room : Lengths) (ms : Modules) (r : Extracted) (m : Modes) (n : ℕ) (q : Resolved) (items : Fields) (own : ℕ × Modules) →
    extracted l room ms ≡ done r → resolved (handed_on m l r) n r.modules ≡ done q →
    items_read (read Module l.tree) ≡ done items → request l.file ms ≡ Some own → well_placed own.0 items ≡ true →
    (k : ℕ) (x i : List ℕ) → Declares items k x (more (field 0x22 i none) none) → among (value_of x) (atoms_in l.externals) ≡ false →
    Items items → records_read (read Records (encode r.records)) ≡ done (parts_of r.records) → (file : ℕ) → file_of (value_of x) (rows_in l.table) ≡ Some file →
    Ends (takes (rows_in l.table) x (stands items i)) i x k (stands items i) items l r q
unfolding external
resolving-ends l room ms r m n q items own accepted resolving reading requesting placed k x i declares inside shape readable file res =
    let w = well-of own.0 items placed in
    let mine = mine-of own.0 items k x i declares.0 shape.shaped w declares.1 declares.2 in
    let f = fine-placed items i mine.fit in
    let items-shaped = shaped-each items (rule_of 0x01) shape.shaped in
    let a = around-well i x own.0 file mine.context k items declares.0 shape.shaped w.share w.locals (fits-placed items i mine.fit) mine.whole declares.1 declares.2
    (shaped-parts (field 0x10 x declares.0) 0x10 (each-at Shaped k items (field 0x10 x declares.0) items-shaped declares.1) refl) in
    let front = front-imports k items x declares.0 w.precede declares.1 in
    let rows = rows_in l.table in
    let Space = SpaceIn own.0 items in
    let locals = space-local own.0 items in
    let ready = ready-placed i x own.0 file mine.context Space locals items shape.shaped
    (imports-of own.0 items items-shaped w.share (imports-all (own_locals own.0) items w.locals) (imports-all sole_namespace items w.soles)) in
    let u = call-listed (handed_on m l r) n r.modules q (parts_of r.records) resolving readable in
    subst (λ (b : Bool). Ends b i x k (stands items i) items l r q) (sym (takes-is rows x file (stands items i) res))
    (ends-from (takes_apart (stands items i)) i x k file (stands items i) items l r q own.0 mine.context f.0 Space locals res inside inside
    (core i x own.0 file mine.context f.0 Space locals l rows res inside inside k items own.1 q.modules r (parts_of q.list) shape
    (record { around = a.0; front = front; place = place-front k items (field 0x10 x declares.0) declares.1 front; clean = a.1; ready = ready; fine = f.1 })
    (call-run l room ms r items own accepted reading requesting) u.numbers u.lists))

-- a source that does not resolve would have been refused
some-file : (o : Option ℕ) → is_some o ≡ true → (f : ℕ) × (o ≡ Some f)
some-file None h = absurd (true≢false (sym h))
some-file (Some f) h = (f, refl)

pub source-resolves : (l : Lent) {room : Lengths} (r : Extracted) (q : Resolved) (items : Fields) (own : ℕ × Modules) (k : ℕ) (x : List ℕ)
    (cs : Fields) → Run l room (rows_in l.table) own.0 items own.1 r →
    item_at k items ≡ Some (field 0x10 x cs) → among (value_of x) (atoms_in l.externals) ≡ false →
    Listed (rows_in l.table) (parts_of r.records) r.modules q → (f : ℕ) × (file_of (value_of x) (rows_in l.table) ≡ Some f)
unfolding external
source-resolves l r q items own k x cs u w d h =
    let rows = rows_in l.table in
    let a =
    after-done (walk_module (setting first own.0 l rows) items (start own.1)) (λ gs t. Collected (value_of x) t) (u.works, u.middle)
    u.once (first-collects (value_of x) (setting first own.0 l rows) refl k items x cs (start own.1) w d refl) in
    let b =
    after-done (walk_again (setting second own.0 l rows) u.works u.middle) (λ gs t. Collected (value_of x) t) (u.outs, u.end) u.twice
    (again-collects (value_of x) (setting second own.0 l rows) u.works u.middle a) in
    let c = subst (λ (z : Extracted). resolved_all rows (forced_in (parts_of z.records)) q.modules (sources_in (parts_of z.records)) 3 ≡ done (parts_of q.list)) (sym u.given) h.lists in
    some-file (file_of (value_of x) rows)
    (collected-resolves (value_of x) rows (forced_in (parts_of (records_of u.end))) q.modules u.end.collected
    (record_fields 0x81 u.end.lazy) 3 (parts_of q.list) b
    (subst (λ (z : Fields). resolved_all rows (forced_in (parts_of (records_of u.end))) q.modules z 3 ≡ done (parts_of q.list)) (sources-of u.end) c))

-- Demand 3, first part, where the lent items are within the grammar and the records read back
pub kept-or-apart : (l : Lent) (room : Lengths) (ms : Modules) (r : Extracted) (m : Modes) (n : ℕ) (q : Resolved) (items : Fields) (own : ℕ × Modules) →
    extracted l room ms ≡ done r → resolved (handed_on m l r) n r.modules ≡ done q →
    items_read (read Module l.tree) ≡ done items → request l.file ms ≡ Some own → well_placed own.0 items ≡ true →
    (k : ℕ) (x i : List ℕ) → Declares items k x (more (field 0x22 i none) none) → among (value_of x) (atoms_in l.externals) ≡ false →
    Items items → records_read (read Records (encode r.records)) ≡ done (parts_of r.records) → Ends (takes (rows_in l.table) x (stands items i)) i x k (stands items i) items l r q
kept-or-apart l room ms r m n q items own accepted resolving reading requesting placed k x i declares inside shape readable =
    let f =
    source-resolves l r q items own k x declares.0 (call-run l room ms r items own accepted reading requesting) declares.1 inside
    (call-listed (handed_on m l r) n r.modules q (parts_of r.records) resolving readable) in
    resolving-ends l room ms r m n q items own accepted resolving reading requesting placed k x i declares inside shape readable f.0 f.1
