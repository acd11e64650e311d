-- The whole call: an array of zeros, the steps in their order, and what is left at the end.
use Rattle.std.specs.Prelude.{Option, None, Result, Ok, Err}
use Rattle.std.specs.Bool.{then_some}
use Rattle.std.specs.Option.{ok_or}
use Prim.Native.Nat.{ℕ, suc, ◌≤◌}
use native.Mathlib.Omega.{arith}
use mathlib.Core.Path.{◌≡◌, refl, sym, ap, subst, ◌∙◌}
use mathlib.Core.Bool.{Bool, true, false}
use mathlib.Core.List.{List, [], ◌∷◌, map}
use lib.ListN.{length, take, replicate}
use Rattle.modes.specs.declared.Modes.{Modes}
use Rattle.modes.specs.Bits.{modes_of}
use Rattle.report.specs.declared.Report.{Report}
use Rattle.report.specs.Counts.{no_counts}
use Rattle.scope.specs.Modules.{Modules, request}
use Rattle.scope.specs.ScopeValue.{modules_of}
use Rattle.scope.specs.declared.Scope.{Scope}
use Rattle.tree.specs.declared.grammar.Set.TheVariants.{Module}
use Rattle.tree.specs.Layout.{Bytes}
use Rattle.tree.specs.Tree.{Field, Fields, none, more, encode, size}
use Rattle.tree.specs.Read.{fine, read}
use Rattle.tree.proofs.TreeLaws.{size-encode}
use Rattle.writer.specs.Finished.{has_room, zeroed, delivered}
use Rattle.inputs.specs.Outcome.{Outcome, done, refused, onto, placeless, refusal_in}
use Rattle.inputs.specs.Buffer.{fits, buffer_of}
use Rattle.inputs.specs.Table.{atoms_in, rows_in}
use Rattle.inputs.proofs.AcceptedLaws.{done-refused}
use Rattle.extraction_rules.specs.State.{Record, State, first, second, Setting, start, set_top}
use Rattle.extraction_rules.specs.Walk.{walk_module, walk_again}
use Rattle.extraction_rules.specs.Records.{records_of}
use Rattle.extraction_rules.specs.Call.{Lent, Lengths, Extracted, Left, own_module, setting, module_with, extracted_from, passes, modules_after, extracted, extraction}
use Rattle.extraction_rules.proofs.OutcomeLaws.{After, after-both, after-done}
use Rattle.extraction_rules.proofs.FirstLaws.{sources_of}
use Rattle.extraction_rules.proofs.WalkLaws.{ImportsAll}
use Rattle.extraction_rules.proofs.SanityLaws.{Known}
use Rattle.extraction_rules.proofs.ImportsLaws.{walk_module-known}
use Rattle.extraction_rules.proofs.ReadableLaws.{Items, items-readable, run-within, room-size as room_most}
use Rattle.tables.specs.Rows.{rows}
use Rattle.state.specs.Cells.{Env, externals as externals-kind, table as table-kind, table_of, atom_of, lent_of, cells, Shows, sources_in}
use Rattle.state.specs.Does.{Tells, Resets, with_own, with_modes, with_externals, with_table}
use Rattle.state.proofs.RestLaws.{zeros-show}
use Rattle.steps.specs.Refusal.{refusal_of}
use Rattle.records.specs.Model.{rebuilt}
use Rattle.records.specs.Writes.{placed, literal_in, Placing, BothRead, items_in, records_in}
use Rattle.records.proofs.RebuiltLaws.{run-rebuilt}
use Rattle.records.proofs.ToldLaws.{items-read}
use Rattle.extraction.specs.declared.ExtractError.{ExtractError}
use Rattle.extraction.specs.declared.ExtractError.TheVariants.{BadLists, NamedTwice, Unread as NoTree, Refused, NoRoom}
use Rattle.extraction.specs.Answer.{answer_refusal, outcome_of, UnreadAs, lent_as, room_in, left}
use Rattle.extraction.specs.Stages.{lists_of, setting_in, LentTo, OwnIs, Owns, Begun, PreparedIs, Prepares, PassIs, Inside, Firsts, marking, Seconds, DeliversFor}
use Rattle.extraction.specs.Stages.{Whole, TurnedAs, EndIs, Ends}
use Rattle.extraction.proofs.HeldLaws.{fits-not, fits-so, room-size}
use Rattle.extraction.proofs.ReadLaws.{module-read}
use Rattle.extraction.proofs.AgainLaws.{lost, losing, again-by, told}
use Rattle.extraction.proofs.ListsLaws.{says}

-- ---- What a call is set to and lent

-- what the environment is, by its setting
as-set : (x : Env) (e : Setting) → x.setting ≡ e → record { setting = e; literal = x.literal; bound = x.bound } ≡ x
as-set x e q = ap (λ (e : Setting). record { setting = e; literal = x.literal; bound = x.bound }) (sym q)

map-none : {A B : Type 0} (f : A → B) (l : List A) → map f l ≡ [] → l ≡ []
map-none f [] e = refl
map-none f (a ∷ l) e = absurd (let z : ◌≡◌ {A = ℕ} (suc (length (map f l))) 0 = ap length e in omega arith)

module _ (modes : Modes) {t t1 : List ℕ} (z : t ≡ replicate cells 0) (a : Resets (with_modes modes) t t1) where
  pub externals-empty : rows (table_of externals-kind) t1 ≡ []
  externals-empty = map-none atom_of _ (a.shows (set_top false (start [])) (zeros-show z (λ _. []) (λ _. none))).sets.externals

  pub table-empty : (l : List (List ℕ)) {t2 : List ℕ} → Resets (with_externals l) t1 t2 → rows (table_of table-kind) t2 ≡ []
  table-empty l b =
      let s = set_top false (start []) in
      map-none lent_of _ (b.shows s (a.shows s (zeros-show z (λ _. []) (λ _. none)))).sets.table

pub lent-to : (modes : Modes) (externals table : List ℕ) {t t1 t2 t3 : List ℕ} → t ≡ replicate cells 0 → Resets (with_modes modes) t t1 →
    Resets (with_externals (atoms_in externals)) t1 t2 → Resets (with_table (rows_in table)) t2 t3 → LentTo modes externals table t3
lent-to modes externals table {t} {t3 = t3} z a b c =
    record {
      shows = λ x q.
          let s = set_top false (start []) in
          let w = zeros-show z x.literal x.bound in
          subst (λ (y : Env). Shows y t3 s) (as-set x (setting_in first 0 modes externals table) q) (c.shows s (b.shows s (a.shows s w)));
    }

-- ---- The passes as the rules have them

-- from the tree after the second pass on
abbrev lastly : Fields → ℕ → ℕ → Fields × State → Outcome Extracted
lastly works out records two =
    onto (fits (module_with two.0) out) (λ _. onto (fits (records_of two.1) records) (λ _. done (extracted_from works two.0 two.1)))

-- from the second pass on
abbrev secondly : Setting → ℕ → ℕ → Fields → State → Outcome Extracted
secondly e out records works s = onto (placeless (walk_again e works s)) (lastly works out records)

module _ (l : Lent) (room : Lengths) (own : ℕ) (ms : Modules) where
  abbrev one : Setting
  one = setting first own l (rows_in l.table)

  abbrev two : Setting
  two = setting second own l (rows_in l.table)

  abbrev walked_first : Outcome (Fields × State)
  walked_first = walk_module one (items_in l.tree) (set_top false (start ms))

  -- the pass sets *top* itself
  top-set : walk_module one (items_in l.tree) (start ms) ≡ walked_first
  unfolding walk_module
  top-set = refl

  abbrev further : Fields × State → Outcome Extracted
  further r = onto (fits (module_with r.0) room.work) (λ _. secondly two room.out room.records r.0 r.1)

  abbrev passes_by : Outcome Extracted
  passes_by = passes l room (rows_in l.table) (items_in l.tree) (own, ms)

  passes-onto : passes_by ≡ onto (walk_module one (items_in l.tree) (start ms)) further
  unfolding passes
  passes-onto = refl

  passes-by : (m : Outcome (Fields × State)) → walked_first ≡ m → passes_by ≡ onto m further
  passes-by m q = passes-onto ∙ ap (λ (z : Outcome (Fields × State)). onto z further) (top-set ∙ q)

  passes-fit : (works : Fields) (s : State) (m : Outcome (Unit {0})) → walked_first ≡ done (works, s) → fits (module_with works) room.work ≡ m →
      passes_by ≡ onto m (λ _. secondly two room.out room.records works s)
  passes-fit works s m p q =
      passes-by (done (works, s)) p ∙ ap (λ (z : Outcome (Unit {0})). onto z (λ _. secondly two room.out room.records works s)) q

-- what the first pass leaves, and what the second makes of it
pub record Between (e : Setting) (works : Fields) (s : State) : Type 0 where
  pub items : Items works
  pub known : ImportsAll works (Known e.externals (sources_in s.collected))
  pub outs : After (walk_again e works s) (λ outs s'. Items outs × (s'.collected ≡ map (rebuilt works outs s'.forced) s'.collected))

abbrev mapped : Fields → Fields → State → List Record
mapped works outs s = map (rebuilt works outs s.forced) s.collected

between : (l : Lent) (own : ℕ) (ms : Modules) (works : Fields) (s : State) → Items (items_in l.tree) →
    walk_module (setting first own l (rows_in l.table)) (items_in l.tree) (start ms) ≡ done (works, s) → Between (setting second own l (rows_in l.table)) works s
between l own ms works s h e =
    let rows = rows_in l.table in
    let a = setting first own l rows in
    let b = setting second own l rows in
    let items = items_in l.tree in
    let m = walk_module a items (start ms) in
    let within =
    after-done m (λ ws z. Items ws × After (walk_again b ws z) (λ outs z'. Items outs)) (works, s) e (run-within l rows own ms items h) in
    let retold =
    after-done m (λ ws z. After (walk_again b ws z) (λ outs z'. z'.collected ≡ mapped ws outs z')) (works, s) e (run-rebuilt l rows own ms items h) in
    record {
      items = within.0;
      known = after-done m (λ ws z. ImportsAll ws (Known a.externals (sources_of z.collected))) (works, s) e (walk_module-known a refl items (start ms));
      outs = after-both (walk_again b works s) (λ outs z'. Items outs) (λ outs z'. z'.collected ≡ mapped works outs z') within.1 retold;
    }

placeless-lost : (m : Outcome (Fields × State)) → placeless (onto m losing) ≡ onto (placeless m) losing
placeless-lost (done r) = refl
placeless-lost (refused n p) = refl

placeless-done : {A : Type 0} (m : Outcome A) (a : A) → placeless m ≡ done a → m ≡ done a
placeless-done (done b) a e = e
placeless-done (refused n p) a e = done-refused e

module _ (e : Setting) (out records : ℕ) (works : Fields) (s : State) where
  secondly-by : (m : Outcome (Fields × State)) → placeless (marking e works s) ≡ m → secondly e out records works s ≡ onto (onto m losing) (lastly works out records)
  secondly-by m q =
      ap (λ (z : Outcome (Fields × State)). onto (placeless z) (lastly works out records)) (again-by e works s (marking e works s) refl)
      ∙ ap (λ (z : Outcome (Fields × State)). onto z (lastly works out records)) (placeless-lost (marking e works s))
      ∙ ap (λ (z : Outcome (Fields × State)). onto (onto z losing) (lastly works out records)) q

  secondly-refused : (n p : ℕ) → placeless (marking e works s) ≡ refused n p → secondly e out records works s ≡ refused n p
  secondly-refused n p q = secondly-by (refused n p) q

  secondly-fit : (outs : Fields) (s2 : State) (m : Outcome (Unit {0})) → placeless (marking e works s) ≡ done (outs, s2) → fits (module_with outs) out ≡ m →
      secondly e out records works s ≡ onto m (λ _. onto (fits (records_of (lost s2)) records) (λ _. done (extracted_from works outs (lost s2))))
  secondly-fit outs s2 m p q =
      secondly-by (done (outs, s2)) p
      ∙ ap (λ (z : Outcome (Unit {0})). onto z (λ _. onto (fits (records_of (lost s2)) records) (λ _. done (extracted_from works outs (lost s2))))) q

-- a tree that fits is no longer than its buffer
pub inside-fits : {r : Result ℕ ExtractError} {n room : ℕ} → r ≡ Ok n → Inside r room → n ≤ room
inside-fits {room = room} e h = subst (λ (r : Result ℕ ExtractError). Inside r room) e h

-- ---- Before the passes

no-room : Lengths
no-room = record { work = 0; out = 0; records = 0 }

module _ (file : ℕ) (modes : Modes) (externals table tree : List ℕ) (ms : Modules) {r : Result Unit ExtractError} (d : r ≡ lists_of (lent_as 0 (modes_of 0) externals table tree)) where
  abbrev lent : Lent
  lent = lent_as file modes externals table tree

  pub prepared-refused : {t : List ℕ} {v : ExtractError} → t ≡ replicate cells 0 → r ≡ Err v → Prepares lent ms t (Err v)
  prepared-refused {v = v} z e =
      record {
        is =
            record {
              is = λ room. (says file modes externals table tree room ms (Err v) d e).0;
              why = (says file modes externals table tree no-room ms (Err v) d e).1;
            };
      }

  -- then the own file
  module _ (e : r ≡ Ok tt) where
    pub lists-short : (length externals ≤ 1024) × (length table ≤ 4096)
    lists-short = let s = says file modes externals table tree no-room ms (Ok tt) d e in (s.2, s.3)

    owned_by : (room : Lengths) (o : Outcome (ℕ × Modules)) → own_module (request file ms) ≡ o →
        extracted lent room ms ≡ onto o (passes lent room (rows_in table) (items_in tree))
    owned_by room o q =
        (says file modes externals table tree room ms (Ok tt) d e).0
        ∙ ap (λ (z : Outcome (ℕ × Modules)). onto z (passes lent room (rows_in table) (items_in tree))) q

    pub prepared-own : Bytes tree → {t1 t2 : List ℕ} → LentTo modes externals table t1 → {a : Result Unit ExtractError} → Owns file ms t1 t2 a → Prepares lent ms t2 a
    prepared-own bs {t1} {t2} k {a} g = record { is = go a g.is }
      where
        go : (a : Result Unit ExtractError) → OwnIs file ms t1 t2 a → PreparedIs lent ms t2 a
        go (Ok u) w =
            let s = says file modes externals table tree no-room ms (Ok tt) d e in
            record {
              own = w.own;
              modules = w.modules;
              rest = λ room. owned_by room (done (w.own, w.modules)) (ap own_module w.is);
              shows = λ x q.
                  let y = with_own 0 x in
                  let v = k.shows y (ap (λ (z : Setting). (with_own 0 (record { setting = z; literal = x.literal; bound = x.bound })).setting) q) in
                  subst (λ (y : Env). Shows y t2 (set_top false (start w.modules))) (as-set x (setting first w.own lent (rows_in table)) q)
                  (subst (λ (e : Setting). Shows (record { setting = e; literal = x.literal; bound = x.bound }) t2 (set_top false (start w.modules)))
                  (ap (λ (z : Setting). (with_own w.own (record { setting = z; literal = x.literal; bound = x.bound })).setting) q)
                  (w.shows (set_top false (start [])) v));
              read = module-read tree s.4.0 bs s.1 s.4.1;
            }
        go (Err v) w =
            record {
              is = λ room r. owned_by room (refused 5 0) (ap own_module w.1) ∙ sym (ap (λ (z : ExtractError). outcome_of (Err z) r) w.0);
              why = subst (λ (z : ExtractError). UnreadAs (Err z) (read Module tree)) (sym w.0) tt;
            }

-- ---- The first pass

-- what stands at the places of these trees, in a pass
abbrev standing : Setting → List ℕ → List ℕ → Env
standing e tree part = record { setting = e; literal = literal_in tree part; bound = placed tree part }

stands : (e : Setting) (tree part : List ℕ) → Placing tree part (standing e tree part)
stands e tree part = record { bindings_placed = λ q. refl; literals_placed = λ q. refl }

-- the first pass is done, and its tree fits: part is that tree
pub record Halfway (l : Lent) (m : Outcome Extracted) (room : Lengths) (t part work work' : List ℕ) : Type 0 where
  pub own : ℕ
  pub works : Fields
  pub state : State
  pub rest : m ≡ secondly (setting second own l (rows_in l.table)) room.out room.records works state
  pub shows : Shows (standing (setting first own l (rows_in l.table)) l.tree part) t state
  pub reads : read Module part ≡ fine (more (module_with works) none)
  pub most : length part ≤ 65538
  pub mid : Between (setting second own l (rows_in l.table)) works state
  pub buffer : work' ≡ delivered (encode (module_with works)) (length work)

module _ (l : Lent) (ms : Modules) (work out records : List ℕ) {t t1 work1 : List ℕ} {p : Result ℕ ExtractError} (b : Begun l ms t) (g : Firsts l.tree t work t1 work1 p) where
  abbrev lengths : Lengths
  lengths = room_in work out records

  abbrev firstly : Setting
  firstly = setting first b.own l (rows_in l.table)

  passed : (part : List ℕ) (a : Result ℕ ExtractError) → p ≡ a →
      PassIs (standing firstly l.tree part) (walked_first l lengths b.own b.modules) work t1 work1 a
  passed part a e =
      let x = standing firstly l.tree part in
      subst (PassIs x (walked_first l lengths b.own b.modules) work t1 work1) e
      (g.is b.modules refl (b.shows x refl) b.read part (stands firstly l.tree part))

  pub once-turned : {B : Extracted → Type 0} {u : List ℕ} {v : ExtractError} → p ≡ Err v → Ends B (extracted l lengths ms) l.tree u (Err v)
  once-turned {B} {u} {v} e = record { is = go v e }
    where
      go : (v : ExtractError) → p ≡ Err v → TurnedAs (extracted l lengths ms) l.tree v
      go BadLists q = absurd (passed [] (Err BadLists) q)
      go NamedTwice q = absurd (passed [] (Err NamedTwice) q)
      go (NoTree w) q = absurd (passed [] (Err (NoTree w)) q)
      go (Refused w) q =
          record {
            is = λ _. b.rest lengths ∙ passes-by l lengths b.own b.modules (refused (refusal_of w.why) w.place) (passed [] (Err (Refused w)) q);
            why = tt;
          }
      go NoRoom q =
          let z = passed [] (Err NoRoom) q in
          let f = fits-not (module_with z.items) (length work) z.short in
          record { is = λ _. b.rest lengths ∙ passes-fit l lengths b.own b.modules z.items z.state (refused 9 0) z.is f; why = tt }

  pub halfway : (n : ℕ) → p ≡ Ok n → Halfway l (extracted l lengths ms) lengths t1 (take n work1) work work1
  halfway n e =
      let part = take n work1 in
      let z = passed part (Ok n) e in
      let h = module_with z.items in
      let mid = between l b.own b.modules z.items z.state b.read.items (top-set l lengths b.own b.modules ∙ z.is) in
      record {
        own = b.own;
        works = z.items;
        state = z.state;
        rest = b.rest lengths ∙ passes-fit l lengths b.own b.modules z.items z.state (done tt) z.is (fits-so h (length work) z.room);
        shows = z.shows;
        reads = ap (read Module) z.part ∙ items-readable z.items (length work) mid.items z.room;
        most = let i = ap length z.part in let j = size-encode h in let v = room_most (size h) (length work) z.room in omega arith;
        mid = mid;
        buffer = z.buffer;
      }

-- ---- The second pass

-- both passes are done, and their trees fit: part and rest are these
pub record Settled (m : Outcome Extracted) (tree t part last work out records work' out' : List ℕ) : Type 0 where
  pub works : Fields
  pub outs : Fields
  pub state : State
  pub rest : m ≡ onto (fits (records_of (lost state)) (length records)) (λ _. done (extracted_from works outs (lost state)))
  pub around : Env
  pub placing : Placing tree part around
  pub shows : Shows around t state
  pub both : BothRead part last
  pub told : records_in part last state ≡ records_of (lost state)
  pub work_held : work' ≡ delivered (encode (module_with works)) (length work)
  pub out_held : out' ≡ delivered (encode (module_with outs)) (length out)

module _ (records : List ℕ) {l : Lent} {m : Outcome Extracted} {work out : List ℕ} {t t1 part work1 out1 : List ℕ} {p : Result ℕ ExtractError}
    (h : Halfway l m (room_in work out records) t part work work1) (g : Seconds t part out t1 out1 p) where
  abbrev again : Setting
  again = setting second h.own l (rows_in l.table)

  repassed : (a : Result ℕ ExtractError) → p ≡ a → PassIs (standing again l.tree part) (placeless (marking again h.works h.state)) out t1 out1 a
  repassed a e =
      subst (PassIs (standing again l.tree part) (placeless (marking again h.works h.state)) out t1 out1) e
      (g.is h.state h.shows l.tree (stands (setting first h.own l (rows_in l.table)) l.tree part) h.works h.reads h.most h.mid.known)

  pub again-turned : {B : Extracted → Type 0} {u : List ℕ} {v : ExtractError} → p ≡ Err v → Ends B m l.tree u (Err v)
  again-turned {B} {u} {v} e = record { is = go v e }
    where
      go : (v : ExtractError) → p ≡ Err v → TurnedAs m l.tree v
      go BadLists q = absurd (repassed (Err BadLists) q)
      go NamedTwice q = absurd (repassed (Err NamedTwice) q)
      go (NoTree w) q = absurd (repassed (Err (NoTree w)) q)
      go (Refused w) q =
          let z = secondly-refused again (length out) (length records) h.works h.state (refusal_of w.why) w.place (repassed (Err (Refused w)) q) in
          record { is = λ _. h.rest ∙ z; why = tt }
      go NoRoom q =
          let z = repassed (Err NoRoom) q in
          let f = fits-not (module_with z.items) (length out) z.short in
          let k = secondly-fit again (length out) (length records) h.works h.state z.items z.state (refused 9 0) z.is f in
          record { is = λ _. h.rest ∙ k; why = tt }

  pub settled : (n : ℕ) → p ≡ Ok n → Settled m l.tree t1 part (take n out1) work out records work1 out1
  settled n e =
      let z = repassed (Ok n) e in
      let works = h.works in
      let outs = z.items in
      let last = take n out1 in
      let marked = placeless-done (marking again works h.state) (outs, z.state) z.is in
      let after = after-done (walk_again again works h.state) _ (outs, lost z.state) (again-by again works h.state (done (outs, z.state)) marked) h.mid.outs in
      let reads : read Module last ≡ fine (more (module_with outs) none) = ap (read Module) z.part ∙ items-readable outs (length out) after.0 z.room in
      record {
        works = works;
        outs = outs;
        state = z.state;
        rest =
            h.rest
            ∙ secondly-fit again (length out) (length records) works h.state outs z.state (done tt) z.is (fits-so (module_with outs) (length out) z.room);
        around = standing again l.tree part;
        placing = stands again l.tree part;
        shows = z.shows;
        both = ((items-read part works h.reads).1, (items-read last outs reads).1);
        told = told part last works outs z.state (items-read part works h.reads).0 (items-read last outs reads).0 after.1;
        work_held = h.buffer;
        out_held = z.buffer;
      }

-- ---- The records

module _ {m : Outcome Extracted} {tree t part last work out records work1 out1 records1 : List ℕ} {b : Bool} (h : Settled m tree t part last work out records work1 out1)
    (d : DeliversFor tree part last t records records1 b) where
  fits-told : (c : Bool) → b ≡ c → has_room (size (records_of (lost h.state))) (length records) ≡ c
  fits-told c e =
      ap (λ (f : Field). has_room (size f) (length records)) (sym h.told)
      ∙ room-size (records_in part last h.state) (d.is h.state h.shows h.placing h.both) ∙ e

  ending : (o : Outcome (Unit {0})) → fits (records_of (lost h.state)) (length records) ≡ o → m ≡ onto o (λ _. done (extracted_from h.works h.outs (lost h.state)))
  ending o q = h.rest ∙ ap (λ (z : Outcome (Unit {0})). onto z (λ _. done (extracted_from h.works h.outs (lost h.state)))) q

  pub ends-accepted : b ≡ true → Ends (Whole work out records work1 out1 records1) m tree t (Ok tt)
  ends-accepted e =
      let j = d.is h.state h.shows h.placing h.both in
      record {
        is =
            record {
              result = extracted_from h.works h.outs (lost h.state);
              is = ending (done tt) (fits-so (records_of (lost h.state)) (length records) (fits-told true e));
              modules = record { at = h.around; state = h.state; shows = h.shows; modules = refl };
              buffers =
                  record {
                    work = h.work_held;
                    out = h.out_held;
                    records = j.buffer ∙ ap (λ (q : Field). delivered (encode q) (length records)) h.told;
                  };
            };
      }

  pub ends-short : {B : Extracted → Type 0} {u : List ℕ} → b ≡ false → Ends B m tree u (Err NoRoom)
  ends-short e =
      record { is = record { is = λ _. ending (refused 9 0) (fits-not (records_of (lost h.state)) (length records) (fits-told false e)); why = tt } }

-- ---- The steps together

module _ (l : Lent) (ms : Modules) {t : List ℕ} {r : Result Unit ExtractError} (p : Prepares l ms t r) where
  prepared : (a : Result Unit ExtractError) → r ≡ a → PreparedIs l ms t a
  prepared a e = subst (PreparedIs l ms t) e p.is

  pub run-refused : (room : Lengths) {B : Extracted → Type 0} {u : List ℕ} {v : ExtractError} → r ≡ Err v → Ends B (extracted l room ms) l.tree u (Err v)
  run-refused room {v = v} e = let z = prepared (Err v) e in record { is = record { is = z.is room; why = z.why } }

  module _ (work out records : List ℕ) (e : r ≡ Ok tt) {t1 work1 : List ℕ} {a : Result ℕ ExtractError} (g : Firsts l.tree t work t1 work1 a) where
    abbrev called : Outcome Extracted
    called = extracted l (room_in work out records) ms

    pub run-turned : {B : Extracted → Type 0} {u : List ℕ} {v : ExtractError} → a ≡ Err v → Ends B called l.tree u (Err v)
    run-turned h = once-turned l ms work out records (prepared (Ok tt) e) g h

    module _ (n : ℕ) (h : a ≡ Ok n) {t2 out1 : List ℕ} {b : Result ℕ ExtractError} (s : Seconds t1 (take n work1) out t2 out1 b) where
      half : Halfway l called (room_in work out records) t1 (take n work1) work work1
      half = halfway l ms work out records (prepared (Ok tt) e) g n h

      pub run-turned-again : {B : Extracted → Type 0} {u : List ℕ} {v : ExtractError} → b ≡ Err v → Ends B called l.tree u (Err v)
      run-turned-again i = again-turned records half s i

      module _ (m : ℕ) (i : b ≡ Ok m) {records1 : List ℕ} where
        pub run-ended : (c : Bool) → DeliversFor l.tree (take n work1) (take m out1) t2 records records1 c →
            Ends (Whole work out records work1 out1 records1) called l.tree t2 (ok_or (then_some c tt) NoRoom)
        run-ended true d = ends-accepted (settled records half s m i) d refl
        run-ended false d = ends-short (settled records half s m i) d refl

-- ---- What is left

abbrev left_by : Outcome Extracted → Lengths → Modules → Left
left_by o room ms =
    record {
      refusal = refusal_in o;
      modules = modules_after o ms;
      report = no_counts;
      work = buffer_of (λ r. r.work) o room.work;
      out = buffer_of (λ r. r.out) o room.out;
      records = buffer_of (λ r. r.records) o room.records;
    }

left-is : (l : Lent) (room : Lengths) (ms : Modules) (o : Outcome Extracted) → extracted l room ms ≡ o → left_by o room ms ≡ extraction l room ms
unfolding extraction
left-is l room ms o e = ap (λ (z : Outcome Extracted). left_by z room ms) (sym e)

abbrev leaving : Option (ℕ × ℕ) → Modules → Report → List ℕ → List ℕ → List ℕ → Left
leaving r ms n w o k = record { refusal = r; modules = ms; report = n; work = w; out = o; records = k }

left-same : (r : Option (ℕ × ℕ)) {ms ns : Modules} {m n : Report} {w o k w' o' k' : List ℕ} → ms ≡ ns → m ≡ n → w ≡ w' → o ≡ o' → k ≡ k' →
    leaving r ms m w o k ≡ leaving r ns n w' o' k'
left-same r {ms} {ns} {m} {n} {w} {o} {k} {w'} {o'} {k'} a e b c d =
    ap (λ (z : Modules). leaving r z m w o k) a ∙ ap (λ (z : Report). leaving r ns z w o k) e ∙ ap (λ (z : List ℕ). leaving r ns n z o k) b
    ∙ ap (λ (z : List ℕ). leaving r ns n w' z k) c ∙ ap (λ (z : List ℕ). leaving r ns n w' o' z) d

-- an error is a refusal
turned-left : (v : ExtractError) (ms : Modules) (w o k : List ℕ) (r : Extracted) →
    leaving (answer_refusal (Err v)) ms no_counts (replicate (length w) 0) (replicate (length o) 0) (replicate (length k) 0) ≡ left_by (outcome_of (Err v) r) (room_in w o k) ms
turned-left BadLists ms w o k r = refl
turned-left NamedTwice ms w o k r = refl
turned-left (NoTree u) ms w o k r = refl
turned-left (Refused u) ms w o k r = refl
turned-left NoRoom ms w o k r = refl

zeroed-is : (l k : List ℕ) {m : List ℕ} → m ≡ zeroed l → length l ≡ length k → m ≡ replicate (length k) 0
unfolding zeroed
zeroed-is l k e h = e ∙ ap (λ (n : ℕ). replicate n 0) h

module _ (l : Lent) (scope : Scope) {t work out records work2 out2 records2 : List ℕ} {a : Result Unit ExtractError}
    (c : Ends (Whole work out records work2 out2 records2) (extracted l (room_in work out records) (modules_of scope)) l.tree t a) where
  ended : (b : Result Unit ExtractError) → a ≡ b → EndIs (Whole work out records work2 out2 records2) (extracted l (room_in work out records) (modules_of scope)) l.tree t b
  ended b e = subst (EndIs (Whole work out records work2 out2 records2) (extracted l (room_in work out records) (modules_of scope)) l.tree t) e c.is

  pub left-accepted : (r : Scope) {n : Report} → a ≡ Ok tt → Tells (λ s. s.modules) t (modules_of r) → n ≡ no_counts →
      (left (record { scope = r; report = n; answer = Ok tt }) work2 out2 records2 ≡ extraction l (room_in work out records) (modules_of scope)) × UnreadAs (Ok tt) (read Module l.tree)
  left-accepted r e g h =
      let z = ended (Ok tt) e in
      let b = z.buffers in (
        left-same None (g.is z.modules.state z.modules.shows ∙ z.modules.modules) h b.work b.out b.records
            ∙ left-is l (room_in work out records) (modules_of scope) (done z.result) z.is,
        tt,
      )

  pub left-refused : {work3 out3 records3 : List ℕ} {n : Report} {v : ExtractError} → a ≡ Err v → n ≡ no_counts → work3 ≡ zeroed work2 → out3 ≡ zeroed out2 →
      records3 ≡ zeroed records2 →
      length work2 ≡ length work → length out2 ≡ length out → length records2 ≡ length records →
      (left (record { scope = scope; report = n; answer = Err v }) work3 out3 records3 ≡ extraction l (room_in work out records) (modules_of scope)) × UnreadAs (Err v) (read Module l.tree)
  left-refused {v = v} e h p q r i j k =
      let z = ended (Err v) e in
      let none-given = extracted_from none none (start []) in (
        left-same (answer_refusal (Err v)) refl h (zeroed-is work2 work p i) (zeroed-is out2 out q j) (zeroed-is records2 records r k)
            ∙ turned-left v (modules_of scope) work out records none-given
            ∙ left-is l (room_in work out records) (modules_of scope) (outcome_of (Err v) none-given) (z.is none-given),
        z.why,
      )
