-- What a function on the array does to the state of the rules that the array shows: it tells something of it, changes it, or acts by a rule.
use Rattle.std.specs.Prelude.{Option, None, Some, Result, Ok, Err}
use Rattle.std.specs.Prelude.{ℕ, zero, suc, ◌+◌, ◌-◌, ◌*◌, ◌/◌, ◌%◌, ◌<◌, ◌≤◌, eqb, ◌≡◌, List, [], ◌∷◌, Bool, true, false, cond, length, get_or, drop}
use Rattle.tables.specs.Rows.{Row, rows, first_in}
use Rattle.inputs.specs.Lists.{mapped, among}
use Rattle.inputs.specs.Fields.{has}
use Rattle.inputs.specs.Outcome.{Outcome, done, refused}
use Rattle.inputs.specs.Table.{Row as LentRow}
use Rattle.tree.specs.Layout.{two, four, value_of}
use Rattle.tree.specs.Tree.{Field, Fields, none, more, fixed_of}
use Rattle.metadata.specs.Metadata.{append}
use Rattle.scope.specs.Id.{local}
use Rattle.scope.specs.declared.Mark.{Mark}
use Rattle.scope.specs.declared.Mark.TheVariants.{Loaded, Stored, Cjs, Wrapping}
use Rattle.modes.specs.declared.Modes.{Modes}
use Rattle.scope.specs.declared.id.Atom.{Atom}
use Rattle.scope.specs.declared.id.Id.{Id}
use Rattle.scope.specs.declared.id.ModuleId.{ModuleId}
use Rattle.scope.specs.declared.id.SyntaxContext.{SyntaxContext}
use Rattle.scope.specs.declared.TooManyFiles.{TooManyFiles}
use Rattle.extraction_rules.specs.State.{Record, Usage, State, Pass, first, second, Setting, Act, set_collected}
use Rattle.extraction_rules.specs.First.{collect, force_source}
use Rattle.extraction_rules.specs.Second.{usages_of}
use Rattle.state.specs.Cells.{Kind, import_hint, namespace_hint, use_hint, tag_of, hint_in, named_in, source_in, row_hint, module_hint, top_cell}
use Rattle.state.specs.Cells.{Env, records, table_of, held, pass_cell, own_cell, require_cell, id_by, literal_by, Valued, namespaces_in, sources_in, Shows}
use Rattle.state.specs.declared.Literal.{Literal}
use Rattle.state.specs.declared.TableFull.{TableFull}

-- ---- Tables and hints

abbrev pub one? : Kind → Kind → Bool
one? k m = eqb (table_of k).count (table_of m).count

-- the cells beside the tables and the hints are kept
pub record CellsKept (t t' : List ℕ) : Type 0 where
  pub top_kept : get_or t' top_cell 0 ≡ get_or t top_cell 0
  pub pass_kept : get_or t' pass_cell 0 ≡ get_or t pass_cell 0
  pub own_kept : get_or t' own_cell 0 ≡ get_or t own_cell 0
  pub require_kept : get_or t' require_cell 0 ≡ get_or t require_cell 0

-- all but one table is kept
pub record Others (k : Kind) (t t' : List ℕ) : Type 0 where
  pub rows_kept : (m : Kind) → one? k m ≡ false → rows (table_of m) t' ≡ rows (table_of m) t
  pub cells_kept : CellsKept t t'

-- one table has other rows
pub record Changes (k : Kind) (l : List Row) (t t' : List ℕ) : Type 0 where
  pub now_rows : rows (table_of k) t' ≡ l
  pub others : Others k t t'

-- hints alone changed
pub record Aside (t t' : List ℕ) : Type 0 where
  pub same_rows : (k : Kind) → rows (table_of k) t' ≡ rows (table_of k) t
  pub same_cells : CellsKept t t'

-- only cells of hints behind the setting changed, and they leave out nothing that the old ones name
pub record Behind (t t' : List ℕ) : Type 0 where
  pub same : (i : ℕ) → i < 21074 → get_or t' i 0 ≡ get_or t i 0
  pub grown : (h : ℕ) → h < 1280 → row_hint t h ≤ row_hint t' h

-- the files of n modules, which stand in the cells of modules, have hints
pub record HintsModules (n : ℕ) (t t' : List ℕ) : Type 0 where
  pub aside : Aside t t'
  pub behind : Behind t t'
  pub hinted : (i : ℕ) → i < n → 256 ≤ i + module_hint t' (get_or t (15482 + 2 * i) 0 % 256)

-- a hint that leaves out no table that another names
pub record Keeps (v w : ℕ) : Type 0 where
  pub import_kept : 0 < import_hint v → 0 < import_hint w
  pub namespace_kept : 0 < namespace_hint v → 0 < namespace_hint w
  pub use_kept : 0 < use_hint v → 0 < use_hint w

-- a cell that leaves out nothing that another names
pub record Grows (v w : ℕ) : Type 0 where
  pub hints_kept : (n : ℕ) → Keeps (hint_in v n) (hint_in w n)
  pub named_kept : named_in v ≤ named_in w
  pub source_kept : source_in v ≤ source_in w

-- the tag of a cell once an id has entered
abbrev pub tag_for : ℕ → ℕ → ℕ
tag_for v n = cond (eqb (v % 8388608) 0) (tag_of n) (cond (eqb (v / 2199023255552) (tag_of n)) (tag_of n) 0)

-- a row that is found has a key; where none is found, none has it
pub record Finds (id : ℕ) (l : List Row) (r : Option ℕ) : Type 0 where
  pub found : (i : ℕ) → r ≡ Some i → (i < length l) × ((get_or l i (0, 0)).0 ≡ id)
  pub missed : r ≡ None → first_in id id l ≡ None

-- how many rows there are, where one more has room
pub record HasRoom (room rows : ℕ) (r : Result ℕ TableFull) : Type 0 where
  pub more : (n : ℕ) → r ≡ Ok n → (n ≡ rows) × (rows < room)
  pub full : (e : TableFull) → r ≡ Err e → room ≤ rows

-- no record before a place has a first namespace with the name of an id
pub record Starts (from id : ℕ) (t : List ℕ) : Type 0 where
  pub none_named : (i n : ℕ) → i < from → i < held records t → (get_or (rows (table_of records) t) i (0, 0)).1 ≡ suc n → n / 4294967296 ≡ id / 4294967296 → ⊥

-- ---- The state that is shown

-- the answer is f of every state that the array shows
pub record Tells {A : Type 0} (f : State → A) (t : List ℕ) (a : A) : Type 0 where
  pub is : {x : Env} (s : State) → Shows x t s → a ≡ f s

-- the answer is f of what the pass is set to
pub record Says {A : Type 0} (f : Setting → A) (t : List ℕ) (a : A) : Type 0 where
  pub is : {x : Env} (s : State) → Shows x t s → a ≡ f x.setting

-- the list f of every state that the array shows has an entry at i, and g of it is b
pub record Holds {A B : Type 0} (f : State → List A) (g : A → B) (i : ℕ) (t : List ℕ) (b : Env → B) : Type 0 where
  pub is : {x : Env} (s : State) → Shows x t s → (a : A) × (g a ≡ b x) × (drop i (f s) ≡ a ∷ drop (i + 1) (f s))

-- each state that the array shows is changed by f
pub record Turns (f : State → State) (t t' : List ℕ) : Type 0 where
  pub shows : {x : Env} (s : State) → Shows x t s → Shows x t' (f s)

-- what is set or stands at places is changed by f, and every state that the array shows stays
pub record Resets (f : Env → Env) (t t' : List ℕ) : Type 0 where
  pub shows : {x : Env} (s : State) → Shows x t s → Shows (f x) t' s

-- a step was done, and the array shows its state
pub record Did (x : Env) (o : Outcome (Unit {0} × State)) (t : List ℕ) : Type 0 where
  pub state : State
  pub is : o ≡ done (tt, state)
  pub shows : Shows x t state

-- where P holds, a rule with its place is followed, or refused with 8
pub record Acts (P : Env → Type 0) (act : Env → ℕ → Act (Unit {0})) (t t' : List ℕ) (r : Result Unit TableFull) : Type 0 where
  pub made : r ≡ Ok tt → {x : Env} (s : State) (p : ℕ) → Shows x t s → P x → Did x (act x p s) t'
  pub full : (e : TableFull) → r ≡ Err e → {x : Env} (s : State) (p : ℕ) → Shows x t s → P x → act x p s ≡ refused 8 p

-- it asks nothing of what stands at places
abbrev pub Anyhow : Env → Type 0
Anyhow x = Unit {0}

-- ---- What a pass is set to

abbrev pub is_second : Pass → Bool
is_second first = false
is_second second = true

-- the place by which is known what stands at `at` of the tree that a pass walks: in the lent tree, or, from 2^16 on, in *work*
abbrev pub place_in : Pass → ℕ → ℕ
place_in first at = at % 65536
place_in second at = 65536 + at % 65536

abbrev pub with_setting : (Setting → Setting) → Env → Env
with_setting f x = record { setting = f x.setting; literal = x.literal; bound = x.bound }

abbrev pub with_second : Env → Env
with_second = with_setting (λ e. record { pass = second; own = e.own; config = e.config; externals = e.externals; table = e.table })

abbrev pub with_own : ℕ → Env → Env
with_own n = with_setting (λ e. record { pass = e.pass; own = n; config = e.config; externals = e.externals; table = e.table })

abbrev pub with_modes : Modes → Env → Env
with_modes m = with_setting (λ e. record { pass = e.pass; own = e.own; config = m; externals = e.externals; table = e.table })

abbrev pub with_externals : List (List ℕ) → Env → Env
with_externals l = with_setting (λ e. record { pass = e.pass; own = e.own; config = e.config; externals = l; table = e.table })

abbrev pub with_table : List LentRow → Env → Env
with_table l = with_setting (λ e. record { pass = e.pass; own = e.own; config = e.config; externals = e.externals; table = l })

-- ---- Usages

abbrev pub listed : List ℕ → Option Id → List Usage → List Usage
listed x (Some q) l = record { id = x; property = id_by q } ∷ l
listed x None l = l

-- the usages of an id from a place on, by what stands at that place
pub record Lists (x : List ℕ) (i : ℕ) (t : List ℕ) (r : Option Id) : Type 0 where
  pub is : {y : Env} (s : State) → Shows y t s → usages_of x (drop i s.usages) ≡ listed x r (usages_of x (drop (i + 1) s.usages))

-- ---- Records

-- the record at a place gets specifiers
unfoldable pub extend_at : ℕ → Fields → List Record → List Record
extend_at i fs [] = []
extend_at zero fs (r ∷ l) = record { literal = r.literal; specifiers = append r.specifiers fs } ∷ l
extend_at (suc i) fs (r ∷ l) = r ∷ extend_at i fs l

-- the record of a literal stands at a place, before its specifiers come: collecting gives it these
pub record Gathered (y : Env) (x : List ℕ) (i : ℕ) (s : State) (t : List ℕ) : Type 0 where
  pub list : List Record
  pub shows : Shows y t (set_collected list s)
  pub is : (fs : Fields) (p : ℕ) → collect (record { literal = x; specifiers = fs }) p s ≡ done (tt, set_collected (extend_at i fs list) s)

pub record Collects (l : Literal) (t t' : List ℕ) (r : Result ℕ TableFull) : Type 0 where
  pub below : (i : ℕ) → r ≡ Ok i → i < held records t'
  pub made : (i : ℕ) → r ≡ Ok i → {y : Env} (s : State) → Shows y t s → Valued y l → Gathered y (literal_by y l) i s t'
  pub full : (e : TableFull) → r ≡ Err e → {y : Env} (s : State) → Shows y t s → Valued y l → (fs : Fields) (p : ℕ) →
      collect (record { literal = literal_by y l; specifiers = fs }) p s ≡ refused 8 p

-- the record at a place gets a 22 more
pub record Extends (i : ℕ) (x : List ℕ) (t t' : List ℕ) : Type 0 where
  pub kept : held records t' ≡ held records t
  pub shows : {y : Env} (s : State) (f : Field) → has 0x22 f ≡ true → fixed_of f ≡ x → namespaces_in s.collected < 3641 → Shows y t s →
      Shows y t' (set_collected (extend_at i (more f none) s.collected) s)

-- one more than the ids by which the record of a usage is found: all of a name, or one alone
abbrev pub range : Bool → ℕ → ℕ × ℕ
range true id = (id - id % 4294967296 + 1, id - id % 4294967296 + 4294967296)
range false id = (id + 1, id + 1)

-- all of its name for an id in the own local context
abbrev pub range_of : ℕ → ℕ → ℕ × ℕ
range_of own id = range (eqb (id % 4294967296) (local own)) id

-- the source of a record, and of the one at a place in the array
abbrev pub source_of : Option Record → Option (List ℕ)
source_of o = mapped (λ r. value_of r.literal) o

unfoldable pub source_at : List ℕ → ℕ → List ℕ
source_at t i = two ((get_or (rows (table_of records) t) i (0, 0)).0 / 4294967296)

-- ---- Forced sources

-- where a source is that of a collected record, it is forced
pub record Forces (a : List ℕ) (t t' : List ℕ) : Type 0 where
  pub shows : {x : Env} (s : State) → among a (sources_in s.collected) ≡ true → Shows x t s → Shows x t' (force_source a s)

-- ---- Modules

-- a step gave a value, and the array shows its state
pub record Gave {A : Type 0} (x : Env) (o : Outcome (A × State)) (a : A) (t : List ℕ) : Type 0 where
  pub state : State
  pub is : o ≡ done (a, state)
  pub shows : Shows x t state

-- a source is resolved by a rule with its place, or refused with 5
pub record Resolves (act : Setting → ℕ → Act (Option ℕ)) (t t' : List ℕ) (r : Result (Option ModuleId) TooManyFiles) : Type 0 where
  pub resolved : (m : Option ModuleId) → r ≡ Ok m → {x : Env} (s : State) (p : ℕ) → Shows x t s → Gave x (act x.setting p s) (mapped (λ n. n.0) m) t'
  pub full : (e : TooManyFiles) → r ≡ Err e → {x : Env} (s : State) (p : ℕ) → Shows x t s → act x.setting p s ≡ refused 5 p

-- a module's marks are a number of four bits
abbrev pub bit_of : Mark → ℕ
bit_of Loaded = 1
bit_of Stored = 2
bit_of Cjs = 4
bit_of Wrapping = 8

-- ---- What answers stand for

abbrev pub context_by : Option SyntaxContext → Option (List ℕ)
context_by c = mapped (λ x. four x.0) c

abbrev pub source_by : Option Atom → Option (List ℕ)
source_by a = mapped (λ x. two x.0) a

abbrev pub any : {A : Type 0} → List A → Bool
any [] = false
any (a ∷ l) = true
