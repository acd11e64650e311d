-- What the walk keeps, in one lent array of numbers: where each table lies, and which state of the rules the array shows.
-- Document 01, 'Vec, maps, atomics, panics': "hash maps become arrays in insertion order".
use Rattle.std.specs.Prelude.{Option, None, Some}
use Rattle.std.specs.Prelude.{ℕ, zero, suc, ◌+◌, ◌*◌, ◌/◌, ◌%◌, ◌<◌, ◌≤◌, ◌≡◌, Bool, true, false, cond, ◌||◌}
use Rattle.std.specs.Prelude.{List, [], ◌∷◌, ◌++◌, map, eqb, length, get_or}
use Rattle.tables.specs.Rows.{Row, rows, Lies, next, first_in, least_of}
use Rattle.tables.specs.declared.Table.{Table}
use Rattle.scope.specs.Modules.{Module}
use Rattle.scope.specs.ScopeValue.{module_by}
use Rattle.tree.specs.Layout.{two, four, value_of}
use Rattle.tree.specs.Tree.{Fields, none, more, fixed_of}
use Rattle.inputs.specs.Lists.{mapped, among}
use Rattle.inputs.specs.Fields.{has, find_field}
use Rattle.inputs.specs.Table.{Row as LentRow}
use Rattle.scope.specs.declared.id.Id.{Id}
use Rattle.extraction_rules.specs.State.{Record, Imported, Usage, State, Pass, first, second, Setting}
use Rattle.extraction_rules.specs.First.{holds_namespace}
use Rattle.state.specs.declared.Literal.{Literal}

-- ---- The layout

pub data Kind : Type 0 where
  imports uses records namespaces lazies forces modules externals table : Kind

-- the counts stand in cells 0 to 6, *top* in cell 7, and then the rows; the rooms are document 01's limits (rows 1, 5 and 8), and 'at most
-- one namespace for 9 bytes of tree'
abbrev pub table_of : Kind → Table
table_of imports = record { count = 0; base = 8; room = 512 }
table_of uses = record { count = 1; base = 1032; room = 2048 }
table_of records = record { count = 2; base = 5128; room = 256 }
table_of namespaces = record { count = 3; base = 5640; room = 3641 }
table_of lazies = record { count = 4; base = 12922; room = 1024 }
table_of forces = record { count = 5; base = 14970; room = 256 }
table_of modules = record { count = 6; base = 15482; room = 256 }
table_of externals = record { count = 17997; base = 17998; room = 512 }
table_of table = record { count = 19022; base = 19023; room = 1024 }

abbrev pub top_cell : ℕ
top_cell = 7

-- behind these tables stand 2,003 cells of hints; then what a call is lent and set to: two tables, the pass, the own module, the modes; then
-- 1,280 cells of hints for the lent table and the modules
abbrev pub pass_cell : ℕ
pass_cell = 21071

abbrev pub own_cell : ℕ
own_cell = 21072

abbrev pub require_cell : ℕ
require_cell = 21073

abbrev pub cells : ℕ
cells = 22354

-- an id, a literal or a property in one number: 2^48
abbrev pub id_limit : ℕ
id_limit = 281474976710656

-- a place in the tree, or 2^16 and a place in *work*
abbrev pub place_limit : ℕ
place_limit = 131072

unfoldable pub Below : ℕ → ℕ → List Row → Type 0
Below k v [] = Unit
Below k v (r ∷ l) = (r.0 < k) × (r.1 < v) × Below k v l

-- keys and values of the tables; a place has four bytes, a file two, marks are four bits
abbrev pub InLimits : Kind → List Row → Type 0
InLimits imports l = Below id_limit 4294967296 l
InLimits uses l = Below id_limit id_limit l
InLimits records l = Below id_limit 281474976710657 l
InLimits namespaces l = Below id_limit 256 l
InLimits lazies l = Below id_limit place_limit l
InLimits forces l = Below 65536 1 l
InLimits modules l = Below 65536 16 l
InLimits externals l = Below 65536 1 l
InLimits table l = Below 65536 65536 l

-- ---- Hints: what is asked before a table is searched

abbrev pub cell_at : List ℕ → ℕ → ℕ
cell_at t h = get_or t (15994 + h) 0

-- ids of one remainder share a cell. Below 2^23 it has their hint: one more than the row of an imported one, or 0; 1,024 where a namespace may
-- be one; 2,048 times one more than the row of a usage of one, or 0
abbrev pub import_hint : ℕ → ℕ
import_hint v = v % 1024

abbrev pub namespace_hint : ℕ → ℕ
namespace_hint v = v / 1024 % 2

abbrev pub use_hint : ℕ → ℕ
use_hint v = v / 2048

-- from 2^41 on it has a tag: of the id whose hint it is, its name and its context's remainder; 0 where it is the hint of several
abbrev pub tag_of : ℕ → ℕ
tag_of n = n / 4294967296 * 32 + n % 32 + 1

abbrev pub tagged : ℕ → ℕ → Bool
tagged v n = eqb (v / 2199023255552) 0 || eqb (v / 2199023255552) (tag_of n)

unfoldable pub hint_in : ℕ → ℕ → ℕ
hint_in v n = cond (tagged v n) (v % 8388608) 0

abbrev pub hint_at : List ℕ → ℕ → ℕ
hint_at t n = hint_in (cell_at t (n % 2003)) n

-- names of one remainder share a cell. Between, it has two numbers of nine bits: 256 less a record before which no first namespace has such a
-- name, or 0; and 256 less a record before which no literal has it, or 0
abbrev pub named_in : ℕ → ℕ
named_in v = v / 8388608 % 512

abbrev pub source_in : ℕ → ℕ
source_in v = v / 4294967296 % 512

abbrev pub name_cell : ℕ → ℕ
name_cell n = n / 4294967296 % 1024

-- sources of one remainder share a cell behind the setting: 1,024 less a row of the lent table before which none of them stands, or 0
abbrev pub row_hint : List ℕ → ℕ → ℕ
row_hint t h = get_or t (21074 + h) 0

-- files of one remainder share a cell behind those: 256 less a module before which none of them stands, or 0
abbrev pub module_hint : List ℕ → ℕ → ℕ
module_hint t h = row_hint t (1024 + h)

-- the hint of each key is not 0
unfoldable pub Covered : (ℕ → ℕ) → List ℕ → List Row → Type 0
Covered p t [] = Unit
Covered p t (r ∷ l) = (0 < p (hint_at t r.0)) × Covered p t l

-- each key stands once
unfoldable pub Distinct : List Row → Type 0
Distinct [] = Unit
Distinct (r ∷ l) = (first_in r.0 r.0 l ≡ None) × Distinct l

-- no record, from place i on, stands before the hints of its first namespace's name and of its literal's
unfoldable pub Named : ℕ → List ℕ → List Row → Type 0
Named i t [] = Unit
Named i t (r ∷ l) =
    ((n : ℕ) → r.1 ≡ suc n → 256 ≤ i + named_in (cell_at t (name_cell n))) × (256 ≤ i + source_in (cell_at t (name_cell r.0))) × Named (suc i) t l

-- no row, from place i on, stands before the hint of its key: n less that row
unfoldable pub Reached : ℕ → (ℕ → ℕ) → ℕ → List Row → Type 0
Reached n p i [] = Unit
Reached n p i (r ∷ l) = (n ≤ i + p r.0) × Reached n p (suc i) l

-- what hints say of the rows of a table: they leave out no row; and a hint that names a row of an imported id is right where its key is
abbrev pub Hinted : Kind → List ℕ → List Row → Type 0
Hinted imports t l = Covered import_hint t l × Distinct l
Hinted uses t l = Covered use_hint t l
Hinted records t l = Named 0 t l
Hinted namespaces t l = Covered namespace_hint t l
Hinted lazies t l = Unit
Hinted forces t l = Unit
Hinted modules t l = Reached 256 (λ f. module_hint t (f % 256)) 0 l
Hinted externals t l = Unit
Hinted table t l = Reached 1024 (λ a. row_hint t (a % 1024)) 0 l

-- the tables lie in the array, with numbers inside their limits, and the hints hold; the own module is a number of two bytes
pub record Good (t : List ℕ) : Type 0 where
  pub size : cells ≤ length t
  pub lies : (k : Kind) → Lies (table_of k) t
  pub below : (k : Kind) → InLimits k (rows (table_of k) t)
  pub hinted : (k : Kind) → Hinted k t (rows (table_of k) t)
  pub own_below : get_or t own_cell 0 < 65536

-- how many rows a table holds
abbrev pub held : Kind → List ℕ → ℕ
held k t = length (rows (table_of k) t)

-- ---- What stays as it is while a pass runs

-- what it is set to, the literal that stands at a place of its trees, and what the pattern there binds
pub record Env : Type 0 where
  pub setting : Setting
  pub literal : ℕ → List ℕ
  pub bound : ℕ → Fields

-- a literal is kept as its value and the place of its bytes
abbrev pub literal_by : Env → Literal → List ℕ
literal_by x l = x.literal l.place

-- and the value is that of the bytes there
abbrev pub Valued : Env → Literal → Type 0
Valued x l = value_of (x.literal l.place) ≡ two l.value.0

-- ---- The state that an array shows

abbrev pub flag : Bool → ℕ
flag false = 0
flag true = 1

abbrev pub pass_flag : Pass → ℕ
pass_flag first = 0
pass_flag second = 1

-- an id or a property: 'I is A then C'
abbrev pub id_by : Id → List ℕ
id_by i = two i.0.0 ++ four i.1.0

-- and from a number below 2^48
unfoldable pub id_of : ℕ → List ℕ
id_of n = two (n / 4294967296) ++ four (n % 4294967296)

-- (id, context)
abbrev pub imported_of : Row → Imported
imported_of r = record { id = id_of r.0; context = four r.1 }

-- (id, property)
abbrev pub usage_of : Row → Usage
usage_of r = record { id = id_of r.0; property = id_of r.1 }

-- what the searches see of a record: its literal with its value, and the id of its first namespace
pub record Brief : Type 0 where
  pub value : List ℕ
  pub literal : List ℕ
  pub namespace : Option (List ℕ)

unfoldable pub brief : Record → Brief
brief r = record { value = value_of r.literal; literal = r.literal; namespace = mapped fixed_of (find_field (has 0x22) r.specifiers) }

-- (value times 2^32 plus the place, 0 or one more than the first namespace)
abbrev pub namespace_of : ℕ → Option (List ℕ)
namespace_of zero = None
namespace_of (suc n) = Some (id_of n)

unfoldable pub brief_of : Env → Row → Brief
brief_of x r = record { value = two (r.0 / 4294967296); literal = x.literal (r.0 % 4294967296); namespace = namespace_of r.1 }

-- where the first stands that meets a test
unfoldable pub index_of : {A : Type 0} → (A → Bool) → List A → Option ℕ
index_of p [] = None
index_of p (a ∷ l) = cond (p a) (Some zero) (next (index_of p l))

-- how many namespaces the records hold
unfoldable pub count_namespaces : Fields → ℕ
count_namespaces none = 0
count_namespaces (more f fs) = flag (has 0x22 f) + count_namespaces fs

unfoldable pub namespaces_in : List Record → ℕ
namespaces_in [] = 0
namespaces_in (r ∷ l) = count_namespaces r.specifiers + namespaces_in l

-- (value times 2^32 plus the place, place of the pattern)
abbrev pub lazy_of : Env → Row → Record
lazy_of x r = record { literal = x.literal (r.0 % 4294967296); specifiers = x.bound r.1 }

-- (atom, 0)
abbrev pub atom_of : Row → List ℕ
atom_of r = two r.0

-- (file, marks)
abbrev pub module_of : Row → Module
module_of r = module_by r.0 r.1

-- (source, file)
abbrev pub lent_of : Row → LentRow
lent_of r = record { source = two r.0; file = r.1 }

-- ---- Forced sources

abbrev pub sources_in : List Record → List (List ℕ)
sources_in l = map (λ r. value_of r.literal) l

-- each stands once
unfoldable pub Once : List (List ℕ) → Type 0
Once [] = Unit
Once (a ∷ l) = (among a l ≡ false) × Once l

-- forced sources are sources of collected records, each once: so their table has room for all
pub record Sourced (s : State) : Type 0 where
  pub once : Once s.forced
  pub from : (a : List ℕ) → among a s.forced ≡ true → among a (sources_in s.collected) ≡ true

-- what a pass is set to
pub record Sets (e : Setting) (t : List ℕ) : Type 0 where
  pub externals : map atom_of (rows (table_of externals) t) ≡ e.externals
  pub table : map lent_of (rows (table_of table) t) ≡ e.table
  pub pass : get_or t pass_cell 0 ≡ pass_flag e.pass
  pub own : get_or t own_cell 0 ≡ e.own
  pub require : get_or t require_cell 0 ≡ flag e.config.require

-- of a collected record the array shows its literal, its first namespace, and, with the namespaces met, which record is the first to hold
-- one; of a lazy one, by what stands at its places, its literal and its specifiers
pub record Shows (x : Env) (t : List ℕ) (s : State) : Type 0 where
  pub imported : map imported_of (rows (table_of imports) t) ≡ s.imported
  pub usages : map usage_of (rows (table_of uses) t) ≡ s.usages
  pub collected : map (brief_of x) (rows (table_of records) t) ≡ map brief s.collected
  pub holders : (n : ℕ) → n < id_limit → least_of n (rows (table_of namespaces) t) ≡ index_of (holds_namespace (id_of n)) s.collected
  pub met : held namespaces t ≡ namespaces_in s.collected
  pub lazy : map (lazy_of x) (rows (table_of lazies) t) ≡ s.lazy
  pub forced : map atom_of (rows (table_of forces) t) ≡ s.forced
  pub top : get_or t top_cell 0 ≡ flag s.top
  pub modules : map module_of (rows (table_of modules) t) ≡ s.modules
  pub sourced : Sourced s
  pub sets : Sets x.setting t
