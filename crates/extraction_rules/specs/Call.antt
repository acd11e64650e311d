-- The whole call: from the lent slices and the scope to the answer, the scope and every buffer to the last byte.
-- Document 01, 'Where a call turns back'.
use Rattle.std.specs.Prelude.{Option, None, Some}
use Rattle.std.specs.Prelude.{ℕ, Bool, ◌||◌, List, [], ltb, length}
use Rattle.modes.specs.declared.Modes.{Modes}
use Rattle.report.specs.declared.Report.{Report}
use Rattle.report.specs.Counts.{no_counts}
use Rattle.scope.specs.Modules.{Modules, request}
use Rattle.tree.specs.declared.grammar.Set.TheVariants.{Module}
use Rattle.tree.specs.Tree.{Field, field, Fields, none, more, parts_of, size}
use Rattle.tree.specs.Read.{Reading, fine, refused as unread, read, refusal_of}
use Rattle.inputs.specs.Outcome.{Outcome, done, refused, ◌>>=◌, ◌>>◌, refuse_if, placeless, refusal_in}
use Rattle.inputs.specs.Table.{Row, atoms_in, bad_externals, bad_table, table_of}
use Rattle.inputs.specs.Buffer.{fits, buffer_of}
use Rattle.extraction_rules.specs.State.{State, Pass, first, second, Setting, start}
use Rattle.extraction_rules.specs.Walk.{walk_module, walk_again}
use Rattle.extraction_rules.specs.Records.{records_of}

-- what is lent, but for the buffers
pub record Lent : Type 0 where
  pub file : ℕ
  pub modes : Modes
  pub externals : List ℕ
  pub table : List ℕ
  pub tree : List ℕ

-- three lengths: of the lent buffers, or of what they are to hold
pub record Lengths : Type 0 where
  pub work : ℕ
  pub out : ℕ
  pub records : ℕ

-- what an accepted call gives: the modules of the scope, the forced sources, and the three trees
pub record Extracted : Type 0 where
  pub modules : Modules
  pub forced : List (List ℕ)
  pub work : Field
  pub out : Field
  pub records : Field

-- 1: 'tree over 32,768', and the lists
unfoldable pub bad_lists : Lent → Bool
bad_lists l = ltb 32768 (length l.tree) || bad_externals l.externals || bad_table l.table

-- 3 or 4, or the module's items
abbrev pub items_read : Reading Fields → Outcome Fields
items_read (fine none) = done none
items_read (fine (more f fs)) = done (parts_of f)
items_read (unread w p) = refused (refusal_of w) p

-- 'Own file's number first.' 5: place 0
abbrev pub own_module : Option (ℕ × Modules) → Outcome (ℕ × Modules)
own_module None = refused 5 0
own_module (Some r) = done r

abbrev pub setting : Pass → ℕ → Lent → List Row → Setting
setting p own l rows = record { pass = p; own = own; config = l.modes; externals = atoms_in l.externals; table = rows }

-- a module of these items
abbrev pub module_with : Fields → Field
module_with items = field 0x01 [] items

-- '*work* holds the tree after pass one, *out* after pass two'
abbrev pub extracted_from : Fields → Fields → State → Extracted
extracted_from works outs s = record { modules = s.modules; forced = s.forced; work = module_with works; out = module_with outs; records = records_of s }

-- '9 on *work* precedes pass two', then 9 on *out* and on the records
unfoldable pub passes : Lent → Lengths → List Row → Fields → ℕ × Modules → Outcome Extracted
passes l room rows items own = do
  one ← walk_module (setting first own.0 l rows) items (start own.1)
  fits (module_with one.0) room.work
  two ← placeless (walk_again (setting second own.0 l rows) one.0 one.1)
  fits (module_with two.0) room.out
  fits (records_of two.1) room.records
  done (extracted_from one.0 two.0 two.1)

-- 'Order is the table's': 1, 2, 3 or 4, the own file's 5, the passes
unfoldable pub extracted : Lent → Lengths → Modules → Outcome Extracted
extracted l room ms = do
  refuse_if (bad_lists l) 1
  rows ← table_of l.table
  items ← items_read (read Module l.tree)
  own ← own_module (request l.file ms)
  passes l room rows items own

-- how long each buffer's content is
abbrev pub lengths_of : Extracted → Lengths
lengths_of r = record { work = size r.work; out = size r.out; records = size r.records }

-- what a call leaves: the refusal's number and place, none if it is accepted; the scope's modules, the counts, the buffers
pub record Left : Type 0 where
  pub refusal : Option (ℕ × ℕ)
  pub modules : Modules
  pub report : Report
  pub work : List ℕ
  pub out : List ℕ
  pub records : List ℕ

-- 'Refused: .. scope as at entry'
abbrev pub modules_after : Outcome Extracted → Modules → Modules
modules_after (done r) ms = r.modules
modules_after (refused n p) ms = ms

unfoldable pub extraction : Lent → Lengths → Modules → Left
extraction l room ms =
    let o = extracted l room ms in
    record {
      refusal = refusal_in o;
      modules = modules_after o ms;
      report = no_counts;
      work = buffer_of (λ r. r.work) o room.work;
      out = buffer_of (λ r. r.out) o room.out;
      records = buffer_of (λ r. r.records) o room.records;
    }
