-- The whole call: from the lent slices and the scope to the answer, the scope and the list's buffer to the last byte.
-- Document 01, 'Where a call turns back': "resolving tests 1, 2, 10, 5, then 11 or 6, then 9".
use Rattle.std.specs.Prelude.{ℕ, List, [], Option}
use Rattle.modes.specs.declared.Modes.{Modes}
use Rattle.report.specs.declared.Report.{Report}
use Rattle.report.specs.Counts.{no_counts}
use Rattle.scope.specs.Modules.{Modules}
use Rattle.tree.specs.declared.grammar.Set.TheVariants.{Records}
use Rattle.tree.specs.Tree.{Field, field, Fields, none, more, parts_of}
use Rattle.tree.specs.Read.{Reading, fine, refused as unread, read}
use Rattle.inputs.specs.Outcome.{Outcome, done, refused, ◌>>=◌, ◌>>◌, refuse_if, refusal_in}
use Rattle.inputs.specs.Table.{Row, bad_table, table_of}
use Rattle.inputs.specs.Buffer.{fits, buffer_of}
use Rattle.resolving_rules.specs.Resolve.{sources_in, forced_in, number_all, resolved_all}

-- what is lent, but for the buffer; no rule of resolving asks the modes yet (`modes-unasked`)
pub record Lent : Type 0 where
  pub modes : Modes
  pub table : List ℕ
  pub records : List ℕ

-- 10: 'records off the grammar', or the fields in them
abbrev pub records_read : Reading Fields → Outcome Fields
records_read (fine none) = done none
records_read (fine (more f fs)) = done (parts_of f)
records_read (unread w p) = refused 10 p

-- once every source that resolves has its number: the table, the records, the modules of the scope
pub record Numbered : Type 0 where
  pub rows : List Row
  pub records : Fields
  pub modules : Modules

-- '1, 2, 10, 5': the records stand behind the tag and the length of the 02
unfoldable pub numbered : Lent → Modules → Outcome Numbered
numbered l ms = do
  refuse_if (bad_table l.table) 1
  rows ← table_of l.table
  cs ← records_read (read Records l.records)
  new ← number_all rows (sources_in cs) ms 3
  done (record { rows = rows; records = cs; modules = new })

-- what an accepted call gives: the modules of the scope, and the resolved list
pub record Resolved : Type 0 where
  pub modules : Modules
  pub list : Field

-- 'then 11 or 6, then 9'
unfoldable pub listed : Numbered → ℕ → Outcome Resolved
listed q room = do
  gs ← resolved_all q.rows (forced_in q.records) q.modules (sources_in q.records) 3
  fits (field 0x03 [] gs) room
  done (record { modules = q.modules; list = field 0x03 [] gs })

unfoldable pub resolved : Lent → ℕ → Modules → Outcome Resolved
resolved l room ms = do
  q ← numbered l ms
  listed q room

-- 'Refused: .. scope as at entry, except that 11, 6 and 9 in resolving keep new numbers'
abbrev pub modules_after : Outcome Numbered → Modules → Modules
modules_after (done q) ms = q.modules
modules_after (refused n p) ms = ms

-- what a call leaves: the refusal's number and place, none if it is accepted; the scope's modules, the counts, the buffer
pub record Left : Type 0 where
  pub refusal : Option (ℕ × ℕ)
  pub modules : Modules
  pub report : Report
  pub list : List ℕ

unfoldable pub resolving : Lent → ℕ → Modules → Left
resolving l room ms =
    let o = resolved l room ms in
    record {
      refusal = refusal_in o;
      modules = modules_after (numbered l ms) ms;
      report = no_counts;
      list = buffer_of (λ r. r.list) o room;
    }
