-- What the steps of the call answer and leave, as the code has them. Only inner contracts cite this.
use Rattle.std.specs.Prelude.{ℕ, ◌≡◌, cond, List, Result, Ok, Err}
use Rattle.modes.specs.declared.Modes.{Modes}
use Rattle.report.specs.Counts.{no_counts}
use Rattle.scope.specs.Modules.{Modules}
use Rattle.scope.specs.ScopeValue.{modules_of}
use Rattle.scope.specs.declared.Scope.{Scope}
use Rattle.tree.specs.declared.grammar.Set.TheVariants.{Records}
use Rattle.tree.specs.Read.{Unread as TreeUnread}
use Rattle.tree.specs.Read.{read, verdict}
use Rattle.inputs.specs.Outcome.{Outcome, done, refused, refusal_in}
use Rattle.inputs.specs.Table.{rows_in, bad_table, repeats}
use Rattle.inputs.specs.Buffer.{buffer_of}
use Rattle.resolving_rules.specs.Call.{Numbered, numbered, listed, Left}
use Rattle.resolving.specs.declared.ResolveError.{ResolveError}
use Rattle.resolving.specs.declared.ResolveError.TheVariants.{BadTable, NamedTwice, Unread}
use Rattle.resolving.specs.Answer.{error_number, error_place, UnreadAs, lent_as}
use Rattle.resolving.specs.Records.{records_in}

-- ---- '1, 2, 10'

abbrev pub read_as : Result Unit TreeUnread → Result Unit ResolveError
read_as (Ok u) = Ok tt
read_as (Err u) = Err (Unread u)

unfoldable pub lists_of : List ℕ → List ℕ → Result Unit ResolveError
lists_of table records = cond (bad_table table) (Err BadTable) (cond (repeats (rows_in table)) (Err NamedTwice) (read_as (verdict (read Records records))))

-- ---- '5'

-- the table and the records, with the modules of the numbered sources
abbrev pub numbered_as : List ℕ → List ℕ → Modules → Numbered
numbered_as table records ms = record { rows = rows_in table; records = records_in records; modules = ms }

abbrev pub numbering : List ℕ → List ℕ → Result Scope ResolveError → Outcome Numbered
numbering table records (Ok scope) = done (numbered_as table records (modules_of scope))
numbering table records (Err e) = refused (error_number e) (error_place e)

-- the scope with the numbers, or why there is none: what the rules give, in any modes
pub record NumberedBy (table records : List ℕ) (ms : Modules) (r : Result Scope ResolveError) : Type 0 where
  pub rules : (modes : Modes) → numbering table records r ≡ numbered (lent_as modes table records) ms
  pub unread : UnreadAs r (read Records records)

-- ---- '11 or 6, then 9'

-- what is left once every source that resolves has its number
unfoldable pub listed_left : List ℕ → List ℕ → ℕ → Modules → Left
listed_left table records room ms =
    let o = listed (numbered_as table records ms) room in
    record { refusal = refusal_in o; modules = ms; report = no_counts; list = buffer_of (λ r. r.list) o room }
