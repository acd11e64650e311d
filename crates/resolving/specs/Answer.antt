-- What the call's answer stands for, and what it leaves. Document 01, 'Where a call turns back'.
use Rattle.std.specs.Prelude.{ℕ, ◌≡◌, List, Option, Result, Ok, Err}
use Rattle.modes.specs.declared.Modes.{Modes}
use Rattle.report.specs.declared.Report.{Report}
use Rattle.scope.specs.Modules.{Modules}
use Rattle.scope.specs.ScopeValue.{modules_of}
use Rattle.tree.specs.Tree.{Fields}
use Rattle.tree.specs.Read.{Reading, refused as unread}
use Rattle.inputs.specs.Outcome.{Outcome, done, refused, refusal_in}
use Rattle.resolving_rules.specs.Call.{Lent, Left}
use Rattle.resolving.specs.declared.specifiers.Why.{Why}
use Rattle.resolving.specs.declared.specifiers.Why.TheVariants.{Unresolved, StringName}
use Rattle.resolving.specs.declared.ResolveError.{ResolveError}
use Rattle.resolving.specs.declared.ResolveError.TheVariants.{BadTable, NamedTwice, Unread, TooManyFiles, Refused, NoRoom}
use Rattle.resolving.specs.declared.Resolution.{Resolution}

-- ---- What answers stand for

-- document 01's number of each refusal of the list
abbrev pub why_number : Why → ℕ
why_number Unresolved = 11
why_number StringName = 6

-- document 01's number of each refusal, and its place
abbrev pub error_number : ResolveError → ℕ
error_number BadTable = 1
error_number NamedTwice = 2
error_number (Unread u) = 10
error_number (TooManyFiles p) = 5
error_number (Refused u) = why_number u.why
error_number NoRoom = 9

abbrev pub error_place : ResolveError → ℕ
error_place BadTable = 0
error_place NamedTwice = 0
error_place (Unread u) = u.place
error_place (TooManyFiles p) = p
error_place (Refused u) = u.place
error_place NoRoom = 0

-- the value, or document 01's number of the refusal and its place
abbrev pub outcome_of : {A : Type 0} → Result Unit ResolveError → A → Outcome A
outcome_of (Ok u) a = done a
outcome_of (Err e) a = refused (error_number e) (error_place e)

-- the number and the place, none where the call is accepted
abbrev pub answer_refusal : Result Unit ResolveError → Option (ℕ × ℕ)
answer_refusal a = refusal_in (outcome_of a (tt {0}))

-- unread records: why and where are those of their reading
abbrev pub UnreadBy : ResolveError → Reading Fields → Type 0
UnreadBy BadTable r = Unit {0}
UnreadBy NamedTwice r = Unit {0}
UnreadBy (Unread u) r = r ≡ unread u.why u.place
UnreadBy (TooManyFiles p) r = Unit {0}
UnreadBy (Refused u) r = Unit {0}
UnreadBy NoRoom r = Unit {0}

abbrev pub UnreadAs : {A : Type 0} → Result A ResolveError → Reading Fields → Type 0
UnreadAs (Ok a) r = Unit {0}
UnreadAs (Err e) r = UnreadBy e r

-- what is lent, and what a call leaves
abbrev pub lent_as : Modes → List ℕ → List ℕ → Lent
lent_as modes table records = record { modes = modes; table = table; records = records }

abbrev pub left_by : Result Unit ResolveError → Modules → Report → List ℕ → Left
left_by a ms report list = record { refusal = answer_refusal a; modules = ms; report = report; list = list }

abbrev pub left : Resolution → List ℕ → Left
left r list = left_by r.answer (modules_of r.scope) r.report list
