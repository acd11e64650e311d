-- What the call's answer stands for, what it is lent and what it leaves. Document 01, 'Where a call turns back'.
use Rattle.std.specs.Prelude.{ℕ, ◌≡◌, Option, Result, Ok, Err, List, length}
use Rattle.modes.specs.declared.Modes.{Modes}
use Rattle.scope.specs.ScopeValue.{modules_of}
use Rattle.tree.specs.Tree.{Fields}
use Rattle.tree.specs.Read.{Reading, refused as unread, refusal_of as read_refusal}
use Rattle.inputs.specs.Outcome.{Outcome, done, refused, refusal_in}
use Rattle.extraction_rules.specs.Call.{Lent, Lengths, Left}
use Rattle.steps.specs.Refusal.{refusal_of}
use Rattle.extraction.specs.declared.ExtractError.{ExtractError}
use Rattle.extraction.specs.declared.ExtractError.TheVariants.{BadLists, NamedTwice, Unread, Refused, NoRoom}
use Rattle.extraction.specs.declared.Extraction.{Extraction}

-- ---- What answers stand for

-- the value, or document 01's number of the refusal and its place
abbrev pub outcome_of : {A : Type 0} → Result Unit ExtractError → A → Outcome A
outcome_of (Ok u) a = done a
outcome_of (Err BadLists) a = refused 1 0
outcome_of (Err NamedTwice) a = refused 2 0
outcome_of (Err (Unread u)) a = refused (read_refusal u.why) u.place
outcome_of (Err (Refused u)) a = refused (refusal_of u.why) u.place
outcome_of (Err NoRoom) a = refused 9 0

-- the number and the place, none where the call is accepted
abbrev pub answer_refusal : Result Unit ExtractError → Option (ℕ × ℕ)
answer_refusal a = refusal_in (outcome_of a (tt {0}))

-- an unread tree: why and where are those of its reading
abbrev pub UnreadAs : Result Unit ExtractError → Reading Fields → Type 0
UnreadAs (Ok u) r = Unit {0}
UnreadAs (Err BadLists) r = Unit {0}
UnreadAs (Err NamedTwice) r = Unit {0}
UnreadAs (Err (Unread u)) r = r ≡ unread u.why u.place
UnreadAs (Err (Refused u)) r = Unit {0}
UnreadAs (Err NoRoom) r = Unit {0}

-- what is lent, the room in the buffers, and what a call leaves
abbrev pub lent_as : ℕ → Modes → List ℕ → List ℕ → List ℕ → Lent
lent_as file modes externals table tree =
    record { file = file; modes = modes; externals = externals; table = table; tree = tree }

abbrev pub room_in : List ℕ → List ℕ → List ℕ → Lengths
room_in work out records = record { work = length work; out = length out; records = length records }

abbrev pub left : Extraction → List ℕ → List ℕ → List ℕ → Left
left r work out records =
    record {
      refusal = answer_refusal r.answer;
      modules = modules_of r.scope;
      report = r.report;
      work = work;
      out = out;
      records = records;
    }
