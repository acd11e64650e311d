-- The files of a scope, requested anew: what a host does that lends, for its next call, the files of the scope that came back.
-- Document 01: 'Its calls start a fresh scope and first request a lent list of files in it'.
use Rattle.std.specs.Prelude.{None}
use Rattle.std.specs.Prelude.{ℕ, ◌≡◌, List, [], map}
use Rattle.scope.specs.Modules.{Modules, unmarked, request_all}
use Rattle.resolving_rules.specs.Call.{Lent, Left, resolving}
use Rattle.theorems.specs.Lists.{Call, after_all}

-- the files of a scope, in the order of their numbers
abbrev pub files_of : Modules → List ℕ
files_of ms = map (λ m. m.file) ms

-- the modules with their files and numbers, without their marks
abbrev pub without_marks : Modules → Modules
without_marks ms = map (λ m. unmarked m.file) ms

-- After any list of calls from a fresh scope on, its files, requested in order in another fresh scope, get the numbers that they
-- have, and none is refused.
abbrev pub SameNumbers : Type 0
SameNumbers =
    (calls : List Call) → request_all (files_of (after_all calls [])) [] ≡ record { modules = without_marks (after_all calls []); refusal = None }

-- Resolving reads no mark and sets none: without marks it leaves the same refusal, the same list and the same numbers.
abbrev pub ResolvesByFiles : Type 0
ResolvesByFiles =
    (l : Lent) (room : ℕ) (ms : Modules) →
    let r : Left = resolving l room ms in
    resolving l room (without_marks ms) ≡ record { refusal = r.refusal; modules = without_marks r.modules; report = r.report; list = r.list }
