-- What the steps of the call do, as the code has them: what each answers and what it leaves. Only inner contracts cite this.
use Rattle.std.specs.Prelude.{ℕ, ◌≤◌, ◌≡◌, Bool, true, false, cond, None, Some, Result, Ok, Err, IfOk, List, [], length, take, drop}
use Rattle.modes.specs.declared.Modes.{Modes}
use Rattle.scope.specs.Modules.{Modules, request}
use Rattle.tree.specs.declared.grammar.Set.TheVariants.{Module}
use Rattle.tree.specs.Read.{Unread}
use Rattle.tree.specs.Grammar.{rule_of}
use Rattle.tree.specs.Tree.{Fields, none, more, encode, size}
use Rattle.tree.specs.Read.{fine, read, verdict}
use Rattle.tree.specs.Standing.{Row}
use Rattle.writer.specs.Finished.{has_room, delivered, Delivered}
use Rattle.inputs.specs.Outcome.{Outcome, done, refused, onto, placeless}
use Rattle.inputs.specs.Table.{rows_in, repeats}
use Rattle.extraction_rules.specs.State.{State, Pass, first, Setting, Act, start, set_top, set_modules}
use Rattle.extraction_rules.specs.First.{module_for}
use Rattle.extraction_rules.specs.Second.{wrap_module, wrap_all}
use Rattle.extraction_rules.specs.Walk.{walk_module}
use Rattle.extraction_rules.specs.Call.{Lent, Lengths, Extracted, bad_lists, setting, module_with, passes, extracted}
use Rattle.extraction_rules.proofs.WalkLaws.{ImportsAll}
use Rattle.extraction_rules.proofs.SanityLaws.{Known}
use Rattle.extraction_rules.proofs.ReadableLaws.{Items}
use Rattle.state.specs.Cells.{Env, Shows, sources_in}
use Rattle.state.specs.Does.{with_own, with_second}
use Rattle.steps.specs.declared.Why.TheVariants.{TooManyFiles}
use Rattle.steps.specs.Step.{Effect, Effects}
use Rattle.steps.specs.Refusal.{refusal, refusal_of}
use Rattle.records.specs.Writes.{Placing, BothRead, items_in, records_in}
use Rattle.extraction.specs.declared.ExtractError.{ExtractError}
use Rattle.extraction.specs.declared.ExtractError.TheVariants.{BadLists, NamedTwice, Unread as NoTree, Refused, NoRoom}
use Rattle.extraction.specs.Answer.{lent_as, outcome_of, UnreadAs}

-- ---- The tests of what is lent

abbrev pub read_as : Result Unit Unread → Result Unit ExtractError
read_as (Ok u) = Ok u
read_as (Err u) = Err (NoTree u)

-- 1, then 2, then 3 or 4
unfoldable pub lists_of : Lent → Result Unit ExtractError
lists_of l = cond (bad_lists l) (Err BadLists) (cond (repeats (rows_in l.table)) (Err NamedTwice) (read_as (verdict (read Module l.tree))))

-- a module that was read
pub record ModuleRead (tree : List ℕ) : Type 0 where
  pub room : 3 ≤ length tree
  pub row : Row tree 3 (length tree) (rule_of 0x01)
  pub items : Items (items_in tree)
  pub most : length tree ≤ 32768

-- ---- What a call is set to and lent

-- what a pass looks at, but for the tree
abbrev pub setting_in : Pass → ℕ → Modes → List ℕ → List ℕ → Setting
setting_in p own modes externals table = setting p own (lent_as 0 modes externals table []) (rows_in table)

-- the array shows it, and an empty state
pub record LentTo (modes : Modes) (externals table t : List ℕ) : Type 0 where
  pub shows : (x : Env) → x.setting ≡ setting_in first 0 modes externals table → Shows x t (set_top false (start []))

-- ---- 'Own file's number first'

-- the file has a number, and the array shows it and the modules with it
pub record Owned (file : ℕ) (ms : Modules) (t t' : List ℕ) : Type 0 where
  pub own : ℕ
  pub modules : Modules
  pub is : request file ms ≡ Some (own, modules)
  pub shows : {x : Env} (s : State) → Shows x t s → Shows (with_own own x) t' (set_modules modules s)

abbrev pub OwnIs : ℕ → Modules → List ℕ → List ℕ → Result Unit ExtractError → Type 0
OwnIs file ms t t' (Ok u) = Owned file ms t t'
OwnIs file ms t t' (Err e) = (e ≡ Refused (refusal TooManyFiles 0)) × (request file ms ≡ None)

pub record Owns (file : ℕ) (ms : Modules) (t t' : List ℕ) (r : Result Unit ExtractError) : Type 0 where
  pub is : OwnIs file ms t t' r

-- ---- Before the passes

-- the rules go on with the passes, whose setting the array shows
pub record Begun (l : Lent) (ms : Modules) (t : List ℕ) : Type 0 where
  pub own : ℕ
  pub modules : Modules
  pub rest : (room : Lengths) → extracted l room ms ≡ passes l room (rows_in l.table) (items_in l.tree) (own, modules)
  pub shows : (x : Env) → x.setting ≡ setting first own l (rows_in l.table) → Shows x t (set_top false (start modules))
  pub read : ModuleRead l.tree

-- the rules refuse as the error says
pub record Refuses (l : Lent) (ms : Modules) (e : ExtractError) : Type 0 where
  pub is : (room : Lengths) (r : Extracted) → extracted l room ms ≡ outcome_of (Err e) r
  pub why : UnreadAs (Err e) (read Module l.tree)

abbrev pub PreparedIs : Lent → Modules → List ℕ → Result Unit ExtractError → Type 0
PreparedIs l ms t (Ok u) = Begun l ms t
PreparedIs l ms t (Err e) = Refuses l ms e

pub record Prepares (l : Lent) (ms : Modules) (t : List ℕ) (r : Result Unit ExtractError) : Type 0 where
  pub is : PreparedIs l ms t r

-- ---- A pass, held to its buffer

-- what the pass m gives stands in the first n bytes of the buffer, which was l
pub record Held (x : Env) (m : Outcome (Fields × State)) (l t' l' : List ℕ) (n : ℕ) : Type 0 where
  pub items : Fields
  pub state : State
  pub is : m ≡ done (items, state)
  pub room : has_room (size (module_with items)) (length l) ≡ true
  pub buffer : l' ≡ delivered (encode (module_with items)) (length l)
  pub part : take n l' ≡ encode (module_with items)
  pub shows : Shows x t' state

-- it is too long
pub record TooLong (m : Outcome (Fields × State)) (room : ℕ) : Type 0 where
  pub items : Fields
  pub state : State
  pub is : m ≡ done (items, state)
  pub short : has_room (size (module_with items)) room ≡ false

-- a pass tests no lists and reads no tree
abbrev pub PassIs : Env → Outcome (Fields × State) → List ℕ → List ℕ → List ℕ → Result ℕ ExtractError → Type 0
PassIs x m l t' l' (Ok n) = Held x m l t' l' n
PassIs x m l t' l' (Err BadLists) = ⊥
PassIs x m l t' l' (Err NamedTwice) = ⊥
PassIs x m l t' l' (Err (NoTree u)) = ⊥
PassIs x m l t' l' (Err (Refused u)) = m ≡ refused (refusal_of u.why) u.place
PassIs x m l t' l' (Err NoRoom) = TooLong m (length l)

abbrev pub Inside : Result ℕ ExtractError → ℕ → Type 0
Inside r room = IfOk r (λ n. n ≤ room)

-- the first pass, from the modules that the array shows
pub record Firsts (tree t work t' work' : List ℕ) (r : Result ℕ ExtractError) : Type 0 where
  pub inside : Inside r (length work)
  pub is : {x : Env} (ms : Modules) → x.setting.pass ≡ first → Shows x t (set_top false (start ms)) → ModuleRead tree → (w : List ℕ) → Placing tree w x →
      PassIs x (walk_module x.setting (items_in tree) (set_top false (start ms))) work t' work' r

-- ---- 'At the end forced sources get the wrapping mark if they resolve'

abbrev pub Anywhere : Env → State → Type 0
Anywhere x s = Unit {0}

-- a source
abbrev pub wrap_one : Setting → List ℕ → Act (Unit {0})
wrap_one e a = λ s. onto (module_for e a 0 s) (λ r. wrap_module r.0 r.1)

-- the forced sources from i on
abbrev pub wrap_from : ℕ → Setting → Act (Unit {0})
wrap_from i e = λ s. wrap_all e (drop i s.forced) s

-- what is left from i on makes the whole
pub record Wrapping (t₀ : List ℕ) (i : ℕ) (t : List ℕ) : Type 0 where
  pub rest : (t' : List ℕ) (k : Effect) → Effects Anywhere (λ x. wrap_from i x.setting) t t' k → Effects Anywhere (λ x. wrap_from 0 x.setting) t₀ t' k

-- ---- The second pass

-- the walk, then the marks
abbrev pub marking : Setting → Fields → Act Fields
marking e works = λ s. onto (walk_module e works s) (λ r. onto (wrap_from 0 e r.1) (λ u. done (r.0, u.1)))

-- *work* holds what the first pass left: items, whose sources are collected unless they are external. 'All of pass two: 0'
pub record Seconds (t work out t' out' : List ℕ) (r : Result ℕ ExtractError) : Type 0 where
  pub inside : Inside r (length out)
  pub is : {x : Env} (s : State) → Shows x t s → (tree : List ℕ) → Placing tree work x → (works : Fields) →
      read Module work ≡ fine (more (module_with works) none) → length work ≤ 65538 →
      ImportsAll works (Known x.setting.externals (sources_in s.collected)) →
      PassIs (with_second x) (placeless (marking (with_second x).setting works s)) out t' out' r

-- ---- The records, held to their buffer

pub record DeliversFor (tree work out t records records' : List ℕ) (b : Bool) : Type 0 where
  pub is : {x : Env} (s : State) → Shows x t s → Placing tree work x → BothRead work out → Delivered (encode (records_in work out s)) records b records'

-- ---- The steps together

-- the array shows a state with these modules
pub record ShowsModules (t : List ℕ) (ms : Modules) : Type 0 where
  pub at : Env
  pub state : State
  pub shows : Shows at t state
  pub modules : state.modules ≡ ms

-- the three trees stand in their buffers
pub record Whole (k l m k' l' m' : List ℕ) (r : Extracted) : Type 0 where
  pub work : k' ≡ delivered (encode r.work) (length k)
  pub out : l' ≡ delivered (encode r.out) (length l)
  pub records : m' ≡ delivered (encode r.records) (length m)

-- the rules accept, and B is what the buffers hold
pub record AcceptedAs (B : Extracted → Type 0) (m : Outcome Extracted) (t : List ℕ) : Type 0 where
  pub result : Extracted
  pub is : m ≡ done result
  pub modules : ShowsModules t result.modules
  pub buffers : B result

-- the rules refuse as the error says
pub record TurnedAs (m : Outcome Extracted) (tree : List ℕ) (e : ExtractError) : Type 0 where
  pub is : (r : Extracted) → m ≡ outcome_of (Err e) r
  pub why : UnreadAs (Err e) (read Module tree)

abbrev pub EndIs : (Extracted → Type 0) → Outcome Extracted → List ℕ → List ℕ → Result Unit ExtractError → Type 0
EndIs B m tree t (Ok u) = AcceptedAs B m t
EndIs B m tree t (Err e) = TurnedAs m tree e

-- the answer to what the rules say
pub record Ends (B : Extracted → Type 0) (m : Outcome Extracted) (tree t : List ℕ) (a : Result Unit ExtractError) : Type 0 where
  pub is : EndIs B m tree t a
