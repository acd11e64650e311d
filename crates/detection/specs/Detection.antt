-- Detection (document 01, 'Metadata and detection', last sentence): whether a module is an ES module, and the whole call with its refusals.
use Rattle.std.specs.Prelude.{ℕ, ◌≡◌, Bool, true, false, not, ◌||◌, cond, List, [], ◌∷◌, ltb, eqb, length, Option, None, Some, Result, Ok, Err}
use Rattle.modes.specs.declared.Modes.{Modes}
use Rattle.scope.specs.Id.{atom, module_atom, exports_atom}
use Rattle.scope.specs.declared.id.Atom.{Atom}
use Rattle.tree.specs.declared.grammar.Set.TheVariants.{Module}
use Rattle.tree.specs.declared.grammar.Rule.{Rule}
use Rattle.tree.specs.Layout.{two_at}
use Rattle.tree.specs.Tree.{Field, field, Fields, none, more, tag_of, fixed_of, parts_of}
use Rattle.tree.specs.Grammar.{find, within}
use Rattle.tree.specs.Read.{Reading, fine, refused, refusal_of, read}
use Rattle.tree.specs.Standing.{Row}
use Rattle.tree.specs.declared.row.Row.{Row as Fielded}
use Rattle.detection.specs.declared.DetectError.{DetectError}
use Rattle.detection.specs.declared.DetectError.TheVariants.{TooLong, Unread}

-- the first of the parts, a call's callee or a member's object: its name, if it is a plain 60
unfoldable pub first_ident : Fields → Option Atom
first_ident none = None
first_ident (more f fs) = cond (eqb (tag_of f) 0x60) (Some (atom (two_at (fixed_of f) 0))) None

-- 'ANY plain 60'
abbrev pub any_name : Option Atom → Bool
any_name None = false
any_name (Some a) = true

-- 'module or exports', in any context
abbrev pub module_or_exports : Option Atom → Bool
module_or_exports None = false
module_or_exports (Some a) = eqb a.0 module_atom || eqb a.0 exports_atom

-- a field with this tag and these parts is 'a call on ANY plain 60' or 'a member of module or exports'; 'super excepted': a 64 is no 63
unfoldable pub other_here : ℕ → Fields → Bool
other_here t cs =
    find t
    ((0x63, module_or_exports (first_ident cs)) ∷
    (0x65, any_name (first_ident cs)) ∷
    [])
    false

unfoldable mutual
  -- 'targets too': a call or a member counts wherever it stands, so the field itself, or a field below it.
  -- The Rust's walk reaches all of them in a statement: in a 66's target, a pattern's expression, a 71, a function's body.
  -- What it does not walk is below an item 10 to 14, which decides the answer by itself.
  pub found_other : Field → Bool
  found_other (field t x cs) = other_here t cs || found_other_in cs

  -- the same for a row of fields
  pub found_other_in : Fields → Bool
  found_other_in none = false
  found_other_in (more f fs) = found_other f || found_other_in fs

-- 'a module item 10 to 14'
unfoldable pub forced_es6 : Fields → Bool
forced_es6 none = false
forced_es6 (more f fs) = within 0x10 0x14 (tag_of f) || forced_es6 fs

-- 'config off, or a module item 10 to 14, or neither a call .. nor a member ..', for a module with these items: config is the mode require
unfoldable pub es6 : Modes → Fields → Bool
es6 modes items = not modes.require || (forced_es6 items || not (found_other_in items))

-- the items of the module that was read
abbrev pub items_of : Fields → Fields
items_of none = none
items_of (more f fs) = parts_of f

-- what the call gives: whether it is an ES module, or a refusal's number and place
pub data Outcome : Type 0 where
  answers : Bool → Outcome
  refuses : ℕ → ℕ → Outcome

-- the number and the values of each answer
abbrev pub outcome_of : Result Bool DetectError → Outcome
outcome_of (Ok b) = answers b
outcome_of (Err TooLong) = refuses 1 0
outcome_of (Err (Unread u)) = refuses (refusal_of u.why) u.place

-- an unread tree: why and where are those of its reading
abbrev pub UnreadAs : Result Bool DetectError → Reading Fields → Type 0
UnreadAs (Ok b) r = Unit {0}
UnreadAs (Err TooLong) r = Unit {0}
UnreadAs (Err (Unread u)) r = r ≡ refused u.why u.place

abbrev pub on_reading : Reading Fields → Modes → Outcome
on_reading (fine fs) modes = answers (es6 modes (items_of fs))
on_reading (refused w p) modes = refuses (refusal_of w) p

-- the whole call: 1 for a 'tree over .. 65,538', then reading's refusal, in any modes, then the rule
unfoldable pub detect : Modes → List ℕ → Outcome
detect modes s = cond (ltb 65538 (length s)) (refuses 1 0) (on_reading (read Module s) modes)

-- parts that reading accepts by some rule
abbrev pub Accepted : List ℕ → ℕ → ℕ → Type 0
Accepted s at end = (q : Rule) × Row s at end q

abbrev pub AcceptedIn : Fielded → Type 0
AcceptedIn r = Accepted r.bytes.now r.at r.end
