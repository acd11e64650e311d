-- The grammar (document 01, 'Tree'): for each tag its parts and its fixed bytes, tag by tag in the document's order.
use Rattle.std.specs.Prelude.{ℕ, zero, suc, List, [], ◌∷◌, Bool, true, false, ◌&&◌, ◌||◌, cond, leb, eqb, Option, Some, None}
use Rattle.tree.specs.declared.grammar.Set.{Set}
use Rattle.tree.specs.declared.grammar.Set.TheVariants.{Module, Item, Specifier, ExportSpecifier, Attributes, Attribute, Declaration}
use Rattle.tree.specs.declared.grammar.Set.TheVariants.{Statement, Declarator, Block, Pattern, PatternProperty, Expression, Callee, Target}
use Rattle.tree.specs.declared.grammar.Set.TheVariants.{Body, Member, SuperMember, Argument, Property, Records, Collected, Lazy, Dynamic}
use Rattle.tree.specs.declared.grammar.Set.TheVariants.{Forced}
use Rattle.tree.specs.declared.grammar.Slot.{Slot}
use Rattle.tree.specs.declared.grammar.Slot.TheVariants.{Nothing, One, Maybe, Many}
use Rattle.tree.specs.declared.grammar.Rule.{Rule}
use Rattle.tree.specs.declared.grammar.Fit.{Fit}
use Rattle.tree.specs.declared.grammar.Fit.TheVariants.{Stay, Used, Over, No}
use Rattle.tree.specs.declared.grammar.Value.TheVariants.{Empty, Byte, Atom, Id, Literal, Number}
use Rattle.tree.specs.declared.grammar.Piece.{Piece}
use Rattle.tree.specs.declared.grammar.Piece.TheVariants.{Plain, Source, Original, Outside, Spread, KeyValue}
use Rattle.tree.specs.declared.grammar.Pieces.{Pieces}

-- lo ≤ t ≤ hi
unfoldable pub within : ℕ → ℕ → ℕ → Bool
within lo hi t = leb lo t && leb t hi

-- statements: 40, 41, 43 to 48
abbrev pub statement_tag : ℕ → Bool
statement_tag t = within 0x40 0x41 t || within 0x43 0x48 t

-- patterns: 50, 51, 52, 55, 56
abbrev pub pattern_tag : ℕ → Bool
pattern_tag t = within 0x50 0x52 t || within 0x55 0x56 t

-- expressions: 60 to 6E
abbrev pub expression_tag : ℕ → Bool
expression_tag t = within 0x60 0x6e t

-- the tags of each set
unfoldable pub holds_at : Set → ℕ → Bool
holds_at Module t = eqb t 0x01
holds_at Item t = within 0x10 0x14 t || statement_tag t
holds_at Specifier t = within 0x20 0x22 t
holds_at ExportSpecifier t = within 0x23 0x24 t
holds_at Attributes t = eqb t 0x2f
holds_at Attribute t = eqb t 0x30
holds_at Declaration t = eqb t 0x41 || eqb t 0x43
holds_at Statement t = statement_tag t
holds_at Declarator t = eqb t 0x42
holds_at Block t = eqb t 0x45
holds_at Pattern t = pattern_tag t
holds_at PatternProperty t = within 0x53 0x54 t
holds_at Expression t = expression_tag t
holds_at Callee t = expression_tag t || within 0x73 0x74 t
holds_at Target t = eqb t 0x50 || eqb t 0x63
holds_at Body t = eqb t 0x45 || expression_tag t
holds_at Member t = within 0x70 0x72 t
holds_at SuperMember t = within 0x70 0x71 t
holds_at Argument t = eqb t 0x75
holds_at Property t = within 0x77 0x78 t
holds_at Records t = eqb t 0x02
holds_at Collected t = eqb t 0x80
holds_at Lazy t = eqb t 0x81
holds_at Dynamic t = eqb t 0x82
holds_at Forced t = eqb t 0x83

-- rules of four slots and fewer
abbrev pub parts4 : Slot → Slot → Slot → Slot → Rule
parts4 a b c d = record { first = a; second = b; third = c; fourth = d }

abbrev pub parts3 : Slot → Slot → Slot → Rule
parts3 a b c = parts4 a b c Nothing

abbrev pub parts2 : Slot → Slot → Rule
parts2 a b = parts4 a b Nothing Nothing

abbrev pub parts1 : Slot → Rule
parts1 a = parts4 a Nothing Nothing Nothing

abbrev pub parts0 : Rule
parts0 = parts4 Nothing Nothing Nothing Nothing

-- what a table has at t, or else d
abbrev pub find {ℓ} : {A : Type ℓ} → ℕ → List (ℕ × A) → A → A
find t [] d = d
find t (e ∷ l) d = cond (eqb t e.0) e.1 (find t l d)

-- 12, 20 to 24, 30, 70, 72 to 74, 77, 82 and 83 have no parts
abbrev pub others : List (ℕ × Rule)
others =
    (0x01, parts1 (Many Item)) ∷  -- module
    (0x10, parts2 (Many Specifier) (Maybe Attributes)) ∷  -- import
    (0x11, parts1 (Many ExportSpecifier)) ∷  -- export
    (0x13, parts1 (One Declaration)) ∷  -- exported declaration
    (0x14, parts1 (One Expression)) ∷  -- default
    (0x2f, parts1 (Many Attribute)) ∷  -- attributes
    (0x71, parts1 (One Expression)) ∷  -- computed
    (0x75, parts1 (One Expression)) ∷  -- argument
    (0x78, parts1 (One Expression)) ∷  -- key and value
    (0x02, parts4 (Many Collected) (Many Lazy) (Many Dynamic) (Many Forced)) ∷  -- records
    (0x80, parts1 (Many Specifier)) ∷  -- collected
    (0x81, parts1 (Many Specifier)) ∷  -- lazy
    []

-- a 40 has no parts
abbrev pub statements : List (ℕ × Rule)
statements =
    (0x41, parts1 (Many Declarator)) ∷  -- var
    (0x42, parts2 (One Pattern) (Maybe Expression)) ∷  -- declarator
    (0x43, parts2 (Many Pattern) (One Block)) ∷  -- function
    (0x44, parts1 (One Expression)) ∷  -- expression
    (0x45, parts1 (Many Statement)) ∷  -- block
    (0x46, parts3 (One Expression) (One Statement) (Maybe Statement)) ∷  -- if
    (0x47, parts1 (Maybe Expression)) ∷  -- return
    (0x48, parts2 (One Expression) (One Statement)) ∷  -- while
    []

-- a 50 has no parts
abbrev pub patterns : List (ℕ × Rule)
patterns =
    (0x51, parts1 (Many Pattern)) ∷  -- array
    (0x52, parts1 (Many PatternProperty)) ∷  -- object
    (0x53, parts1 (One Pattern)) ∷  -- key and pattern
    (0x54, parts1 (Maybe Expression)) ∷  -- shorthand
    (0x55, parts2 (One Pattern) (One Expression)) ∷  -- with a default
    (0x56, parts1 (One Pattern)) ∷  -- rest
    []

-- 60 to 62 have no parts
abbrev pub expressions : List (ℕ × Rule)
expressions =
    (0x63, parts2 (One Expression) (One Member)) ∷  -- member
    (0x64, parts1 (One SuperMember)) ∷  -- super
    (0x65, parts2 (One Callee) (Many Argument)) ∷  -- call
    (0x66, parts2 (One Target) (One Expression)) ∷  -- assignment
    (0x67, parts2 (Many Pattern) (One Body)) ∷  -- arrow
    (0x68, parts2 (Many Pattern) (One Block)) ∷  -- function
    (0x69, parts1 (Many Property)) ∷  -- object
    (0x6a, parts1 (Many Expression)) ∷  -- array
    (0x6b, parts2 (One Expression) (One Expression)) ∷  -- binary
    (0x6c, parts3 (One Expression) (One Expression) (One Expression)) ∷  -- conditional
    (0x6d, parts1 (One Expression)) ∷  -- unary
    (0x6e, parts1 (One Expression)) ∷  -- parentheses
    []

-- the parts of a field with this tag
unfoldable pub rule_of : ℕ → Rule
rule_of t =
    cond (within 0x40 0x48 t) (find t statements parts0)
    (cond (within 0x50 0x56 t) (find t patterns parts0)
    (cond (within 0x60 0x6e t) (find t expressions parts0) (find t others parts0)))

-- two pieces, or one
abbrev pub pieces : Piece → Piece → Pieces
pieces a b = record { first = a; second = b }

abbrev pub only : Piece → Pieces
only a = pieces a (Plain Empty)

-- tags that are not listed have no fixed bytes
abbrev pub fixed_parts : List (ℕ × Pieces)
fixed_parts =
    (0x10, only (Plain Literal)) ∷  -- import
    (0x11, only Source) ∷  -- export
    (0x12, only (Plain Literal)) ∷  -- export all
    (0x20, pieces (Plain Id) Outside) ∷  -- named
    (0x21, only (Plain Id)) ∷  -- default
    (0x22, only (Plain Id)) ∷  -- namespace
    (0x23, pieces Original Outside) ∷  -- exported name
    (0x24, only (Plain Id)) ∷  -- exported namespace
    (0x30, only KeyValue) ∷  -- attribute
    (0x43, only (Plain Id)) ∷  -- function
    (0x50, only (Plain Id)) ∷  -- binding
    (0x53, only (Plain Atom)) ∷  -- key and pattern
    (0x54, only (Plain Id)) ∷  -- shorthand
    (0x60, only (Plain Id)) ∷  -- identifier
    (0x61, only (Plain Literal)) ∷  -- literal
    (0x62, only (Plain Number)) ∷  -- eight free bytes
    (0x6b, only (Plain Byte)) ∷  -- binary
    (0x6d, only (Plain Byte)) ∷  -- unary
    (0x70, only (Plain Atom)) ∷  -- name
    (0x72, only (Plain Atom)) ∷  -- private
    (0x75, only Spread) ∷  -- argument
    (0x77, only (Plain Id)) ∷  -- shorthand
    (0x78, only (Plain Atom)) ∷  -- key and value
    (0x80, only (Plain Literal)) ∷  -- collected
    (0x81, only (Plain Literal)) ∷  -- lazy
    (0x82, only (Plain Literal)) ∷  -- dynamic
    (0x83, only (Plain Atom)) ∷  -- forced
    []

-- the fixed bytes of a field with this tag
unfoldable pub pieces_of : ℕ → Pieces
pieces_of t = find t fixed_parts (only (Plain Empty))

-- what a slot says to a tag
unfoldable pub slot_at : Slot → ℕ → Fit
slot_at Nothing t = Over
slot_at (One x) t = cond (holds_at x t) Used No
slot_at (Maybe x) t = cond (holds_at x t) Used Over
slot_at (Many x) t = cond (holds_at x t) Stay Over

-- a rule without its first slot
abbrev pub rest_of : Rule → Rule
rest_of r = parts3 r.second r.third r.fourth

-- by what the first slot of r says: r stays, is left without that slot, or the next slots answer
abbrev pub on_fit : Fit → Rule → Option Rule → Option Rule
on_fit Stay r o = Some r
on_fit Used r o = Some (rest_of r)
on_fit Over r o = o
on_fit No r o = None

-- what the first n slots of a rule say to a tag
unfoldable pub step_by : ℕ → Rule → ℕ → Option Rule
step_by zero r t = None
step_by (suc n) r t = on_fit (slot_at r.first t) r (step_by n (rest_of r) t)

-- the rule that is left behind a field with this tag, or refused
unfoldable pub step_at : Rule → ℕ → Option Rule
step_at r t = step_by 4 r t

abbrev pub full_at : Slot → Bool
full_at Nothing = true
full_at (One x) = false
full_at (Maybe x) = true
full_at (Many x) = true

-- a rule that lacks no part
abbrev pub done_at : Rule → Bool
done_at r = full_at r.first && (full_at r.second && (full_at r.third && full_at r.fourth))
