-- What the functions that write records say: which binding ids a lazy record's place stands for, and what is written for every state that
-- the array shows.
use Rattle.std.specs.Prelude.{ℕ, ◌+◌, ◌-◌, ◌≤◌, ◌≡◌, Option, None, Some, Bool, true, false, not, cond, List, [], map, leb, ltb, eqb, length, min}
use Rattle.tree.specs.declared.grammar.Rule.{Rule}
use Rattle.tree.specs.Tree.{Field, field, Fields, none, more, tag_of, parts_of}
use Rattle.tree.specs.Access.{extent_at}
use Rattle.tree.specs.Standing.{tree_at, row_at, Row as Accepted}
use Rattle.tree.specs.Rows.{tree_of, fields_of}
use Rattle.tree.specs.declared.row.Part.{Part}
use Rattle.tree.specs.declared.row.Row.{Row}
use Rattle.inputs.specs.Fields.{has, keep}
use Rattle.writer.specs.Wrote.{Wrote}
use Rattle.extraction_rules.specs.State.{Record, State}
use Rattle.extraction_rules.specs.First.{bindings, specifiers_in}
use Rattle.extraction_rules.specs.Records.{record_fields, forced_fields}
use Rattle.metadata.specs.Metadata.{append}
use Rattle.tree.specs.Layout.{two, value_of, literal_width, literal_at}
use Rattle.state.specs.Cells.{Env, Shows}
use Rattle.steps.specs.Step.{ReadAt}
use Rattle.records.specs.declared.literals.Wanted.{Wanted}
use Rattle.records.specs.Model.{starts_named, rebuilt}

-- ---- Lazy records

-- the binding ids of the pattern that stands at a place
unfoldable pub pattern_on : Option ℕ → List ℕ → ℕ → Fields
pattern_on None s at = none
pattern_on (Some stop) s at = bindings (tree_at s at stop)

unfoldable pub pattern_at : List ℕ → ℕ → Fields
pattern_at s at = cond (leb at (length s)) (pattern_on (extent_at s at (length s)) s at) none

-- a lazy record's place: 0 for none, below 65536 in the lent tree, and behind that in the tree after the first pass
unfoldable pub placed : List ℕ → List ℕ → ℕ → Fields
placed tree work q = cond (eqb q 0) none (cond (ltb q 65536) (pattern_at tree q) (pattern_at work (q - 65536)))

-- the literal that stands at a place of these trees
unfoldable pub literal_on : List ℕ → ℕ → List ℕ
literal_on s at = cond (leb (at + literal_width) (length s)) (literal_at s at) []

unfoldable pub literal_in : List ℕ → List ℕ → ℕ → List ℕ
literal_in tree work q = cond (ltb q 65536) (literal_on tree q) (literal_on work (q - 65536))

-- what stands at places is read off these trees
pub record Placing (tree work : List ℕ) (x : Env) : Type 0 where
  pub bindings_placed : (q : ℕ) → x.bound q ≡ placed tree work q
  pub literals_placed : (q : ℕ) → x.literal q ≡ literal_in tree work q

-- ---- What is written

-- the bytes f of every state that the array t shows, where P holds of what stands at places
pub record WroteFor (P : Env → Type 0) (f : State → List ℕ) (t l : List ℕ) (o : ℕ) (l' : List ℕ) (p : ℕ) : Type 0 where
  pub size : length l' ≡ length l
  pub is : {x : Env} (s : State) → Shows x t s → P x → Wrote l o (f s) l' p

-- with the bytes g that are left, from here on, all of f are written
pub record Onward (P : Env → Type 0) (f g : State → List ℕ) (t l : List ℕ) (o : ℕ) (l' : List ℕ) (p : ℕ) : Type 0 where
  pub size : length l' ≡ length l
  pub is : {x : Env} (s : State) → Shows x t s → P x → {l'' : List ℕ} {q : ℕ} → Wrote l' p (g s) l'' q → Wrote l o (f s) l'' q

-- where P holds, these bytes
pub record WroteIf (P : Type 0) (bs l : List ℕ) (o : ℕ) (l' : List ℕ) (p : ℕ) : Type 0 where
  pub size : length l' ≡ length l
  pub is : P → Wrote l o bs l' p

-- fields that reading accepts
abbrev pub RowRead : List ℕ → ℕ → ℕ → Type 0
RowRead s at end = (q : Rule) × Accepted s at end q

-- those of a row, and one by itself
abbrev pub FieldsRead : Row → Type 0
FieldsRead r = RowRead r.bytes.now r.at r.end

abbrev pub PartRead : Part → Type 0
PartRead p = ReadAt p.bytes.now p.at p.stop

-- where P holds, the fields of r are read, and with the bytes cs that are left all of bs are written
pub record RowOnward (P : Type 0) (r : Row) (bs cs l : List ℕ) (o : ℕ) (l' : List ℕ) (p : ℕ) : Type 0 where
  pub size : length l' ≡ length l
  pub read : P → FieldsRead r
  pub is : P → {l'' : List ℕ} {q : ℕ} → Wrote l' p cs l'' q → Wrote l o bs l'' q

-- ---- Imports

-- parts with the namespaces or without them
unfoldable pub sieve : Bool → Fields → Fields
sieve b fs = cond b fs (keep (λ f. not (has 0x22 f)) fs)

-- what is written of a part
unfoldable pub specifier_of : Bool → Field → Fields
specifier_of b f = cond (has 0x2F f) none (sieve b (more f none))

-- the specifiers of an item whose first is a 20
unfoldable pub named_parts : Field → Fields
named_parts g = cond (starts_named (specifiers_in (parts_of g))) (specifiers_in (parts_of g)) none

abbrev pub is_none : Fields → Bool
is_none none = true
is_none (more f fs) = false

-- the first of the specifiers fs has a tag, and those behind it are those of r
pub record FirstAt (fs : Fields) (tag : ℕ) (r : Row) : Type 0 where
  pub first : Field
  pub is : fs ≡ more first (specifiers_in (fields_of r))
  pub tagged : tag ≡ tag_of first

abbrev pub FirstIs : Fields → Option ℕ → Row → Type 0
FirstIs fs None r = fs ≡ none
FirstIs fs (Some tag) r = FirstAt fs tag r

-- the items from a place on, none from past the end on
abbrev pub ItemsFrom : List ℕ → ℕ → Row → Type 0
ItemsFrom s at r = (r.bytes.now ≡ s) × (r.at ≡ min at (length s)) × (r.end ≡ length s)

-- a field is an import, and its parts are the row r
pub record ImportIs (p : Part) (r : Row) : Type 0 where
  pub inside : p.at + 9 ≤ p.stop
  pub item : tree_of p ≡ field 0x10 (literal_at p.bytes.now (p.at + 3)) (fields_of r)
  pub read : PartRead p → FieldsRead r

abbrev pub ImportParts : Part → Option Row → Type 0
ImportParts p None = tag_of (tree_of p) ≡ 0x10 → ⊥
ImportParts p (Some r) = ImportIs p r

-- ---- The item at a place

unfoldable pub item_on : Option ℕ → List ℕ → ℕ → Field
item_on None s at = field 0 [] none
item_on (Some stop) s at = tree_at s at stop

unfoldable pub item_at : List ℕ → ℕ → Field
item_at s at = item_on (extent_at s at (length s)) s at

-- it is read
abbrev pub ItemRead : List ℕ → ℕ → Type 0
ItemRead s at = (stop : ℕ) → extent_at s at (length s) ≡ Some stop → ReadAt s at stop

-- the field that stands at a place, if one does
abbrev pub FieldAt : List ℕ → ℕ → Option Part → Type 0
FieldAt s at None = extent_at s at (length s) ≡ None
FieldAt s at (Some p) = (extent_at s at (length s) ≡ Some p.stop) × (p.at ≡ at) × (p.bytes.now ≡ s)

-- what a record is written for has the value of the literal at its place
abbrev pub Valued : List ℕ → List ℕ → Wanted → Type 0
Valued tree work w = value_of (literal_in tree work w.place) ≡ two w.value.0

-- ---- The records

-- the items of a module
abbrev pub items_in : List ℕ → Fields
items_in s = row_at s 3 (length s)

-- the trees after both passes are read
abbrev pub BothRead : List ℕ → List ℕ → Type 0
BothRead work out = RowRead work 3 (length work) × RowRead out 3 (length out)

-- a state's collected records as the trees tell them
abbrev pub retold : List ℕ → List ℕ → State → List Record
retold work out s = map (rebuilt (items_in work) (items_in out) s.forced) s.collected

unfoldable pub records_in : List ℕ → List ℕ → State → Field
records_in work out s =
    field 0x02 [] (append (record_fields 0x80 (retold work out s)) (append (record_fields 0x81 s.lazy) (forced_fields s.forced)))
