-- The parts of an import: what the code's answers stand for, where the specifiers end, and what a record and the output get of them.
use Rattle.std.specs.Prelude.{Option, None, Some, Result, Ok, Err}
use Rattle.std.specs.Prelude.{ℕ, ◌+◌, ◌≤◌, ◌<◌, ◌≡◌, true, false, cond, List, eqb, length, get_or, drop}
use Rattle.writer.specs.Wrote.{Wrote}
use Rattle.tree.specs.declared.grammar.Set.TheVariants.{Specifier as specifier-set}
use Rattle.tree.specs.Layout.{two, atom_at, id_at, name_of}
use Rattle.tree.specs.Tree.{Field, field, Fields, none, more, tag_of, fixed_of, encode, encodes}
use Rattle.tree.specs.Access.{fixed_at}
use Rattle.tree.specs.Grammar.{holds_at, rule_of}
use Rattle.tree.specs.Standing.{row_at, Row}
use Rattle.inputs.specs.Fields.{has, keep, find_field, inside}
use Rattle.inputs.specs.Outcome.{refused}
use Rattle.extraction_rules.specs.State.{Imported, State, Act, ◌>>=◌, ◌>>◌, give, set_collected}
use Rattle.extraction_rules.specs.First.{outside_name, note_id, note_specifiers, specifiers_in, attributes_in, attributes_of, with_context, collect}
use Rattle.extraction_rules.specs.Second.{usages_of, specifiers_from}
use Rattle.state.specs.Cells.{Env, records, held, id_by, literal_by, Valued, count_namespaces, namespaces_in, Shows}
use Rattle.state.specs.declared.Literal.{Literal}
use Rattle.state.specs.declared.TableFull.{TableFull}
use Rattle.state.specs.Does.{Did, extend_at}
use Rattle.metadata.specs.Metadata.{append}
use Rattle.steps.specs.Step.{ReadAt, Reads, Step}
use Rattle.steps.specs.Refusal.{refusal_of}
use Rattle.steps.specs.Refusal.{Refusal}
use Rattle.imports.specs.declared.note.Outside.{Outside}
use Rattle.imports.specs.declared.note.Outside.TheVariants.{Nothing, Name, Text}
use Rattle.imports.specs.declared.note.Specifier.{Specifier}
use Rattle.imports.specs.declared.note.Specifier.TheVariants.{Named, Default, Namespace}

-- ---- A field whose fixed bytes are whole

pub record Framed (s : List ℕ) (at stop from : ℕ) : Type 0 where
  pub room : at + 3 ≤ stop
  pub fits : stop ≤ length s
  pub fixed : fixed_at s (get_or s at 0) (at + 3) stop ≡ Some from

-- ---- An exported name

-- the name of a 23 at `at`, 'filling none'
unfoldable pub exported_at : List ℕ → ℕ → List ℕ
exported_at s at = cond (eqb (get_or s (at + 10) 0) 1) (atom_at s (at + 11)) (atom_at s (at + 4))

-- ---- Specifiers

-- the outside name whose kind byte stands at `at`
abbrev pub OutsideAt : List ℕ → ℕ → Outside → Type 0
OutsideAt s at Nothing = get_or s at 0 ≡ 0
OutsideAt s at (Name a) = (get_or s at 0 ≡ 1) × (two a.0 ≡ atom_at s (at + 1))
OutsideAt s at (Text a) = (get_or s at 0 ≡ 0 → ⊥) × (get_or s at 0 ≡ 1 → ⊥)

-- the outside name in a 20's fixed bytes
abbrev pub OutsideIs : List ℕ → Outside → Type 0
OutsideIs x Nothing = (eqb (get_or x 6 0) 2 ≡ false) × (outside_name x ≡ name_of x)
OutsideIs x (Name a) = (eqb (get_or x 6 0) 2 ≡ false) × (outside_name x ≡ two a.0)
OutsideIs x (Text a) = eqb (get_or x 6 0) 2 ≡ true

abbrev pub SpecifierIs : Field → Specifier → Type 0
SpecifierIs f (Named id o) = (tag_of f ≡ 0x20) × (id_by id ≡ id_at (fixed_of f) 0) × OutsideIs (fixed_of f) o
SpecifierIs f (Default id) = (tag_of f ≡ 0x21) × (id_by id ≡ fixed_of f)
SpecifierIs f (Namespace id) = (tag_of f ≡ 0x22) × (id_by id ≡ fixed_of f)

-- the field at `at` was read, and is a specifier
pub record Specified (s : List ℕ) (at stop : ℕ) : Type 0 where
  pub read : ReadAt s at stop
  pub specifier : holds_at specifier-set (get_or s at 0) ≡ true

-- an id is noted, and a field given
abbrev pub noting : Imported → Field → ℕ → Act Field
noting m f p = note_id m p >> give f

-- ---- Where the specifiers end

pub record Ends (s : List ℕ) (from end r : ℕ) : Type 0 where
  pub after : from ≤ r
  pub before : r ≤ end
  pub row : Row s from end (rule_of 0x10) → Row s r end (rule_of 0x10)
  pub attributes : Row s from end (rule_of 0x10) → attributes_in (row_at s from end) ≡ row_at s r end
  pub stays : Row s from end (rule_of 0x10) → r ≡ from → specifiers_in (row_at s from end) ≡ none
  pub goes : Row s from end (rule_of 0x10) → from < r → (g : Field) × (gs : Fields) × (specifiers_in (row_at s from end) ≡ more g gs)

-- from `at` on there are attributes alone
pub record Behind (s : List ℕ) (at end : ℕ) : Type 0 where
  pub row : Row s at end (rule_of 0x10)
  pub only : attributes_in (row_at s at end) ≡ row_at s at end

-- the id of a 22
abbrev pub namespace_in : Field → Option (List ℕ)
namespace_in f = cond (has 0x22 f) (Some (fixed_of f)) None

abbrev pub namespace_by : Option Field → Option (List ℕ)
namespace_by None = None
namespace_by (Some f) = namespace_in f

-- ---- What a record gets

-- the record at a place gets specifiers, of which only the namespaces count: those of cs
pub record Gathers (i : ℕ) (cs : Fields) (t t' : List ℕ) : Type 0 where
  pub kept : held records t' ≡ held records t
  pub shows : {y : Env} (s : State) (fs : Fields) → keep (has 0x22) fs ≡ keep (has 0x22) cs → i < length s.collected →
      namespaces_in s.collected + count_namespaces cs ≤ 3641 → Shows y t s → Shows y t' (set_collected (extend_at i fs s.collected) s)

-- a field more, as the first of those that are gathered
pub record Extending (i : ℕ) (f : Field) (t t' : List ℕ) : Type 0 where
  pub kept : held records t' ≡ held records t
  pub next : {t'' : List ℕ} {cs : Fields} → Gathers i cs t' t'' → Gathers i (more f cs) t t''

-- a record with such specifiers is collected, or refused with 8
pub record Gathering (l : Literal) (cs : Fields) (t t' : List ℕ) (r : Result Unit TableFull) : Type 0 where
  pub made : r ≡ Ok tt → {y : Env} (s : State) (fs : Fields) (p : ℕ) → keep (has 0x22) fs ≡ keep (has 0x22) cs →
      namespaces_in s.collected + count_namespaces cs ≤ 3641 → Shows y t s → Valued y l → Did y (collect (record { literal = literal_by y l; specifiers = fs }) p s) t'
  pub full : (e : TableFull) → r ≡ Err e → {y : Env} (s : State) (fs : Fields) (p : ℕ) → Shows y t s → Valued y l → collect (record { literal = literal_by y l; specifiers = fs }) p s ≡ refused 8 p

-- the same as a step that wrote up to p, where x is the literal of the import at `at` of s
pub record Collected (s : List ℕ) (x : List ℕ) (cs : Fields) (at : ℕ) (t t' : List ℕ) (p : ℕ) (r : Step) : Type 0 where
  pub place : (q : ℕ) → r ≡ Ok q → q ≡ p
  pub made : (q : ℕ) → r ≡ Ok q → {y : Env} (u : State) (fs : Fields) → keep (has 0x22) fs ≡ keep (has 0x22) cs →
      namespaces_in u.collected + count_namespaces cs ≤ 3641 → Shows y t u → Reads y s → Did y (collect (record { literal = x; specifiers = fs }) at u) t'
  pub turned : (e : Refusal) → r ≡ Err e → {y : Env} (u : State) (fs : Fields) → Shows y t u → Reads y s →
      collect (record { literal = x; specifiers = fs }) at u ≡ refused (refusal_of e.why) e.place

-- an import that is not external, once its module is known
unfoldable pub import_on : Option ℕ → List ℕ → Fields → ℕ → Act Field
import_on n x cs p = do
  fs ← note_specifiers n (specifiers_in cs) (inside p x)
  collect (record { literal = x; specifiers = fs }) p
  give (field 0x10 x (append fs (with_context n cs)))

-- its bytes, with the specifiers fs
abbrev pub import_with : Option ℕ → List ℕ → Fields → Fields → List ℕ
import_with n x cs fs = encode (field 0x10 x (append fs (with_context n cs)))

-- ---- What is written

-- of every state that the array shows the bytes are written
pub record Writes (f : State → List ℕ) (t out : List ℕ) (o : ℕ) (out' : List ℕ) (p : ℕ) : Type 0 where
  pub is : {x : Env} (s : State) → Shows x t s → Wrote out o (f s) out' p

-- the usages of an id from a place on, as specifiers
abbrev pub usages_from : List ℕ → ℕ → State → List ℕ
usages_from x i s = encodes (specifiers_from (usages_of x (drop i s.usages)))

-- the usage at a place is written, if it is one of the id: then come those from the next place on
pub record Usage (x : List ℕ) (i : ℕ) (t out : List ℕ) (o : ℕ) (out' : List ℕ) (p : ℕ) : Type 0 where
  pub next : {out'' : List ℕ} {q : ℕ} → Writes (usages_from x (i + 1)) t out' p out'' q → Writes (usages_from x i) t out o out'' q

-- the attributes of an import, from where they stand
pub record Attributes (s : List ℕ) (at end : ℕ) (f : Fields → List ℕ) (out : List ℕ) (o : ℕ) (out' : List ℕ) (p : ℕ) : Type 0 where
  pub is : Behind s at end → Wrote out o (f (attributes_of (find_field (has 0x2F) (row_at s at end)))) out' p
