-- Records that were read: those from a place on, one with a source, and its parts. Document 01, 'Records and resolving'.
use Rattle.std.specs.Prelude.{ℕ, zero, suc, ◌+◌, ◌-◌, ◌≤◌, ◌≡◌, Bool, false, cond, List, eqb, length, get_or}
use Rattle.std.proofs.Math.Seq.{slice}
use Rattle.tree.specs.declared.grammar.Set.TheVariants.{Collected, Lazy, Dynamic, Forced}
use Rattle.tree.specs.declared.grammar.Slot.TheVariants.{Many}
use Rattle.tree.specs.declared.grammar.Rule.{Rule}
use Rattle.tree.specs.Layout.{two_at}
use Rattle.tree.specs.Grammar.{parts1, parts2, parts3, parts4}
use Rattle.tree.specs.Tree.{field, Fields, size}
use Rattle.tree.specs.Standing.{row_at, Whole, Row}
use Rattle.tree.specs.Rows.{tree_of}
use Rattle.tree.specs.declared.row.Part.{Part}
use Rattle.tree.specs.declared.row.Row.{Row as PartRow}

-- ---- Fields

-- a field
pub record FieldRead (p : Part) : Type 0 where
  pub whole : Whole p.bytes.now p.at p.stop
  pub long : size (tree_of p) ≡ p.stop - p.at

-- the fields from `at` up to end, by some rule; those of a row
pub record FieldsIn (s : List ℕ) (at end : ℕ) : Type 0 where
  pub rule : Rule
  pub row : Row s at end rule

abbrev pub FieldsRead : PartRow → Type 0
FieldsRead r = FieldsIn r.bytes.now r.at r.end

-- ---- Records

-- the records stand behind the tag and the length of the 02
abbrev pub records_in : List ℕ → Fields
records_in s = row_at s 3 (length s)

-- '80* collected, 81* lazy, 82* dynamic (L), 83* forced': what may follow a record of the kind n
abbrev pub left_rule : ℕ → Rule
left_rule zero = parts4 (Many Collected) (Many Lazy) (Many Dynamic) (Many Forced)
left_rule (suc zero) = parts3 (Many Lazy) (Many Dynamic) (Many Forced)
left_rule (suc (suc zero)) = parts2 (Many Dynamic) (Many Forced)
left_rule (suc (suc (suc n))) = parts1 (Many Forced)

-- the records from `at` up to end; those of a row
pub record RecordsIn (s : List ℕ) (at end : ℕ) : Type 0 where
  pub kind : ℕ
  pub row : Row s at end (left_rule kind)

abbrev pub RecordsLeft : PartRow → Type 0
RecordsLeft r = RecordsIn r.bytes.now r.at r.end

-- all of them
pub record RecordsRead (s : List ℕ) : Type 0 where
  pub inside : 3 ≤ length s
  pub records : RecordsIn s 3 (length s)

-- a record with a source: its literal, and its parts
pub record SourceRead (p : Part) : Type 0 where
  pub wide : p.at + 9 ≤ p.stop
  pub tree : tree_of p ≡ field (get_or p.bytes.now p.at 0) (slice (p.at + 3) (p.at + 9) p.bytes.now) (row_at p.bytes.now (p.at + 9) p.stop)
  pub long : size (tree_of p) ≡ p.stop - p.at
  pub parts : FieldsIn p.bytes.now (p.at + 9) p.stop

-- the record at `at` forces a source
unfoldable pub forces_at : List ℕ → ℕ → ℕ → Bool
forces_at s at source = cond (eqb (get_or s at 0) 0x83) (eqb source (two_at s (at + 3))) false
