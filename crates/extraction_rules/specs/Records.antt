-- The records of an extraction as a tree. Document 01, 'Records and resolving'.
use Rattle.std.specs.Prelude.{ℕ, List, [], ◌∷◌}
use Rattle.tree.specs.Tree.{Field, field, Fields, none, more}
use Rattle.metadata.specs.Metadata.{append}
use Rattle.extraction_rules.specs.State.{Record, State}

-- '80 and 81: L, specifiers.'
unfoldable pub record_fields : ℕ → List Record → Fields
record_fields t [] = none
record_fields t (r ∷ l) = more (field t r.literal r.specifiers) (record_fields t l)

-- '83* forced (A, first forced first ..)'
unfoldable pub forced_fields : List (List ℕ) → Fields
forced_fields [] = none
forced_fields (a ∷ l) = more (field 0x83 a none) (forced_fields l)

-- '02: 80* collected, 81* lazy, 82* dynamic (L), 83* forced': extraction gives no 82
unfoldable pub records_of : State → Field
records_of s = field 0x02 [] (append (record_fields 0x80 s.collected) (append (record_fields 0x81 s.lazy) (forced_fields s.forced)))
