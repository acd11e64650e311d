-- Worked cases of our own, beside the cards, for what the cards do not show.
use Rattle.std.specs.Prelude.{ℕ, ◌≡◌, refl, List, [], ◌∷◌, ◌++◌, replicate, None, Some}
use Rattle.report.specs.Counts.{no_counts}
use Rattle.scope.specs.Modules.{unmarked}
use Rattle.tree.specs.Layout.{two, four}
use Rattle.tree.specs.Tree.{Field, field, Fields, none, more, encode}
use Rattle.resolving_rules.specs.Call.{resolving}
use Rattle.resolving_rules.specs.Computes.{computing}
use Rattle.resolving_rules.specs.Cards.{lending}

-- ./m's literal, the id n in context 2
abbrev literal : List ℕ
literal = two 20 ++ four 1

abbrev id : ℕ → List ℕ
id n = two n ++ four 2

abbrev leaf : ℕ → List ℕ → Field
leaf t x = field t x none

-- a record of ./m in the resolved list, where file 10 is module 0
abbrev heading : ℕ → List ℕ
heading k = k ∷ two 0 ++ two 10 ++ four 2 ++ four 3 ++ literal

-- an outside name, a default and a namespace
abbrev specifiers : Fields
specifiers = more (leaf 0x20 (id 22 ++ 1 ∷ id 23)) (more (leaf 0x21 (id 24)) (more (leaf 0x22 (id 25)) none))

abbrev resolved_as : Fields
resolved_as = more (leaf 0x91 (id 22 ++ 1 ∷ id 23)) (more (leaf 0x91 (id 24 ++ 1 ∷ two 3 ++ four 0)) (more (leaf 0x92 (id 25 ++ 1 ∷ [])) none))

-- every kind of record, ./m forced, in a buffer without a byte to spare
abbrev all_kinds : Field
all_kinds = field 0x02 [] (more (field 0x80 literal specifiers) (more (leaf 0x81 literal) (more (leaf 0x82 literal) (more (leaf 0x83 (two 20)) none))))

abbrev all_listed : Field
all_listed = field 0x03 [] (more (field 0x90 (heading 3) resolved_as) (more (leaf 0x90 (heading 1)) (more (leaf 0x90 (heading 0)) none)))

kinds : resolving (lending (encode all_kinds)) 111 [] ≡ record { refusal = None; modules = unmarked 10 ∷ []; report = no_counts; list = encode all_listed }
unfolding computing
kinds = refl

-- a string name in a record that resolves is 6 at the 20, and the file keeps its number
string-name :
    resolving (lending (encode (field 0x02 [] (more (field 0x80 literal (more (leaf 0x20 (id 22 ++ 2 ∷ two 23)) none)) none)))) 100 [] ≡
    record { refusal = Some (6, 12); modules = unmarked 10 ∷ []; report = no_counts; list = replicate 100 0 }
unfolding computing
string-name = refl

-- one byte too short is 9, and the file keeps its number
too_short :
    resolving (lending (encode (field 0x02 [] (more (leaf 0x82 literal) none)))) 24 [] ≡
    record { refusal = Some (9, 0); modules = unmarked 10 ∷ []; report = no_counts; list = replicate 24 0 }
unfolding computing
too_short = refl

-- records off the grammar are 10, and the scope is as it was
off-grammar : resolving (lending (0x02 ∷ 0 ∷ 3 ∷ 0x40 ∷ 0 ∷ 0 ∷ [])) 10 [] ≡ record { refusal = Some (10, 3); modules = []; report = no_counts; list = replicate 10 0 }
unfolding computing
off-grammar = refl
