-- The twelve cards of document 01: one list, and one sentence about the rules.
-- The cards' trees and results stand with the rules they speak of, in the crates extraction_rules and resolving_rules.
use Rattle.std.specs.Prelude.{Option, None, Some}
use Rattle.std.specs.Prelude.{ℕ, ◌≡◌, refl, false, List, [], ◌∷◌, map}
use Rattle.tree.specs.declared.grammar.Set.TheVariants.{Module}
use Rattle.tree.specs.declared.read.Why.TheVariants.{Deep}
use Rattle.tree.specs.Tree.{field, Fields, none, more, encode}
use Rattle.tree.specs.Read.{Reading, fine, refused, read}
use Rattle.metadata.specs.Decimal.{number_from, number, unsigned, parsed}
use Rattle.metadata.specs.Metadata.{Metadata, starts_with, context_in, injected_attribute, told, decode_from, decode, context_key, attribute}
use Rattle.metadata.specs.Calls.{lent, decode_call}
use Rattle.extraction_rules.specs.Call.{Left, extraction}
use Rattle.extraction_rules.specs.Build.{Case, rooms}
use Rattle.extraction_rules.specs.Cards.{card1, card2, card3, card4, card5, card6, card7, card7-without, card8, card9, card11, card11-deeper, deep, listing}
use Rattle.extraction_rules.specs.Computes.{computing}
use Rattle.resolving_rules.specs.Call.{Left as LeftList, resolving}
use Rattle.resolving_rules.specs.Cards.{Case as ListCase, card2 as resolved2, card12, listing as listing-resolved}
use Rattle.resolving_rules.specs.Computes.{computing as computing-resolved}

-- what a card asks: an extraction in a fresh scope, a resolving, the metadata in a lent 2F, the reading of a module
pub data Question : Type 0 where
  extract : Case → Question
  resolve : ListCase → Question
  decoding : List ℕ → Reading Metadata → Question
  reading-module : List ℕ → Reading Fields → Question

pub data Answer : Type 0 where
  extracted : Left → Answer
  resolved : LeftList → Answer
  decoded : Reading Metadata → Answer
  read-module : Reading Fields → Answer

-- what the rules answer, and what the card says
unfoldable pub given : Question → Answer
given (extract c) = extracted (extraction c.lent rooms [])
given (resolve c) = resolved (resolving c.lent 250 c.modules)
given (decoding s r) = decoded (decode_call s)
given (reading-module s r) = read-module (read Module s)

unfoldable pub said : Question → Answer
said (extract c) = extracted c.left
said (resolve c) = resolved c.left
said (decoding s r) = decoded r
said (reading-module s r) = read-module r

-- a 2F with the text as export context
abbrev context : List ℕ → List ℕ
context text = encode (field 0x2F [] (more (attribute context_key text) none))

abbrev gives : Option ℕ → Reading Metadata
gives c = fine (record { injected = false; context = c })

pub cards : List (List Question)
cards =
    (extract card1 ∷ []) ∷
    (extract card2 ∷ resolve resolved2 ∷ []) ∷
    (extract card3 ∷ []) ∷
    (extract card4 ∷ []) ∷
    (extract card5 ∷ []) ∷
    (extract card6 ∷ []) ∷
    (extract card7 ∷ extract card7-without ∷ []) ∷
    (extract card8 ∷ []) ∷
    (extract card9 ∷ []) ∷
    -- "+7" gives 7; "4294967296" none
    (decoding (context (43 ∷ 55 ∷ [])) (gives (Some 7)) ∷ decoding (context (52 ∷ 50 ∷ 57 ∷ 52 ∷ 57 ∷ 54 ∷ 55 ∷ 50 ∷ 57 ∷ 54 ∷ [])) (gives None) ∷ []) ∷
    -- Depth 64 passes, 65 is 4
    (reading-module (encode (deep 62)) (fine (more (deep 62) none)) ∷ reading-module (encode (deep 63)) (refused Deep 192) ∷ extract card11 ∷ extract card11-deeper ∷ []) ∷
    (resolve card12 ∷ []) ∷
    []

-- the rules answer every question of every card as the card says
pub cards-hold : map (map given) cards ≡ map (map said) cards
unfolding computing computing-resolved listing listing-resolved given said cards number_from number unsigned parsed starts_with context_in injected_attribute told decode_from decode lent decode_call
cards-hold = refl
