-- The cards of document 01 that ask for resolving, each with what the card says it gives, and one sentence: the rules give that.
use Rattle.std.specs.Prelude.{ℕ, ◌≡◌, refl, List, [], ◌∷◌, ◌++◌, map, replicate, None, Some}
use Rattle.modes.specs.Bits.{modes_of}
use Rattle.report.specs.Counts.{no_counts}
use Rattle.scope.specs.Modules.{Modules, unmarked}
use Rattle.tree.specs.Layout.{two, four}
use Rattle.tree.specs.Tree.{field, none, more, encode}
use Rattle.resolving_rules.specs.Call.{Lent, Left, resolving}
use Rattle.resolving_rules.specs.Computes.{computing}

-- a case: what is lent, with the modules of the scope, and what the call leaves in a buffer of 250 bytes
pub record Case : Type 0 where
  pub lent : Lent
  pub modules : Modules
  pub left : Left

-- ./m=20 to file 10
abbrev pub lending : List ℕ → Lent
lending r = record { modes = modes_of 0; table = two 20 ++ two 10; records = r }

records2 : List ℕ
records2 =
    0x02 ∷ 0x00 ∷ 0x13 ∷
    0x80 ∷ 0x00 ∷ 0x10 ∷ 0x00 ∷ 0x14 ∷ 0x00 ∷ 0x00 ∷ 0x00 ∷ 0x01 ∷
    0x20 ∷ 0x00 ∷ 0x07 ∷ 0x00 ∷ 0x16 ∷ 0x00 ∷ 0x00 ∷ 0x00 ∷ 0x05 ∷ 0x00 ∷ []

list2 : List ℕ
list2 =
    0x03 ∷ 0x00 ∷ 0x20 ∷
    0x90 ∷ 0x00 ∷ 0x1D ∷ 0x03 ∷ 0x00 ∷ 0x01 ∷ 0x00 ∷ 0x0A ∷ 0x00 ∷ 0x00 ∷ 0x00 ∷ 0x04 ∷ 0x00 ∷ 0x00 ∷ 0x00 ∷ 0x05 ∷ 0x00 ∷ 0x14 ∷ 0x00 ∷ 0x00 ∷ 0x00 ∷
    0x01 ∷
    0x91 ∷ 0x00 ∷ 0x07 ∷ 0x00 ∷ 0x16 ∷ 0x00 ∷ 0x00 ∷ 0x00 ∷ 0x05 ∷ 0x00 ∷ []

-- after card 2's extraction: own file 9 is module 0, file 10 is module 1
pub card2 : Case
card2 = record {
  lent = lending records2;
  modules = unmarked 9 ∷ unmarked 10 ∷ [];
  left = record { refusal = None; modules = unmarked 9 ∷ unmarked 10 ∷ []; report = no_counts; list = list2 ++ replicate 215 0 };
}

-- First source unresolved, second not: 11, the second keeps its number
pub card12 : Case
card12 = record {
  lent = lending (encode (field 0x02 [] (more (field 0x80 (two 30 ++ four 1) none) (more (field 0x80 (two 20 ++ four 2) none) none))));
  modules = [];
  left = record { refusal = Some (11, 3); modules = unmarked 10 ∷ []; report = no_counts; list = replicate 250 0 };
}

pub cards : List Case
cards = card2 ∷ card12 ∷ []

-- `cards`, with what they are made of: a proof about them says `unfolding listing`
unfoldable pub listing : List Case
unfolding cards card2 card12 records2 list2
listing = cards

-- each leaves what its card says
pub cards-hold : map (λ (c : Case). resolving c.lent 250 c.modules) cards ≡ map (λ (c : Case). c.left) cards
unfolding computing listing
cards-hold = refl
