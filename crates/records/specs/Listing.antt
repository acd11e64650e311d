-- How the records find their imports: a list has where these stand in the trees after both passes, and chains through them. A model of the
-- code's own: the contract of `put_records` does not speak of it.
use Rattle.std.specs.Prelude.{ℕ, ◌+◌, ◌%◌, ◌≤◌, ◌<◌, ◌≡◌, Bool, cond, Option, None, Some, List, [], ◌∷◌, ◌++◌, map, leb, eqb, length, get_or, drop}
use Rattle.tree.specs.Layout.{literal_value}
use Rattle.tree.specs.Tree.{encodes}
use Rattle.tree.specs.Standing.{row_at}
use Rattle.records.specs.declared.places.Pair.{Pair}
use Rattle.records.specs.declared.places.Import.{Import}
use Rattle.records.specs.declared.places.Imports.{Imports}
use Rattle.records.specs.declared.places.Chain.{Chain}
use Rattle.records.specs.Model.{gathered_of, gathered, taken_of, taken}
use Rattle.records.specs.Writes.{RowRead, sieve, items_in, item_at, ItemRead}

-- ---- A place

-- of an import in the tree after the first pass, and of what it became in that after the second
abbrev pub Place : Type 0
Place = ℕ × ℕ

abbrev pub work_of : Place → ℕ
work_of p = p.0

abbrev pub out_of : Place → ℕ
out_of p = p.1

-- what is written of it for the source v: its specifiers, or nothing
unfoldable pub import_bytes : Bool → List ℕ → List ℕ → Place → List ℕ
import_bytes b v work p = encodes (sieve b (gathered_of v (item_at work (work_of p))))

-- and for the literal l: what the second pass made of it
unfoldable pub pair_bytes : Bool → List ℕ → List ℕ → List ℕ → Place → List ℕ
pair_bytes b l work out p = encodes (sieve b (taken_of l (item_at work (work_of p)) (item_at out (out_of p))))

-- ---- A list of places

-- what is written of each, in order
unfoldable pub spread : (Place → List ℕ) → List Place → List ℕ
spread f [] = []
spread f (p ∷ ps) = f p ++ spread f ps

-- all are read
abbrev pub EachRead : (Place → ℕ) → List ℕ → List Place → Type 0
EachRead f s [] = Unit
EachRead f s (p ∷ ps) = ItemRead s (f p) × EachRead f s ps

-- the places ps are those of the imports in front of `at`
pub record Listed (work : List ℕ) (ps : List Place) (at : ℕ) : Type 0 where
  pub is : (b : Bool) (v : List ℕ) →
      encodes (sieve b (gathered v (items_in work))) ≡ spread (import_bytes b v work) ps ++ encodes (sieve b (gathered v (row_at work at (length work))))
  pub read : RowRead work 3 (length work) → EachRead work_of work ps × RowRead work at (length work)

-- and each pairs off with the item of the other tree that it became, in front of `made`
pub record Paired (work out : List ℕ) (ps : List Place) (at made : ℕ) : Type 0 where
  pub is : (b : Bool) (l : List ℕ) →
      encodes (sieve b (taken l (items_in work) (items_in out))) ≡ spread (pair_bytes b l work out) ps ++ encodes
      (sieve b (taken l (row_at work at (length work)) (row_at out made (length out))))
  pub read : RowRead out 3 (length out) → EachRead out_of out ps × RowRead out made (length out)

-- ---- Chains

-- the chain of a place: by the source of the import that stands there
unfoldable pub chain_at : List ℕ → ℕ → ℕ
chain_at work at = cond (leb (at + 9) (length work)) (literal_value work (at + 3) % 2048) 0

abbrev pub chain_in : List ℕ → Place → ℕ
chain_in work p = chain_at work (work_of p)

-- a list from the first place of a chain on
unfoldable pub chained : (Place → ℕ) → ℕ → List Place → List Place
chained g k [] = []
chained g k (p ∷ ps) = cond (eqb (g p) k) (p ∷ ps) (chained g k ps)

-- ---- The list

-- where none is listed
abbrev pub no_import : Import
no_import = record { at = 0; made = 0; next = 0 }

-- the place of an import, of the one with a number, and of all, in order
abbrev pub place_of : Import → Place
place_of i = (i.at, i.made)

abbrev pub place_in : List Import → ℕ → Place
place_in l i = place_of (get_or l i no_import)

abbrev pub places_in : List Import → List Place
places_in l = map place_of l

-- the next one of its chain
abbrev pub next_in : List Import → ℕ → ℕ
next_in l i = (get_or l i no_import).next

-- no chain has begun
pub record Unchained (first : List ℕ) : Type 0 where
  pub cells : length first ≡ 2048
  pub ends : (k : ℕ) → k < 2048 → get_or first k 0 ≡ 3641

-- the listed imports are those in front of `at` and `made`
abbrev pub ListedBoth : List ℕ → List ℕ → List Import → ℕ → ℕ → Type 0
ListedBoth work out l at made = Listed work (places_in l) at × Paired work out (places_in l) at made

-- and they are at most 3,641, and both places lie behind a module's head, in trees of at most 65,536 bytes
pub record Lists (work out : List ℕ) (l : List Import) (at made : ℕ) : Type 0 where
  pub few : length l ≤ 3641
  pub low : (3 ≤ at) × (at ≤ 65536)
  pub low_out : (3 ≤ made) × (made ≤ 65536)
  pub listed : Listed work (places_in l) at
  pub paired : Paired work out (places_in l) at made

-- the imports from i on are chained: where each chain starts, and where the one of an import goes on
pub record Linked (work first : List ℕ) (l : List Import) (i : ℕ) : Type 0 where
  pub cells : length first ≡ 2048
  pub starts : (k : ℕ) → k < 2048 → drop (get_or first k 0) (places_in l) ≡ chained (chain_in work) k (drop i (places_in l))
  pub goes : (j : ℕ) → i ≤ j → j < length l → drop (next_in l j) (places_in l) ≡ chained (chain_in work) (chain_in work (place_in l j)) (drop (j + 1) (places_in l))

-- ---- With the first of each chain, and where the items behind start

abbrev pub listed_in : Imports → List Import
listed_in a = a.listed.now

abbrev pub imports_in : Imports → List Place
imports_in a = places_in (listed_in a)

abbrev pub behind_in : Imports → ℕ
behind_in a = a.behind.at

abbrev pub behind_out : Imports → ℕ
behind_out a = a.behind.made

-- the imports of a tree are listed and chained
pub record Charted (work : List ℕ) (a : Imports) : Type 0 where
  pub listed : Listed work (imports_in a) (behind_in a)
  pub linked : Linked work a.first.now (listed_in a) 0

-- and paired off with what they became
pub record ChartedBoth (work out : List ℕ) (a : Imports) : Type 0 where
  pub charted : Charted work a
  pub paired : Paired work out (imports_in a) (behind_in a) (behind_out a)

-- ---- Along a chain

-- each import leads to a later one
abbrev pub LeadsOn : List Import → Type 0
LeadsOn l = (i : ℕ) → i < length l → i < next_in l i

-- a chain gave r and goes on as d: an import and the next one, or none
abbrev pub GivesNext : Chain → Option Pair → Chain → Type 0
GivesNext c None d = (length c.listed.now ≤ c.next) × (d.listed.now ≡ c.listed.now)
GivesNext c (Some p) d =
    (c.next < length c.listed.now) × ((p.at, p.made) ≡ place_in c.listed.now c.next) × (d.next ≡ next_in c.listed.now c.next)
    × (d.listed.now ≡ c.listed.now)
