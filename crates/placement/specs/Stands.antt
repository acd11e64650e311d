-- How an id stands in a tree, each time with what stands at the same place of another tree.
-- Document 01, 'Well placed': "stand elsewhere only as ..", and 'Tree': which fields hold an id.
use Rattle.std.specs.Prelude.{ℕ, Bool, true, false, cond, List, [], ◌∷◌, ◌++◌, map, eqb, get_or}
use Rattle.tree.specs.Layout.{same, id_at}
use Rattle.tree.specs.Tree.{Field, field, Fields, none, more, fixed_of, parts_of}
use Rattle.tree.specs.Grammar.{find}
use Rattle.inputs.specs.Fields.{has}
use Rattle.extraction_rules.specs.Walk.{unwalked, member, super, assignment, children, parts_for}

pub data How : Type 0 where
  plain : List ℕ → How  -- 'as object of an expression 63 with 70': the property
  computed : How  -- 'or 71'
  bare : How  -- 'as a 60 with *object* clear'
  original : How  -- 'as original in 23, with a source or without'
  imported : How  -- as the local id of an import
  otherwise : How  -- anywhere else

-- ---- Ids in the fixed bytes of a field

abbrev pub first_id : How → List ℕ → List (How × List ℕ)
first_id h x = (h, id_at x 0) ∷ []

-- 20: 'I, then byte 0, or 1 and I, or 2 and A'
abbrev pub named_ids : List ℕ → List (How × List ℕ)
named_ids x = (imported, id_at x 0) ∷ cond (eqb (get_or x 6 0) 1) ((otherwise, id_at x 7) ∷ []) []

-- 23: 'original (byte 1 I, or 2 A)'; 'A 23's exported name never counts'
abbrev pub original_ids : List ℕ → List (How × List ℕ)
original_ids x = cond (eqb (get_or x 0 0) 1) ((original, id_at x 1) ∷ []) []

-- the ids that a field holds, where *object* is as told
unfoldable pub ids_in : ℕ → List ℕ → Bool → List (How × List ℕ)
ids_in t x object =
    find t
    ((0x20, named_ids x) ∷
    (0x21, first_id imported x) ∷
    (0x22, first_id imported x) ∷
    (0x23, original_ids x) ∷
    (0x24, first_id otherwise x) ∷
    (0x43, first_id otherwise x) ∷
    (0x50, first_id otherwise x) ∷
    (0x54, first_id otherwise x) ∷
    (0x60, first_id (cond object otherwise bare) x) ∷
    (0x77, first_id otherwise x) ∷
    [])
    []

-- ---- The ways that an id stands in a tree

-- one way, the field that it is about, and what stands at its place in the other tree
pub record Standing : Type 0 where
  pub how : How
  pub here : Field
  pub there : Field

-- the ways among these ids of f
unfoldable pub matching : List (How × List ℕ) → List ℕ → Field → Field → List Standing
matching [] i f g = []
matching (h ∷ l) i f g = cond (same h.1 i) (record { how = h.0; here = f; there = g } ∷ matching l i f g) (matching l i f g)

-- the first part and the others of what stands at the same place
abbrev pub head_of : Fields → Field
head_of none = field 0 [] none
head_of (more f fs) = f

abbrev pub tail_of : Fields → Fields
tail_of none = none
tail_of (more f fs) = fs

-- the object of an expression 63 stands by the member behind it
abbrev pub by_member : Fields → How
by_member none = otherwise
by_member (more q qs) = cond (has 0x70 q) (plain (fixed_of q)) (cond (has 0x71 q) computed otherwise)

-- the object of a 63, if it is a 60; an expression, or a target of 66
unfoldable pub object_ids : Bool → Fields → List (How × List ℕ)
object_ids expression none = []
object_ids expression (more o ps) = cond (has 0x60 o) ((cond expression (by_member ps) otherwise, fixed_of o) ∷ []) []

-- of i in a field, *object* as told, and in the field at the same place of another tree; in tree order
unfoldable mutual
  pub standings : Field → Field → List ℕ → Bool → List Standing
  standings (field t x cs) g i object =
      matching (ids_in t x object) i (field t x cs) g ++
      (elim (parts_for t) [
        | unwalked ↦ standings_all cs (parts_of g) i object
        | member ↦ matching (object_ids true cs) i (field t x cs) g ++ standings_member cs (parts_of g) i
        | super ↦ standings_all cs (parts_of g) i false
        | assignment ↦ standings_assignment cs (parts_of g) i object
        | children ↦ standings_all cs (parts_of g) i object
      ])

  pub standings_all : Fields → Fields → List ℕ → Bool → List Standing
  standings_all none gs i object = []
  standings_all (more f fs) gs i object = standings f (head_of gs) i object ++ standings_all fs (tail_of gs) i object

  -- the parts of a 63; an object that is a 60 has been counted with the 63
  pub standings_member : Fields → Fields → List ℕ → List Standing
  standings_member none gs i = []
  standings_member (more o ps) gs i =
      (elim (has 0x60 o) [ true ↦ [] | false ↦ standings o (head_of gs) i true ]) ++ standings_all ps (tail_of gs) i false

  -- the parts of a 66
  pub standings_assignment : Fields → Fields → List ℕ → Bool → List Standing
  standings_assignment none gs i object = []
  standings_assignment (more f fs) gs i object = standings_target f (head_of gs) i ++ standings_all fs (tail_of gs) i object

  -- a target: a 63 that is no expression, or a 50
  pub standings_target : Field → Field → List ℕ → List Standing
  standings_target (field t x cs) g i =
      matching (ids_in t x false ++ object_ids false cs) i (field t x cs) g ++ standings_member cs (parts_of g) i

-- how i stands in these items
unfoldable pub stands : Fields → List ℕ → List How
stands items i = map (λ s. s.how) (standings_all items items i false)

-- ---- Uses

-- 'each of these being a use'
abbrev pub is_use : How → Bool
is_use (plain p) = true
is_use computed = true
is_use bare = true
is_use original = true
is_use imported = false
is_use otherwise = false

-- 'a plain property is a use as object of an expression 63 with 70'
abbrev pub is_plain : How → Bool
is_plain (plain p) = true
is_plain computed = false
is_plain bare = false
is_plain original = false
is_plain imported = false
is_plain otherwise = false

-- anywhere but in an import's declaration or a use
abbrev pub is_misplaced : How → Bool
is_misplaced (plain p) = false
is_misplaced computed = false
is_misplaced bare = false
is_misplaced original = false
is_misplaced imported = false
is_misplaced otherwise = true

-- 'The properties stand in tree order, repeats too'
unfoldable pub properties : List How → List (List ℕ)
properties [] = []
properties (plain p ∷ l) = p ∷ properties l
properties (computed ∷ l) = properties l
properties (bare ∷ l) = properties l
properties (original ∷ l) = properties l
properties (imported ∷ l) = properties l
properties (otherwise ∷ l) = properties l
