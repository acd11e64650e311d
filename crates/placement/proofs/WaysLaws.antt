-- How an id stands in one tree, without what stands at the same place of another; alike trees have the same ways.
use Prim.Native.Nat.{ℕ}
use mathlib.Core.Path.{◌≡◌, refl, sym, ap, ap₂, ◌∙◌}
use mathlib.Core.Bool.{Bool, true, false, cond}
use mathlib.Core.List.{List, [], ◌∷◌, ◌++◌, map}
use native.Mathlib.Omega.{arith}
use lib.Dec.{eqb}
use lib.ListN.{take}
use borrow.Author.Tests.{eqb-true}
use Rattle.scope.specs.Id.{require_atom}
use Rattle.tree.specs.Layout.{same, two, id_at, name_of}
use Rattle.tree.specs.Tree.{Field, field, Fields, none, more, tag_of, parts_of}
use Rattle.inputs.specs.Fields.{has}
use Rattle.extraction_rules.specs.Walk.{Parts, unwalked, member, super, assignment, children, parts_for}
use Rattle.extraction_rules.proofs.ListLaws.{same-not, not-same}
use Rattle.extraction_rules.proofs.AlikeLaws.{SameBytes, equal, behind, callee, Alike, AlikeAll, alike-more, alike-none, same-other, alike-tag, first-byte}
use Rattle.placement.specs.Stands.{How, plain, computed, bare, otherwise, ids_in, Standing, matching, head_of, tail_of, by_member, object_ids, standings, standings_all}
use Rattle.placement.specs.Stands.{standings_member, standings_assignment, standings_target, stands}

-- those of the ids that are i
unfoldable pub met : List (How × List ℕ) → List ℕ → List How
met [] i = []
met (h ∷ l) i = cond (same h.1 i) (h.0 ∷ met l i) (met l i)

unfoldable mutual
  pub ways : Field → List ℕ → Bool → List How
  ways (field t x cs) i object =
      met (ids_in t x object) i ++
      (elim (parts_for t) [
        | unwalked ↦ ways_all cs i object
        | member ↦ met (object_ids true cs) i ++ ways_member cs i
        | super ↦ ways_all cs i false
        | assignment ↦ ways_assignment cs i object
        | children ↦ ways_all cs i object
      ])

  pub ways_all : Fields → List ℕ → Bool → List How
  ways_all none i object = []
  ways_all (more f fs) i object = ways f i object ++ ways_all fs i object

  pub ways_member : Fields → List ℕ → List How
  ways_member none i = []
  ways_member (more o ps) i = (elim (has 0x60 o) [ true ↦ [] | false ↦ ways o i true ]) ++ ways_all ps i false

  pub ways_assignment : Fields → List ℕ → Bool → List How
  ways_assignment none i object = []
  ways_assignment (more f fs) i object = ways_target f i ++ ways_all fs i object

  pub ways_target : Field → List ℕ → List How
  ways_target (field t x cs) i = met (ids_in t x false ++ object_ids false cs) i ++ ways_member cs i

-- the ways of the parts of a field
abbrev pub ways_parts : Parts → Fields → List ℕ → Bool → List How
ways_parts v cs i object =
    elim v as (λ _. List How) [
      | unwalked ↦ ways_all cs i object
      | member ↦ met (object_ids true cs) i ++ ways_member cs i
      | super ↦ ways_all cs i false
      | assignment ↦ ways_assignment cs i object
      | children ↦ ways_all cs i object
    ]

-- the ways of a 63's object, where it is a 60 or not
abbrev pub ways_object : Bool → Field → List ℕ → List How
ways_object b o i = elim b as (λ _. List How) [ true ↦ [] | false ↦ ways o i true ]

-- ---- The ways are those of the standings, whatever stands at the same place of the other tree

abbrev pub hows : List Standing → List How
hows l = map (λ s. s.how) l

pub hows-append : (l m : List Standing) → hows (l ++ m) ≡ hows l ++ hows m
hows-append [] m = refl
hows-append (s ∷ l) m = rw (hows-append l m)

pub hows-matching : (l : List (How × List ℕ)) (i : List ℕ) (f g : Field) → hows (matching l i f g) ≡ met l i
unfolding matching met
hows-matching [] i f g = refl
hows-matching (h ∷ l) i f g = go (same h.1 i) (hows-matching l i f g)
  where
    go : (b : Bool) → hows (matching l i f g) ≡ met l i →
        hows (cond b (record { how = h.0; here = f; there = g } ∷ matching l i f g) (matching l i f g)) ≡ cond b (h.0 ∷ met l i) (met l i)
    go true q = rw q
    go false q = q

-- the standings of the parts of a field
abbrev pub standings_parts : Parts → ℕ → List ℕ → Fields → Field → List ℕ → Bool → List Standing
standings_parts v t x cs g i object =
    elim v as (λ _. List Standing) [
      | unwalked ↦ standings_all cs (parts_of g) i object
      | member ↦ matching (object_ids true cs) i (field t x cs) g ++ standings_member cs (parts_of g) i
      | super ↦ standings_all cs (parts_of g) i false
      | assignment ↦ standings_assignment cs (parts_of g) i object
      | children ↦ standings_all cs (parts_of g) i object
    ]

hows-parts : (v : Parts) (t : ℕ) (x : List ℕ) (cs : Fields) (g : Field) (i : List ℕ) (object : Bool) → ((b : Bool) → hows (standings_all cs (parts_of g) i b) ≡ ways_all cs i b) →
    hows (standings_member cs (parts_of g) i) ≡ ways_member cs i → hows (standings_assignment cs (parts_of g) i object) ≡ ways_assignment cs i object →
    hows (standings_parts v t x cs g i object) ≡ ways_parts v cs i object
hows-parts unwalked t x cs g i object all mem asg = all object
hows-parts member t x cs g i object all mem asg =
    hows-append (matching (object_ids true cs) i (field t x cs) g) (standings_member cs (parts_of g) i)
    ∙ ap₂ {C = List How} (λ a b. a ++ b) (hows-matching (object_ids true cs) i (field t x cs) g) mem
hows-parts super t x cs g i object all mem asg = all false
hows-parts assignment t x cs g i object all mem asg = asg
hows-parts children t x cs g i object all mem asg = all object

hows-object : (b : Bool) (o : Field) (gs : Fields) (i : List ℕ) → hows (standings o (head_of gs) i true) ≡ ways o i true →
    hows (elim b as (λ _. List Standing) [ true ↦ [] | false ↦ standings o (head_of gs) i true ]) ≡ ways_object b o i
hows-object true o gs i h = refl
hows-object false o gs i h = h

mutual
  unfolding standings ways

  pub hows-standings : (f g : Field) (i : List ℕ) (object : Bool) → hows (standings f g i object) ≡ ways f i object
  hows-standings (field t x cs) g i object =
      hows-append (matching (ids_in t x object) i (field t x cs) g) (standings_parts (parts_for t) t x cs g i object) ∙
      ap₂ {C = List How} (λ a b. a ++ b) (hows-matching (ids_in t x object) i (field t x cs) g)
      (hows-parts (parts_for t) t x cs g i object (λ b. hows-all cs (parts_of g) i b) (hows-member cs (parts_of g) i) (hows-assignment cs (parts_of g) i object))

  pub hows-all : (fs gs : Fields) (i : List ℕ) (object : Bool) → hows (standings_all fs gs i object) ≡ ways_all fs i object
  hows-all none gs i object = refl
  hows-all (more f fs) gs i object =
      hows-append (standings f (head_of gs) i object) (standings_all fs (tail_of gs) i object) ∙
      ap₂ {C = List How} (λ a b. a ++ b) (hows-standings f (head_of gs) i object) (hows-all fs (tail_of gs) i object)

  hows-member : (fs gs : Fields) (i : List ℕ) → hows (standings_member fs gs i) ≡ ways_member fs i
  hows-member none gs i = refl
  hows-member (more o ps) gs i =
      hows-append (elim (has 0x60 o) as (λ _. List Standing) [ true ↦ [] | false ↦ standings o (head_of gs) i true ]) (standings_all ps (tail_of gs) i false) ∙
      ap₂ {C = List How} (λ a b. a ++ b) (hows-object (has 0x60 o) o gs i (hows-standings o (head_of gs) i true)) (hows-all ps (tail_of gs) i false)

  hows-assignment : (fs gs : Fields) (i : List ℕ) (object : Bool) → hows (standings_assignment fs gs i object) ≡ ways_assignment fs i object
  hows-assignment none gs i object = refl
  hows-assignment (more f fs) gs i object =
      hows-append (standings_target f (head_of gs) i) (standings_all fs (tail_of gs) i object) ∙
      ap₂ {C = List How} (λ a b. a ++ b) (hows-target f (head_of gs) i) (hows-all fs (tail_of gs) i object)

  hows-target : (f g : Field) (i : List ℕ) → hows (standings_target f g i) ≡ ways_target f i
  hows-target (field t x cs) g i =
      hows-append (matching (ids_in t x false ++ object_ids false cs) i (field t x cs) g) (standings_member cs (parts_of g) i) ∙
      ap₂ {C = List How} (λ a b. a ++ b) (hows-matching (ids_in t x false ++ object_ids false cs) i (field t x cs) g) (hows-member cs (parts_of g) i)

pub stands-ways : (items : Fields) (i : List ℕ) → stands items i ≡ ways_all items i false
unfolding stands
stands-ways items i = hows-all items items i false

-- ---- Alike trees

name-in : (x : List ℕ) → name_of (id_at x 0) ≡ name_of x
name-in [] = refl
name-in (a ∷ []) = refl
name-in (a ∷ (b ∷ x)) = refl

module _ (i : List ℕ) (named : same (name_of i) (two require_atom) ≡ false) where
  -- an id named require is another
  pub not-require : (j : List ℕ) → name_of j ≡ two require_atom → same j i ≡ false
  not-require j q = same-not j i (λ e. not-same (name_of i) (two require_atom) named (ap name_of (sym e) ∙ q))

  pub not-met : (h : How) (j : List ℕ) → same j i ≡ false → met ((h, j) ∷ []) i ≡ []
  unfolding met
  not-met h j q = rw q

  original-alike : (x y : List ℕ) → take 7 y ≡ take 7 x → (b : Bool) → ids_in 0x23 y b ≡ ids_in 0x23 x b
  unfolding ids_in
  original-alike x y q b = rw (first-byte y, first-byte x, q)

  ident-alike : (x y : List ℕ) (b : Bool) → name_of x ≡ two require_atom → name_of y ≡ two require_atom → met (ids_in 0x60 y b) i ≡ met (ids_in 0x60 x b) i
  unfolding ids_in
  ident-alike x y b q r =
      not-met (cond b otherwise bare) (id_at y 0) (not-require (id_at y 0) (name-in y ∙ r)) ∙ sym (not-met (cond b otherwise bare) (id_at x 0) (not-require (id_at x 0) (name-in x ∙ q)))

  pub ids-alike : (t : ℕ) (x y : List ℕ) (b : Bool) → SameBytes t x y → met (ids_in t y b) i ≡ met (ids_in t x b) i
  ids-alike t x y b (equal q) = rw q
  ids-alike t x y b (behind k q) = rw k (ap (λ (l : List (How × List ℕ)). met l i) (original-alike x y q b))
  ids-alike t x y b (callee k q n r) = rw k (ident-alike x y b q (ap name_of r))

  -- the object of a 63
  by-alike : (ps qs : Fields) → AlikeAll ps qs → by_member qs ≡ by_member ps
  by-alike none none h = refl
  by-alike none (more q qs) h = alike-none q qs h
  by-alike (more p ps) none h = absurd (let e = h.2 in let z : ◌≡◌ {A = ℕ} 0 1 = cc in omega arith)
  by-alike (more (field k x cs) ps) (more (field m y ds) qs) h =
      let a = (alike-more (field k x cs) ps (field m y ds) qs h).0 in
      rw a.0 (go (eqb k 0x70) refl a.1)
    where
      go : (b : Bool) → eqb k 0x70 ≡ b → SameBytes k x y → cond b (plain y) (cond (eqb k 0x71) computed otherwise) ≡ cond b (plain x) (cond (eqb k 0x71) computed otherwise)
      go true q s =
          let t : k ≡ 0x70 = eqb-true k 0x70 q in
          ap plain (same-other k x y s (λ z. let v : 0x70 ≡ 0x23 = sym t ∙ z in omega arith) (λ z. let v : 0x70 ≡ 0x60 = sym t ∙ z in omega arith))
      go false q s = refl

  object-by : (c : Bool) (h : How) (k : ℕ) (x y : List ℕ) → eqb k 0x60 ≡ c → SameBytes k x y → met (cond c ((h, y) ∷ []) []) i ≡ met (cond c ((h, x) ∷ []) []) i
  object-by true h k x y e (equal q) = rw q
  object-by true h k x y e (behind t q) = absurd (let v : 0x60 ≡ 0x23 = sym (eqb-true k 0x60 e) ∙ t in omega arith)
  object-by true h k x y e (callee t q n r) = not-met h y (not-require y (ap name_of r)) ∙ sym (not-met h x (not-require x q))
  object-by false h k x y e s = refl

  pub object-alike : (ex : Bool) (cs ds : Fields) → AlikeAll cs ds → met (object_ids ex ds) i ≡ met (object_ids ex cs) i
  unfolding object_ids
  object-alike ex none none h = refl
  object-alike ex none (more q qs) h = alike-none q qs h
  object-alike ex (more p ps) none h = absurd (let e = h.2 in let z : ◌≡◌ {A = ℕ} 0 1 = cc in omega arith)
  object-alike ex (more (field k x os) ps) (more (field m y us) qs) h =
      let a = alike-more (field k x os) ps (field m y us) qs h in
      rw (a.0.0, by-alike ps qs a.1) (object-by (eqb k 0x60) (cond ex (by_member ps) otherwise) k x y refl a.0.1)

  pub met-append : (l m : List (How × List ℕ)) → met (l ++ m) i ≡ met l i ++ met m i
  unfolding met
  met-append [] m = refl
  met-append (h ∷ l) m = go (same h.1 i) (met-append l m)
    where
      go : (b : Bool) → met (l ++ m) i ≡ met l i ++ met m i → cond b (h.0 ∷ met (l ++ m) i) (met (l ++ m) i) ≡ cond b (h.0 ∷ met l i) (met l i) ++ met m i
      go true q = rw q
      go false q = q

  parts-alike : (v : Parts) (cs ds : Fields) (object : Bool) → AlikeAll cs ds → ((b : Bool) → ways_all ds i b ≡ ways_all cs i b) → ways_member ds i ≡ ways_member cs i →
      ways_assignment ds i object ≡ ways_assignment cs i object → ways_parts v ds i object ≡ ways_parts v cs i object
  parts-alike unwalked cs ds object h all mem asg = all object
  parts-alike member cs ds object h all mem asg = ap₂ {C = List How} (λ a b. a ++ b) (object-alike true cs ds h) mem
  parts-alike super cs ds object h all mem asg = all false
  parts-alike assignment cs ds object h all mem asg = asg
  parts-alike children cs ds object h all mem asg = all object

  object-ways : (b : Bool) (o q : Field) → ways q i true ≡ ways o i true → ways_object b q i ≡ ways_object b o i
  object-ways true o q h = refl
  object-ways false o q h = h

  lacking : {A : Type 0} (f : Field) (fs : Fields) → AlikeAll (more f fs) none → A
  lacking f fs h = absurd (let e = h.2 in let z : ◌≡◌ {A = ℕ} 0 1 = cc in omega arith)

  mutual
    unfolding ways

    pub ways-alike : (f g : Field) (object : Bool) → Alike f g → ways g i object ≡ ways f i object
    ways-alike (field t x cs) (field k y ds) object h =
        rw h.0
        (ap₂ {C = List How} (λ a b. a ++ b) (ids-alike t x y object h.1)
        (parts-alike (parts_for t) cs ds object h.2 (λ b. ways_all-alike cs ds b h.2) (ways_member-alike cs ds h.2) (ways_assignment-alike cs ds object h.2)))

    pub ways_all-alike : (fs gs : Fields) (object : Bool) → AlikeAll fs gs → ways_all gs i object ≡ ways_all fs i object
    ways_all-alike none none object h = refl
    ways_all-alike none (more g gs) object h = alike-none g gs h
    ways_all-alike (more f fs) none object h = lacking f fs h
    ways_all-alike (more f fs) (more g gs) object h =
        let a = alike-more f fs g gs h in ap₂ {C = List How} (λ a b. a ++ b) (ways-alike f g object a.0) (ways_all-alike fs gs object a.1)

    ways_member-alike : (fs gs : Fields) → AlikeAll fs gs → ways_member gs i ≡ ways_member fs i
    ways_member-alike none none h = refl
    ways_member-alike none (more g gs) h = alike-none g gs h
    ways_member-alike (more f fs) none h = lacking f fs h
    ways_member-alike (more f fs) (more g gs) h =
        let a = alike-more f fs g gs h in
        rw (alike-tag f g a.0) (ap₂ {C = List How} (λ a b. a ++ b) (object-ways (eqb (tag_of f) 0x60) f g (ways-alike f g true a.0)) (ways_all-alike fs gs false a.1))

    ways_assignment-alike : (fs gs : Fields) (object : Bool) → AlikeAll fs gs → ways_assignment gs i object ≡ ways_assignment fs i object
    ways_assignment-alike none none object h = refl
    ways_assignment-alike none (more g gs) object h = alike-none g gs h
    ways_assignment-alike (more f fs) none object h = lacking f fs h
    ways_assignment-alike (more f fs) (more g gs) object h =
        let a = alike-more f fs g gs h in ap₂ {C = List How} (λ a b. a ++ b) (ways_target-alike f g a.0) (ways_all-alike fs gs object a.1)

    ways_target-alike : (f g : Field) → Alike f g → ways_target g i ≡ ways_target f i
    ways_target-alike (field t x cs) (field k y ds) h =
        rw h.0
        (ap₂ {C = List How} (λ a b. a ++ b)
        (met-append (ids_in t y false) (object_ids false ds)
        ∙ ap₂ {C = List How} (λ a b. a ++ b) (ids-alike t x y false h.1) (object-alike false cs ds h.2)
        ∙ sym (met-append (ids_in t x false) (object_ids false cs)))
        (ways_member-alike cs ds h.2))
