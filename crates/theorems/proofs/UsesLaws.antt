-- What both passes leave of an item that is no import: each use of the namespace is the property in the source's export context, or
-- as it was.
use Prim.Native.Nat.{ℕ}
use mathlib.Core.Path.{◌≡◌, refl, sym, ap, ap₂, subst, ◌∙◌}
use mathlib.Core.Logic.{◌⊎◌, inl, inr}
use mathlib.Core.Bool.{Bool, true, false, cond, true≢false}
use mathlib.Core.List.{List, [], ◌∷◌, ◌++◌}
use native.Mathlib.Omega.{arith}
use lib.Dec.{eqb}
use lib.ListN.{take, get_or}
use borrow.Author.Tests.{eqb-true, ne_eqb}
use Rattle.scope.specs.Id.{require_atom}
use Rattle.tree.specs.Layout.{same, two, id_at, name_of}
use Rattle.tree.specs.Tree.{Field, field, Fields, none, more, tag_of, fixed_of, parts_of}
use Rattle.tree.proofs.LayoutLaws.{same-equal}
use Rattle.inputs.specs.Lists.{filter}
use Rattle.inputs.specs.Fields.{has}
use Rattle.extraction_rules.specs.Walk.{Parts, unwalked, member, super, assignment, children, parts_for}
use Rattle.extraction_rules.proofs.ListLaws.{not-same, All}
use Rattle.extraction_rules.proofs.TagLaws.{parts-member, parts-assignment}
use Rattle.extraction_rules.proofs.AlikeLaws.{Two, RegularAt, Regular, RegularAll, SameBytes, equal, behind, callee, same-other}
use Rattle.placement.specs.Stands.{How, plain, computed, bare, original, ids_in, by_member, object_ids, Standing, matching, standings}
use Rattle.placement.specs.Stands.{standings_all, standings_member, standings_assignment, standings_target, is_use, is_plain}
use Rattle.placement.specs.Placed.{all}
use Rattle.placement.proofs.WaysLaws.{met, ways, ways_all, ways_member, ways_assignment, ways_target, ways_parts, ways_object, standings_parts}
use Rattle.placement.proofs.HowLaws.{Unused, unused-append, ids-unused, object-unused}
use Rattle.theorems.specs.Demand.{counted, Unchanged, Rewritten, Every}
use Rattle.theorems.proofs.OutFieldLaws.{Turned, Out, OutAll, out-more, out-lacking, Fine, fine-append}

-- ---- Every use

pub every-append : (P : Standing → Type 0) (l m : List Standing) → Every P l → Every P m → Every P (l ++ m)
every-append P [] m h k = k
every-append P (s ∷ l) m h k = (h.0, every-append P l m h.1 k)

pub every-filter : (P : Standing → Type 0) (l : List Standing) → Every (λ s. is_use s.how ≡ true → P s) l → Every P (filter (λ s. is_use s.how) l)
unfolding filter
every-filter P [] h = tt
every-filter P (s ∷ l) h = go (is_use s.how) h.0 (every-filter P l h.1)
  where
    go : (b : Bool) → (b ≡ true → P s) → Every P (filter (λ s. is_use s.how) l) → Every P (cond b (s ∷ filter (λ s. is_use s.how) l) (filter (λ s. is_use s.how) l))
    go true k r = (k refl, r)
    go false k r = r

-- rewritten where the import is taken apart, and unchanged where it is kept
abbrev pub Good : Bool → List ℕ → Standing → Type 0
Good true c s = Rewritten c s
Good false c s = Unchanged s

good-kept : (b : Bool) (c : List ℕ) (s : Standing) → (b ≡ true → ⊥) → Unchanged s → Good b c s
good-kept true c s d h = absurd (d refl)
good-kept false c s d h = h

good-taken : (b : Bool) (c : List ℕ) (s : Standing) → b ≡ true → Rewritten c s → Good b c s
good-taken true c s d h = h
good-taken false c s d h = absurd (true≢false (sym d))

module _ (taken : Bool) (i c : List ℕ) (own : ℕ) (named : same (name_of i) (two require_atom) ≡ false) where
  abbrev O : Field → Field → Type 0
  O f g = Out taken i c own f g

  abbrev OA : Fields → Fields → Type 0
  OA fs gs = OutAll taken i c own fs gs

  abbrev pub Uses : List Standing → Type 0
  Uses l = Every (λ s. is_use s.how ≡ true → Good taken c s) l

  uses-append : (l m : List Standing) → Uses l → Uses m → Uses (l ++ m)
  uses-append l m h k = every-append (λ s. is_use s.how ≡ true → Good taken c s) l m h k

  abbrev UseOf : Field → Field → How × List ℕ → Type 0
  UseOf f g w = same w.1 i ≡ true → is_use w.0 ≡ true → Good taken c (record { how = w.0; here = f; there = g })

  matching-uses : (l : List (How × List ℕ)) (f g : Field) → All (UseOf f g) l → Uses (matching l i f g)
  unfolding matching
  matching-uses [] f g h = tt
  matching-uses (w ∷ l) f g h = go (same w.1 i) refl (matching-uses l f g h.1)
    where
      go : (b : Bool) → same w.1 i ≡ b → Uses (matching l i f g) → Uses (cond b (record { how = w.0; here = f; there = g } ∷ matching l i f g) (matching l i f g))
      go true q r = (h.0 q, r)
      go false q r = r

  unused-uses : (l : List (How × List ℕ)) (f g : Field) → Unused l → All (UseOf f g) l
  unused-uses [] f g h = tt
  unused-uses (w ∷ l) f g h = ((λ _ u. absurd (true≢false (sym u ∙ h.0))), unused-uses l f g h.1)

  -- ---- A field's own ids

  -- a use that is not plain: the import is kept
  kept : (h : How) (j : List ℕ) → is_use h ≡ true → is_plain h ≡ false → same j i ≡ true → Fine taken (met ((h, j) ∷ []) i) → taken ≡ true → ⊥
  unfolding met filter all
  kept h j u p q fine t = true≢false (sym (fine.0 t) ∙ rw (q, u, p))

  -- a field that stays
  abbrev Stays : ℕ → List ℕ → Fields → Field → Type 0
  Stays t x cs g = (tag_of g ≡ t) × SameBytes t x (fixed_of g) × OA cs (parts_of g)

  parts-none : (cs ds : Fields) → OA cs ds → cs ≡ none → ds ≡ none
  parts-none none ds h q = h
  parts-none (more f fs) ds h q = absurd (let z : ◌≡◌ {A = ℕ} 0 1 = cc in omega arith)

  own-bytes : (t : ℕ) (x y : List ℕ) → SameBytes t x y → t ≡ 0x60 → x ≡ i → y ≡ x
  own-bytes t x y (equal q) k e = q
  own-bytes t x y (behind j q) k e = absurd (let v : ◌≡◌ {A = ℕ} 0x23 0x60 = sym j ∙ k in omega arith)
  own-bytes t x y (callee j q n r) k e = absurd (not-same (name_of i) (two require_atom) named (ap name_of (sym e) ∙ q))

  ident-same : (t : ℕ) (x : List ℕ) (cs : Fields) (g : Field) → Stays t x cs g → t ≡ 0x60 → cs ≡ none → x ≡ i → g ≡ field t x cs
  ident-same t x cs (field k y ds) h q e m =
      let p : k ≡ t = h.0 in
      let b : y ≡ x = own-bytes t x y h.1 q m in
      let d : ds ≡ cs = parts-none cs ds h.2 e ∙ sym e in
      cc

  original-bytes : (t : ℕ) (x y : List ℕ) → SameBytes t x y → t ≡ 0x23 → take 7 y ≡ take 7 x
  original-bytes t x y (equal q) k = ap (take 7) q
  original-bytes t x y (behind j q) k = q
  original-bytes t x y (callee j q n r) k = absurd (let v : ◌≡◌ {A = ℕ} 0x60 0x23 = sym j ∙ k in omega arith)

  ident-ids : (t : ℕ) (x : List ℕ) → t ≡ 0x60 → ids_in t x false ≡ (bare, id_at x 0) ∷ []
  unfolding ids_in
  ident-ids t x q = rw q

  export-ids : (t : ℕ) (x : List ℕ) (object : Bool) → t ≡ 0x23 → ids_in t x object ≡ cond (eqb (get_or x 0 0) 1) ((original, id_at x 1) ∷ []) []
  unfolding ids_in
  export-ids t x object q = rw q

  bare-uses : (t : ℕ) (x : List ℕ) (cs : Fields) (g : Field) → t ≡ 0x60 → RegularAt t x cs → Fine taken (met (ids_in t x false) i) → Stays t x cs g →
      All (UseOf (field t x cs) g) (ids_in t x false)
  bare-uses t x cs g q w fine h =
      subst (λ (l : List (How × List ℕ)). All (UseOf (field t x cs) g) l) (sym (ident-ids t x q)) (
        (λ e u. good-kept taken c (record { how = bare; here = field t x cs; there = g })
            (kept bare (id_at x 0) refl refl e (subst (λ (l : List (How × List ℕ)). Fine taken (met l i)) (ident-ids t x q) fine))
            (ident-same t x cs g h q (w.ident_bare q) (sym (w.ident_whole q) ∙ same-equal (id_at x 0) i e))),
        tt,
      )

  original-uses : (t : ℕ) (x : List ℕ) (cs : Fields) (g : Field) (object : Bool) → t ≡ 0x23 → Fine taken (met (ids_in t x object) i) → Stays t x cs g →
      All (UseOf (field t x cs) g) (ids_in t x object)
  original-uses t x cs g object q fine h =
      subst (λ (l : List (How × List ℕ)). All (UseOf (field t x cs) g) l) (sym (export-ids t x object q))
      (go (eqb (get_or x 0 0) 1) (subst (λ (l : List (How × List ℕ)). Fine taken (met l i)) (export-ids t x object q) fine))
    where
      go : (b : Bool) → Fine taken (met (cond b ((original, id_at x 1) ∷ []) []) i) → All (UseOf (field t x cs) g) (cond b ((original, id_at x 1) ∷ []) [])
      go true f = (
        (λ e u. good-kept taken c (record { how = original; here = field t x cs; there = g }) (kept original (id_at x 1) refl refl e f)
            (ap₂ {C = Field} (λ k y. field k y none) h.0 (original-bytes t x (fixed_of g) h.1 q))),
        tt,
      )
      go false f = tt

  not-tag : (t k : ℕ) → (b : Bool) → eqb t k ≡ b → (t ≡ k) ⊎ (eqb t k ≡ false)
  not-tag t k true q = inl (eqb-true t k q)
  not-tag t k false q = inr q

  own-uses : (t : ℕ) (x : List ℕ) (cs : Fields) (g : Field) (object : Bool) → RegularAt t x cs → Fine taken (met (ids_in t x object) i) →
      Stays t x cs g → Uses (matching (ids_in t x object) i (field t x cs) g)
  own-uses t x cs g object w fine h = matching-uses (ids_in t x object) (field t x cs) g (go (not-tag t 0x23 (eqb t 0x23) refl) (not-tag t 0x60 (eqb t 0x60) refl) object fine)
    where
      go : (t ≡ 0x23) ⊎ (eqb t 0x23 ≡ false) → (t ≡ 0x60) ⊎ (eqb t 0x60 ≡ false) → (b : Bool) → Fine taken (met (ids_in t x b) i) → All (UseOf (field t x cs) g) (ids_in t x b)
      go (inl q) k b f = original-uses t x cs g b q f h
      go (inr q) (inl k) false f = bare-uses t x cs g k w f h
      go (inr q) (inl k) true f = unused-uses (ids_in t x true) (field t x cs) g (ids-unused t x true q (λ _. refl))
      go (inr q) (inr k) b f = unused-uses (ids_in t x b) (field t x cs) g (ids-unused t x b q (λ z. absurd (true≢false (sym z ∙ k))))

  -- ---- A 63

  -- what becomes of the object i and of a member
  object-same : (o w : Field) → O o w → tag_of o ≡ 0x60 → fixed_of o ≡ i → Regular o → w ≡ o
  object-same (field t x os) w (inr h) q e s = absurd (let v : ◌≡◌ {A = ℕ} 0x60 0x63 = sym q ∙ h.tag in omega arith)
  object-same (field t x os) w (inl h) q e s = ident-same t x os w (h.0, h.1, h.3) q (s.0.ident_bare q) e

  member-same : (q v : Field) → O q v → (tag_of q ≡ 0x63 → ⊥) → (tag_of q ≡ 0x23 → ⊥) → (tag_of q ≡ 0x60 → ⊥) → (tag_of v ≡ tag_of q)
      × (fixed_of v ≡ fixed_of q) × OA (parts_of q) (parts_of v)
  member-same (field t x qs) v (inr h) d k m = absurd (d h.tag)
  member-same (field t x qs) v (inl h) d k m = (h.0, same-other t x (fixed_of v) h.1 k m, h.3)

  name-same : (q v : Field) → O q v → tag_of q ≡ 0x70 → Regular q → v ≡ q
  name-same (field t x qs) (field k y vs) h q s =
      let m =
      member-same (field t x qs) (field k y vs) h (λ z. let v : ◌≡◌ {A = ℕ} 0x70 0x63 = sym q ∙ z in omega arith)
      (λ z. let v : ◌≡◌ {A = ℕ} 0x70 0x23 = sym q ∙ z in omega arith) (λ z. let v : ◌≡◌ {A = ℕ} 0x70 0x60 = sym q ∙ z in omega arith) in
      let p : k ≡ t = m.0 in
      let b : y ≡ x = m.1 in
      let d : vs ≡ qs = parts-none qs vs m.2 (s.0.name_bare q) ∙ sym (s.0.name_bare q) in
      cc

  field-of : (g : Field) → g ≡ field (tag_of g) (fixed_of g) (parts_of g)
  field-of (field t x cs) = refl

  -- a 63 that stays, with what became of its parts
  member-field : (x : List ℕ) (o q g : Field) → Stays 0x63 x (more o (more q none)) g → (w v : Field) × (g ≡ field 0x63 x (more w (more v none))) × O o w × O q v
  member-field x o q (field k y ds) h =
      let p : k ≡ 0x63 = h.0 in
      let b : y ≡ x = same-other 0x63 x y h.1 (λ z. omega arith) (λ z. omega arith) in
      let d : ds ≡ more h.2.0 (more h.2.4.0 none) = h.2.2 ∙ ap (more h.2.0) (h.2.4.2 ∙ ap (more h.2.4.0) h.2.4.4) in
      (h.2.0, h.2.4.0, cc, h.2.3, h.2.4.3)

  -- the object i of a 63 with q
  plain-uses : (x : List ℕ) (o q g : Field) → tag_of q ≡ 0x70 → Regular o → Regular q → O (field 0x63 x (more o (more q none))) g → tag_of o ≡ 0x60 → fixed_of o ≡ i →
      Good taken c (record { how = plain (fixed_of q); here = field 0x63 x (more o (more q none)); there = g })
  plain-uses x o q g k so sq (inl h) to e =
      let m = member-field x o q g (h.0, h.1, h.3) in
      good-kept taken c (record { how = plain (fixed_of q); here = field 0x63 x (more o (more q none)); there = g }) (λ t. true≢false (sym t ∙ h.2 o q refl refl to k e))
      (m.2 ∙ ap₂ {C = Field} (λ w v. field 0x63 x (more w (more v none))) (object-same o m.0 m.3 to e so) (name-same q m.1 m.4 k sq))
  plain-uses x o q g k so sq (inr h) to e =
      let eo : h.object ≡ o = cc h.parts in
      let eq : h.member ≡ q = cc h.parts in
      let m = h.mine (ap fixed_of eo ∙ e) in
      let b : fixed_of g ≡ fixed_of q ++ c = m.1 ∙ ap (λ (y : Field). fixed_of y ++ c) eq in
      good-taken taken c (record { how = plain (fixed_of q); here = field 0x63 x (more o (more q none)); there = g }) m.0
      (field-of g ∙ rw (h.out, b, h.bare))

  computed-uses : (x : List ℕ) (o q g : Field) → tag_of q ≡ 0x71 → Regular o → Fine taken (met ((computed, fixed_of o) ∷ []) i) →
      O (field 0x63 x (more o (more q none))) g → tag_of o ≡ 0x60 → same (fixed_of o) i ≡ true →
      Good taken c (record { how = computed; here = field 0x63 x (more o (more q none)); there = g })
  computed-uses x o q g k so fine (inr h) to e =
      let eq : h.member ≡ q = cc h.parts in
      absurd (let v : ◌≡◌ {A = ℕ} 0x71 0x70 = sym k ∙ ap tag_of (sym eq) ∙ h.name in omega arith)
  computed-uses x o q g k so fine (inl h) to e =
      let m = member-field x o q g (h.0, h.1, h.3) in
      let v =
      member-same q m.1 m.4 (λ z. let w : ◌≡◌ {A = ℕ} 0x71 0x63 = sym k ∙ z in omega arith)
      (λ z. let w : ◌≡◌ {A = ℕ} 0x71 0x23 = sym k ∙ z in omega arith) (λ z. let w : ◌≡◌ {A = ℕ} 0x71 0x60 = sym k ∙ z in omega arith) in
      good-kept taken c (record { how = computed; here = field 0x63 x (more o (more q none)); there = g }) (kept computed (fixed_of o) refl refl e fine)
      (ap (counted computed) m.2 ∙ rw (object-same o m.0 m.3 to (same-equal (fixed_of o) i e) so, v.0, v.1))

  pair-uses : (x : List ℕ) (o q g : Field) → (tag_of q ≡ 0x70) ⊎ ((tag_of q ≡ 0x71) ⊎ (tag_of q ≡ 0x72)) → Regular o → Regular q →
      Fine taken (met ((by_member (more q none), fixed_of o) ∷ []) i) → O (field 0x63 x (more o (more q none))) g → tag_of o ≡ 0x60 →
      UseOf (field 0x63 x (more o (more q none))) g (by_member (more q none), fixed_of o)
  pair-uses x o q g (inl k) so sq fine h to e u =
      subst (λ (w : How). Good taken c (record { how = w; here = field 0x63 x (more o (more q none)); there = g })) (sym (by k)) (plain-uses x o q g k so sq h to (same-equal (fixed_of o) i e))
    where
      by : tag_of q ≡ 0x70 → by_member (more q none) ≡ plain (fixed_of q)
      by k = rw k
  pair-uses x o q g (inr (inl k)) so sq fine h to e u =
      subst (λ (w : How). Good taken c (record { how = w; here = field 0x63 x (more o (more q none)); there = g })) (sym (by k))
      (computed-uses x o q g k so (subst (λ (w : How). Fine taken (met ((w, fixed_of o) ∷ []) i)) (by k) fine) h to e)
    where
      by : tag_of q ≡ 0x71 → by_member (more q none) ≡ computed
      by k = rw k
  pair-uses x o q g (inr (inr k)) so sq fine h to e u = absurd (true≢false (sym u ∙ by k))
    where
      by : tag_of q ≡ 0x72 → is_use (by_member (more q none)) ≡ false
      by k = rw k

  object-uses : (x : List ℕ) (cs : Fields) (g : Field) → Two cs → RegularAll cs → Fine taken (met (object_ids true cs) i) → O (field 0x63 x cs) g →
      Uses (matching (object_ids true cs) i (field 0x63 x cs) g)
  unfolding object_ids
  object-uses x none g w s fine h = absurd (let e = w.2 in let z : ◌≡◌ {A = ℕ} 0 1 = cc in omega arith)
  object-uses x (more o none) g w s fine h = absurd (let e = w.2 in let z : ◌≡◌ {A = ℕ} 0 1 = cc in omega arith)
  object-uses x (more o (more q (more r rs))) g w s fine h = absurd (let e = w.2 in let z : ◌≡◌ {A = ℕ} 0 1 = cc in omega arith)
  object-uses x (more o (more q none)) g w s fine h = go (eqb (tag_of o) 0x60) refl fine
    where
      tq : (tag_of q ≡ 0x70) ⊎ ((tag_of q ≡ 0x71) ⊎ (tag_of q ≡ 0x72))
      tq = let e : w.1 ≡ q = cc w.2 in subst (λ (m : Field). (tag_of m ≡ 0x70) ⊎ ((tag_of m ≡ 0x71) ⊎ (tag_of m ≡ 0x72))) e w.3

      go : (b : Bool) → eqb (tag_of o) 0x60 ≡ b → Fine taken (met (cond b ((by_member (more q none), fixed_of o) ∷ []) []) i) →
          Uses (matching (cond b ((by_member (more q none), fixed_of o) ∷ []) []) i (field 0x63 x (more o (more q none))) g)
      go true t f = matching-uses ((by_member (more q none), fixed_of o) ∷ []) (field 0x63 x (more o (more q none))) g (pair-uses x o q g tq s.0 s.1.0 f h (eqb-true (tag_of o) 0x60 t), tt)
      go false t f = matching-uses [] (field 0x63 x (more o (more q none))) g tt

  -- ---- The parts of a field that stays, and of one that is turned

  turned-parts : (t : ℕ) (cs : Fields) (g : Field) → RegularAll cs → Turned taken i c own t cs g → standings_member cs (parts_of g) i ≡ []
  unfolding standings ids_in parts_for matching
  turned-parts t none g s h = absurd (let e = h.parts in let z : ◌≡◌ {A = ℕ} 0 1 = cc in omega arith)
  turned-parts t (more o none) g s h = absurd (let e = h.parts in let z : ◌≡◌ {A = ℕ} 0 1 = cc in omega arith)
  turned-parts t (more o (more q (more r rs))) g s h = absurd (let e = h.parts in let z : ◌≡◌ {A = ℕ} 0 1 = cc in omega arith)
  turned-parts t (more o (more (field k y qs) none)) g s h =
      let eo : o ≡ h.object = cc h.parts in
      let eq : field k y qs ≡ h.member = cc h.parts in
      let to : tag_of o ≡ 0x60 = ap tag_of eo ∙ h.ident in
      let tk : k ≡ 0x70 = ap tag_of eq ∙ h.name in
      rw (to, tk, s.1.0.0.name_bare tk)

  -- a target's own ids stand in no use
  target-uses : (t : ℕ) (x : List ℕ) (cs : Fields) (g : Field) → (t ≡ 0x60 → ⊥) → (t ≡ 0x23 → ⊥) → Uses (matching (ids_in t x false ++ object_ids false cs) i (field t x cs) g)
  target-uses t x cs g d k =
      matching-uses (ids_in t x false ++ object_ids false cs) (field t x cs) g
      (unused-uses (ids_in t x false ++ object_ids false cs) (field t x cs) g
      (unused-append (ids_in t x false) (object_ids false cs) (ids-unused t x false (ne_eqb t 0x23 k) (λ z. absurd (d (eqb-true t 0x60 z))))
      (object-unused cs)))

  -- the ids of a 63 itself
  member-ids : (t : ℕ) (x : List ℕ) (cs : Fields) (g : Field) (object : Bool) → t ≡ 0x63 → Uses (matching (ids_in t x object) i (field t x cs) g)
  member-ids t x cs g object q =
      matching-uses (ids_in t x object) (field t x cs) g
      (unused-uses (ids_in t x object) (field t x cs) g
      (ids-unused t x object (ne_eqb t 0x23 (λ z. let v : ◌≡◌ {A = ℕ} 0x63 0x23 = sym q ∙ z in omega arith))
      (λ z. absurd (let v : ◌≡◌ {A = ℕ} 0x63 0x60 = sym q ∙ eqb-true t 0x60 z in omega arith))))

  abbrev TargetTag : Fields → Type 0
  TargetTag cs = (f : Field) (fs : Fields) → cs ≡ more f fs → (tag_of f ≡ 0x60 → ⊥) × (tag_of f ≡ 0x23 → ⊥)

  parts-uses : (v : Parts) (t : ℕ) (x : List ℕ) (cs : Fields) (g : Field) (object : Bool) → parts_for t ≡ v → RegularAt t x cs → RegularAll cs →
      Fine taken (ways_parts v cs i object) → O (field t x cs) g → OA cs (parts_of g) →
      ((b : Bool) → Fine taken (ways_all cs i b) → Uses (standings_all cs (parts_of g) i b)) →
      (Fine taken (ways_member cs i) → Uses (standings_member cs (parts_of g) i)) →
      (TargetTag cs → Fine taken (ways_assignment cs i object) → Uses (standings_assignment cs (parts_of g) i object)) →
      Uses (standings_parts v t x cs g i object)
  parts-uses unwalked t x cs g object q w s fine h oa all mem asg = all object fine
  parts-uses super t x cs g object q w s fine h oa all mem asg = all false fine
  parts-uses assignment t x cs g object q w s fine h oa all mem asg = asg (w.target (parts-assignment t q)) fine
  parts-uses children t x cs g object q w s fine h oa all mem asg = all object fine
  parts-uses member t x cs g object q w s fine h oa all mem asg =
      let f = fine-append taken (met (object_ids true cs) i) (ways_member cs i) fine in
      uses-append (matching (object_ids true cs) i (field t x cs) g) (standings_member cs (parts_of g) i) (go t (parts-member t q) (w.member_two (parts-member t q)) h f.0) (mem f.1)
    where
      go : (t : ℕ) → t ≡ 0x63 → Two cs → O (field t x cs) g → Fine taken (met (object_ids true cs) i) → Uses (matching (object_ids true cs) i (field t x cs) g)
      go t k y h f = rw k (object-uses x cs g y s f (subst (λ (m : ℕ). O (field m x cs) g) k h))

  turned-member : (x : List ℕ) (cs : Fields) (g : Field) (object : Bool) → Two cs → RegularAll cs → Fine taken (ways_parts member cs i object) →
      Turned taken i c own 0x63 cs g → Uses (standings_parts member 0x63 x cs g i object)
  turned-member x cs g object y s fine h =
      uses-append (matching (object_ids true cs) i (field 0x63 x cs) g) (standings_member cs (parts_of g) i)
      (object-uses x cs g y s (fine-append taken (met (object_ids true cs) i) (ways_member cs i) fine).0 (inr h))
      (rw (turned-parts 0x63 cs g s h) tt)

  turned-uses : (t : ℕ) (x : List ℕ) (cs : Fields) (g : Field) (object : Bool) → t ≡ 0x63 → Two cs → RegularAll cs →
      Fine taken (ways_parts (parts_for t) cs i object) → Turned taken i c own t cs g → Uses (standings_parts (parts_for t) t x cs g i object)
  unfolding parts_for
  turned-uses t x cs g object k y s fine h =
      rw k (turned-member x cs g object y s (subst (λ (m : ℕ). Fine taken (ways_parts (parts_for m) cs i object)) k fine) (subst (λ (m : ℕ). Turned taken i c own m cs g) k h))

  object-part : (o w : Field) (b : Bool) → Fine taken (ways_object b o i) → (Fine taken (ways o i true) → Uses (standings o w i true)) →
      Uses (elim b as (λ _. List Standing) [ true ↦ [] | false ↦ standings o w i true ])
  object-part o w true f k = tt
  object-part o w false f k = k f

  mutual
    unfolding standings ways

    pub uses : (f g : Field) (object : Bool) → Regular f → Fine taken (ways f i object) → O f g → Uses (standings f g i object)
    uses (field t x cs) g object w fine (inr h) =
        let f = fine-append taken (met (ids_in t x object) i) (ways_parts (parts_for t) cs i object) fine in
        uses-append (matching (ids_in t x object) i (field t x cs) g) (standings_parts (parts_for t) t x cs g i object)
        (member-ids t x cs g object h.tag) (turned-uses t x cs g object h.tag (w.0.member_two h.tag) w.1 f.1 h)
    uses (field t x cs) g object w fine (inl h) =
        let f = fine-append taken (met (ids_in t x object) i) (ways_parts (parts_for t) cs i object) fine in
        uses-append (matching (ids_in t x object) i (field t x cs) g) (standings_parts (parts_for t) t x cs g i object) (own-uses t x cs g object w.0 f.0 (h.0, h.1, h.3))
        (parts-uses (parts_for t) t x cs g object refl w.0 w.1 f.1 (inl h) h.3 (λ b f. uses_all cs (parts_of g) b w.1 f h.3)
        (λ f. uses_member cs (parts_of g) w.1 f h.3) (λ d f. uses_assignment cs (parts_of g) object w.1 d f h.3))

    pub uses_all : (fs gs : Fields) (object : Bool) → RegularAll fs → Fine taken (ways_all fs i object) → OA fs gs → Uses (standings_all fs gs i object)
    uses_all none gs object w fine h = tt
    uses_all (more f fs) none object w fine h = out-lacking taken i c own f fs h
    uses_all (more f fs) (more g gs) object w fine h =
        let a = out-more taken i c own f fs g gs h in
        let k = fine-append taken (ways f i object) (ways_all fs i object) fine in
        uses-append (standings f g i object) (standings_all fs gs i object) (uses f g object w.0 k.0 a.0) (uses_all fs gs object w.1 k.1 a.1)

    uses_member : (fs gs : Fields) → RegularAll fs → Fine taken (ways_member fs i) → OA fs gs → Uses (standings_member fs gs i)
    uses_member none gs w fine h = tt
    uses_member (more f fs) none w fine h = out-lacking taken i c own f fs h
    uses_member (more f fs) (more g gs) w fine h =
        let a = out-more taken i c own f fs g gs h in
        let k = fine-append taken (ways_object (has 0x60 f) f i) (ways_all fs i false) fine in
        uses-append (elim (has 0x60 f) as (λ _. List Standing) [ true ↦ [] | false ↦ standings f g i true ]) (standings_all fs gs i false)
        (object-part f g (has 0x60 f) k.0 (λ y. uses f g true w.0 y a.0)) (uses_all fs gs false w.1 k.1 a.1)

    uses_assignment : (fs gs : Fields) (object : Bool) → RegularAll fs → TargetTag fs → Fine taken (ways_assignment fs i object) → OA fs gs → Uses (standings_assignment fs gs i object)
    uses_assignment none gs object w d fine h = tt
    uses_assignment (more f fs) none object w d fine h = out-lacking taken i c own f fs h
    uses_assignment (more f fs) (more g gs) object w d fine h =
        let a = out-more taken i c own f fs g gs h in
        let k = fine-append taken (ways_target f i) (ways_all fs i object) fine in
        uses-append (standings_target f g i) (standings_all fs gs i object) (uses_target f g w.0 (d f fs refl) k.0 a.0) (uses_all fs gs object w.1 k.1 a.1)

    uses_target : (f g : Field) → Regular f → (tag_of f ≡ 0x60 → ⊥) × (tag_of f ≡ 0x23 → ⊥) → Fine taken (ways_target f i) → O f g → Uses (standings_target f g i)
    uses_target (field t x cs) g w d fine (inr h) =
        uses-append (matching (ids_in t x false ++ object_ids false cs) i (field t x cs) g) (standings_member cs (parts_of g) i) (target-uses t x cs g d.0 d.1) (rw (turned-parts t cs g w.1 h) tt)
    uses_target (field t x cs) g w d fine (inl h) =
        let f = fine-append taken (met (ids_in t x false ++ object_ids false cs) i) (ways_member cs i) fine in
        uses-append (matching (ids_in t x false ++ object_ids false cs) i (field t x cs) g) (standings_member cs (parts_of g) i)
        (target-uses t x cs g d.0 d.1) (uses_member cs (parts_of g) w.1 f.1 h.3)
