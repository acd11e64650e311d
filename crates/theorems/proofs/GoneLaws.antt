-- What both passes leave of an item that is no import: if the import is taken apart, no way of its id to stand is left.
use Prim.Native.Nat.{ℕ}
use mathlib.Core.Path.{◌≡◌, refl, sym, ap, subst, ◌∙◌}
use mathlib.Core.Logic.{◌⊎◌, inl, inr}
use mathlib.Core.Bool.{Bool, true, false, cond, true≢false}
use mathlib.Core.List.{List, [], ◌∷◌, ◌++◌}
use native.Mathlib.Omega.{arith}
use lib.Dec.{eqb}
use lib.ListN.{length, get_or}
use borrow.Author.Tests.{eqb-true}
use Rattle.scope.specs.Id.{require_atom, local}
use Rattle.tree.specs.Layout.{same, two, four, id_at, name_of, context_of}
use Rattle.tree.specs.Tree.{Field, field, Fields, none, more, tag_of, fixed_of, parts_of}
use Rattle.tree.proofs.LayoutLaws.{same-refl}
use Rattle.inputs.specs.Lists.{filter}
use Rattle.inputs.specs.Fields.{has}
use Rattle.extraction_rules.specs.Walk.{Parts, unwalked, member, super, assignment, children, parts_for}
use Rattle.extraction_rules.proofs.ListLaws.{same-not, not-same}
use Rattle.extraction_rules.proofs.TagLaws.{find-any, parts-member}
use Rattle.extraction_rules.proofs.AlikeLaws.{Two, Regular, RegularAll, SameBytes, equal, behind, callee, same-other, same-trans, Alike, AlikeAll, alike-more, alike-none, alike-tag}
use Rattle.placement.specs.Stands.{How, bare, original, otherwise, first_id, original_ids, ids_in, by_member, object_ids, is_use, is_plain, is_misplaced}
use Rattle.placement.specs.Placed.{all}
use Rattle.placement.proofs.WaysLaws.{met, ways, ways_all, ways_member, ways_assignment, ways_target, ways_parts, ways_object, ids-alike, met-append}
use Rattle.placement.proofs.HowLaws.{id_table}
use Rattle.theorems.proofs.OutFieldLaws.{Foreign, Turned, Unturned, Out, OutAll, out-more, out-none, out-lacking, out-tag, Fine, fine-append}

module _ (taken : Bool) (i c : List ℕ) (own : ℕ) (named : same (name_of i) (two require_atom) ≡ false) where
  abbrev O : Field → Field → Type 0
  O f g = Out taken i c own f g

  abbrev OA : Fields → Fields → Type 0
  OA fs gs = OutAll taken i c own fs gs

  -- ---- Both passes together

  -- an alike 60 with the id i
  alike-own : (f g : Field) → Alike f g → tag_of f ≡ 0x60 → fixed_of f ≡ i → fixed_of g ≡ i
  alike-own (field t x cs) g h q e = go h.1
    where
      go : SameBytes t x (fixed_of g) → fixed_of g ≡ i
      go (equal r) = r ∙ e
      go (behind k r) = absurd (let v : ◌≡◌ {A = ℕ} 0x60 0x23 = sym q ∙ k in omega arith)
      go (callee k r n v) = absurd (not-same (name_of i) (two require_atom) named (ap name_of (sym e) ∙ r))

  alike-name : (f g : Field) → Alike f g → tag_of f ≡ 0x70 → fixed_of g ≡ fixed_of f
  alike-name (field t x cs) g h q =
      same-other t x (fixed_of g) h.1 (λ z. let v : ◌≡◌ {A = ℕ} 0x70 0x23 = sym q ∙ z in omega arith)
      (λ z. let v : ◌≡◌ {A = ℕ} 0x70 0x60 = sym q ∙ z in omega arith)

  unturned-alike : (t : ℕ) (cs ds : Fields) → AlikeAll cs ds → Unturned taken i c own t ds → Unturned taken i c own t cs
  unturned-alike t none ds h u o q k r to tq e = absurd (let z : ◌≡◌ {A = ℕ} 0 1 = cc in omega arith)
  unturned-alike t (more f none) ds h u o q k r to tq e = absurd (let z : ◌≡◌ {A = ℕ} 0 1 = cc in omega arith)
  unturned-alike t (more f (more p (more b bs))) ds h u o q k r to tq e = absurd (let z : ◌≡◌ {A = ℕ} 0 1 = cc in omega arith)
  unturned-alike t (more f (more p none)) ds h u o q k r to tq e =
      let fo : f ≡ o = cc in
      let pq : p ≡ q = cc in
      u h.0 h.4.0 k (h.2 ∙ ap (more h.0) (h.4.2 ∙ ap (more h.4.0) h.4.4)) (alike-tag f h.0 h.3 ∙ ap tag_of fo ∙ to)
      (alike-tag p h.4.0 h.4.3 ∙ ap tag_of pq ∙ tq)
      (alike-own f h.0 h.3 (ap tag_of fo ∙ to) (ap fixed_of fo ∙ e))

  turned-alike : (t : ℕ) (cs ds : Fields) (g : Field) → AlikeAll cs ds → Turned taken i c own t ds g → Turned taken i c own t cs g
  turned-alike t none ds g h u = absurd (let e = h in let v = u.parts in let z : ◌≡◌ {A = ℕ} 0 1 = cc in omega arith)
  turned-alike t (more f none) ds g h u = absurd (let e = h.2 in let k = h.4 in let v = u.parts in let z : ◌≡◌ {A = ℕ} 0 1 = cc in omega arith)
  turned-alike t (more f (more p (more b bs))) ds g h u = absurd (let e = h.2 in let k = h.4.2 in let l = h.4.4.2 in let v = u.parts in let z : ◌≡◌ {A = ℕ} 0 1 = cc in omega arith)
  turned-alike t (more f (more p none)) ds g h u =
      let fo : h.0 ≡ u.object = cc (h.2, u.parts) in
      let tl : h.1 ≡ more u.member none = cc (h.2, u.parts) in
      let pq : h.4.0 ≡ u.member = cc (h.4.2, tl) in
      let tf : tag_of f ≡ 0x60 = sym (alike-tag f h.0 h.3) ∙ ap tag_of fo ∙ u.ident in
      let tp : tag_of p ≡ 0x70 = sym (alike-tag p h.4.0 h.4.3) ∙ ap tag_of pq ∙ u.name in
      let bp : fixed_of u.member ≡ fixed_of p = ap fixed_of (sym pq) ∙ alike-name p h.4.0 h.4.3 tp in
      record {
        tag = u.tag;
        object = f;
        member = p;
        parts = refl;
        ident = tf;
        name = tp;
        out = u.out;
        bare = u.bare;
        foreign = u.foreign;
        whole = u.whole;
        mine = λ e. let m = u.mine (ap fixed_of (sym fo) ∙ alike-own f h.0 h.3 tf e) in
            (m.0, m.1 ∙ ap (λ (y : List ℕ). y ++ c) bp, ap (λ (y : List ℕ). same y (two require_atom)) (sym bp) ∙ m.2, ap length (sym bp) ∙ m.3);
      }

  mutual
    pub out-alike : (f h g : Field) → Alike f h → O h g → O f g
    out-alike (field t x cs) (field k y ds) g a (inl u) =
        inl (
          u.0
              ∙ a.0,
          same-trans t x y (fixed_of g) a.1 (subst (λ (m : ℕ). SameBytes m y (fixed_of g)) a.0 u.1),
          unturned-alike t cs ds a.2
              (subst (λ (m : ℕ). Unturned taken i c own m ds) a.0 u.2),
          out_all-alike cs ds (parts_of g) a.2 u.3,
        )
    out-alike (field t x cs) (field k y ds) g a (inr u) = inr (turned-alike t cs ds g a.2 (subst (λ (m : ℕ). Turned taken i c own m ds g) a.0 u))

    pub out_all-alike : (fs hs gs : Fields) → AlikeAll fs hs → OA hs gs → OA fs gs
    out_all-alike none none gs a u = u
    out_all-alike none (more h hs) gs a u = alike-none h hs a
    out_all-alike (more f fs) none gs a u = absurd (let e = a.2 in let z : ◌≡◌ {A = ℕ} 0 1 = cc in omega arith)
    out_all-alike (more f fs) (more h hs) gs a u = let b = alike-more f fs h hs a in (u.0, u.1, u.2, out-alike f h u.0 b.0 u.3, out_all-alike fs hs u.1 b.1 u.4)

  -- ---- The id's name is gone

  module _ (context : context_of i ≡ four (local own)) (apart : taken ≡ true) where
    foreign-other : (y : List ℕ) → Foreign own y → same y i ≡ false
    foreign-other y h = same-not y i (λ q. not-same (context_of y) (four (local own)) h (ap context_of q ∙ context))

    lone : (h : How) (j : List ℕ) → is_plain h ≡ false → (is_use h ≡ true) ⊎ (is_misplaced h ≡ true) → Fine taken (met ((h, j) ∷ []) i) → met ((h, j) ∷ []) i ≡ []
    unfolding met all filter
    lone h j p k fine = go (same j i) k fine
      where
        go : (b : Bool) → (is_use h ≡ true) ⊎ (is_misplaced h ≡ true) → Fine taken (cond b (h ∷ []) []) → cond b (h ∷ []) [] ≡ []
        go true (inl u) f = absurd (true≢false (sym (f.0 apart) ∙ rw (u, p)))
        go true (inr u) f = absurd (true≢false (sym (f.2 apart) ∙ rw u))
        go false k f = refl

    original-gone : (x : List ℕ) → Fine taken (met (original_ids x) i) → met (original_ids x) i ≡ []
    unfolding met
    original-gone x fine = go (eqb (get_or x 0 0) 1) fine
      where
        go : (b : Bool) → Fine taken (met (cond b ((original, id_at x 1) ∷ []) []) i) → met (cond b ((original, id_at x 1) ∷ []) []) i ≡ []
        go true f = lone original (id_at x 1) refl (inl refl) f
        go false f = refl

    bare-gone : (x : List ℕ) (object : Bool) → Fine taken (met (first_id (cond object otherwise bare) x) i) → met (first_id (cond object otherwise bare) x) i ≡ []
    bare-gone x true f = lone otherwise (id_at x 0) refl (inr refl) f
    bare-gone x false f = lone bare (id_at x 0) refl (inl refl) f

    -- the field's own ids
    ids-gone : (t : ℕ) (x : List ℕ) (object : Bool) → (t ≡ 0x20 → ⊥) × (t ≡ 0x21 → ⊥) × (t ≡ 0x22 → ⊥) → Fine taken (met (ids_in t x object) i) →
        met (ids_in t x object) i ≡ []
    unfolding ids_in met
    ids-gone t x object d fine =
        find-any (λ l. Fine taken (met l i) → met l i ≡ []) t (id_table x object) [] (
          (λ q. absurd (d.0 (eqb-true t 0x20 q))),
          (
            (λ q. absurd (d.1 (eqb-true t 0x21 q))),
            (
              (λ q. absurd (d.2 (eqb-true t 0x22 q))),
              (
                (λ _. original-gone x),
                (
                  (λ _. lone otherwise (id_at x 0) refl (inr refl)),
                  (
                    (λ _. lone otherwise (id_at x 0) refl (inr refl)),
                    (
                      (λ _. lone otherwise (id_at x 0) refl (inr refl)),
                      (
                        (λ _. lone otherwise (id_at x 0) refl (inr refl)),
                        ((λ _. bare-gone x object), ((λ _. lone otherwise (id_at x 0) refl (inr refl)), tt)),
                      ),
                    ),
                  ),
                ),
              ),
            ),
          ),
        )
        (λ _. refl) fine

    -- a field that stays: its own ids
    own-gone : (t : ℕ) (x y : List ℕ) (object : Bool) → SameBytes t x y → (t ≡ 0x20 → ⊥) × (t ≡ 0x21 → ⊥) × (t ≡ 0x22 → ⊥) →
        Fine taken (met (ids_in t x object) i) → met (ids_in t y object) i ≡ []
    own-gone t x y object b d fine = ids-alike i named t x y object b ∙ ids-gone t x object d fine

    -- the object of a 63 that stays: w is what became of o
    object-id : (o w : Field) → O o w → tag_of w ≡ 0x60 → (tag_of o ≡ 0x60 → fixed_of o ≡ i → ⊥) → same (fixed_of w) i ≡ false
    object-id (field t x os) w (inr h) q d = foreign-other (fixed_of w) h.foreign
    object-id (field t x os) w (inl h) q d = go h.1
      where
        go : SameBytes t x (fixed_of w) → same (fixed_of w) i ≡ false
        go (equal r) = same-not (fixed_of w) i (λ e. d (sym h.0 ∙ q) (sym r ∙ e))
        go (behind k r) = absurd (let v : ◌≡◌ {A = ℕ} 0x23 0x60 = sym k ∙ sym h.0 ∙ q in omega arith)
        go (callee k r n v) = same-not (fixed_of w) i (λ e. not-same (name_of i) (two require_atom) named (ap name_of (sym e ∙ v)))

    objects-gone : (ex : Bool) (w : Field) (vs : Fields) → (tag_of w ≡ 0x60 → same (fixed_of w) i ≡ false) → met (object_ids ex (more w vs)) i ≡ []
    unfolding object_ids met
    objects-gone ex w vs d = go (eqb (tag_of w) 0x60) refl
      where
        go : (b : Bool) → eqb (tag_of w) 0x60 ≡ b → met (cond b ((cond ex (by_member vs) otherwise, fixed_of w) ∷ []) []) i ≡ []
        go true q = rw (d (eqb-true (tag_of w) 0x60 q))
        go false q = refl

    -- where i were the object: no plain property stays, others are no plain uses
    not-object : (o q : Field) → (tag_of q ≡ 0x70) ⊎ ((tag_of q ≡ 0x71) ⊎ (tag_of q ≡ 0x72)) → Unturned taken i c own 0x63 (more o (more q none)) →
        Fine taken (met (object_ids true (more o (more q none))) i) → tag_of o ≡ 0x60 → fixed_of o ≡ i → ⊥
    unfolding object_ids met all filter
    not-object o q (inl k) u fine to e = true≢false (sym apart ∙ u o q refl refl to k e)
    not-object o q (inr (inl k)) u fine to e = true≢false (sym (fine.0 apart) ∙ rw (to, k, e, same-refl i))
    not-object o q (inr (inr k)) u fine to e = true≢false (sym (fine.2 apart) ∙ rw (to, k, e, same-refl i))

    not-target : (o : Field) (rest : Fields) → Fine taken (met (object_ids false (more o rest)) i) → tag_of o ≡ 0x60 → fixed_of o ≡ i → ⊥
    unfolding object_ids met all
    not-target o rest fine to e = true≢false (sym (fine.2 apart) ∙ rw (to, e, same-refl i))

    turned-gone : (t : ℕ) (cs : Fields) (g : Field) (object : Bool) → Turned taken i c own t cs g → ways g i object ≡ []
    unfolding ways ids_in met parts_for
    turned-gone t cs (field k y ds) object h = rw (h.out, h.bare, h.whole, foreign-other y h.foreign)

    turned-target : (t : ℕ) (cs : Fields) (g : Field) → Turned taken i c own t cs g → ways_target g i ≡ []
    unfolding ways ids_in met object_ids
    turned-target t cs (field k y ds) h = rw (h.out, h.bare, h.whole, foreign-other y h.foreign)

    nil-append : (l m : List How) → l ≡ [] → m ≡ [] → l ++ m ≡ []
    nil-append l m p q = rw (p, q)

    -- the induction's hypotheses for the parts of a field
    parts-gone : (v : Parts) (t : ℕ) (cs ds : Fields) (object : Bool) → parts_for t ≡ v → (t ≡ 0x63 → Two cs) → Unturned taken i c own t cs →
        OA cs ds → Fine taken (ways_parts v cs i object) →
        ((b : Bool) → Fine taken (ways_all cs i b) → ways_all ds i b ≡ []) → (Fine taken (ways_member cs i) → ways_member ds i ≡ []) →
        (Fine taken (ways_assignment cs i object) → ways_assignment ds i object ≡ []) → ways_parts v ds i object ≡ []
    parts-gone unwalked t cs ds object q w u h fine all mem asg = all object fine
    parts-gone super t cs ds object q w u h fine all mem asg = all false fine
    parts-gone assignment t cs ds object q w u h fine all mem asg = asg fine
    parts-gone children t cs ds object q w u h fine all mem asg = all object fine
    parts-gone member t cs ds object q w u h fine all mem asg =
        let k = fine-append taken (met (object_ids true cs) i) (ways_member cs i) fine in
        nil-append (met (object_ids true ds) i) (ways_member ds i) (go cs ds (w (parts-member t q)) (subst (λ (m : ℕ). Unturned taken i c own m cs) (parts-member t q) u) h k.0) (mem k.1)
      where
        go : (cs ds : Fields) → Two cs → Unturned taken i c own 0x63 cs → OA cs ds → Fine taken (met (object_ids true cs) i) → met (object_ids true ds) i ≡ []
        go none ds w u h f = absurd (let e = w.2 in let z : ◌≡◌ {A = ℕ} 0 1 = cc in omega arith)
        go (more o none) ds w u h f = absurd (let e = w.2 in let z : ◌≡◌ {A = ℕ} 0 1 = cc in omega arith)
        go (more o (more q (more r rs))) ds w u h f = absurd (let e = w.2 in let z : ◌≡◌ {A = ℕ} 0 1 = cc in omega arith)
        go (more o (more q none)) ds w u h f =
            let e : w.1 ≡ q = cc w.2 in
            let tq = subst (λ (m : Field). (tag_of m ≡ 0x70) ⊎ ((tag_of m ≡ 0x71) ⊎ (tag_of m ≡ 0x72))) e w.3 in
            rw h.2 (objects-gone true h.0 h.1 (λ k. object-id o h.0 h.3 k (λ to m. not-object o q tq u f to m)))

    object-gone : (o w : Field) → O o w → Fine taken (ways_object (has 0x60 o) o i) → (Fine taken (ways o i true) → ways w i true ≡ []) → ways_object (has 0x60 w) w i ≡ []
    object-gone o w h fine k = go (eqb (tag_of o) 0x60) (eqb (tag_of w) 0x60) refl refl fine
      where
        go : (a b : Bool) → eqb (tag_of o) 0x60 ≡ a → eqb (tag_of w) 0x60 ≡ b → Fine taken (ways_object a o i) → ways_object b w i ≡ []
        go a true q r f = refl
        go true false q r f =
            absurd
            (let to = eqb-true (tag_of o) 0x60 q in
            true≢false
            (sym (ap (λ (m : ℕ). eqb m 0x60) ((out-tag taken i c own o w h (λ z. let v : ◌≡◌ {A = ℕ} 0x60 0x63 = sym to ∙ z in omega arith)).0 ∙ to))
            ∙ r))
        go false false q r f = k f

    target-objects : (cs ds : Fields) → OA cs ds → Fine taken (met (object_ids false cs) i) → met (object_ids false ds) i ≡ []
    unfolding object_ids met
    target-objects none none h f = refl
    target-objects none (more g gs) h f = out-none taken i c own g gs h
    target-objects (more o os) none h f = out-lacking taken i c own o os h
    target-objects (more o os) (more w ws) h f = objects-gone false w ws (λ k. object-id o w (out-more taken i c own o os w ws h).0 k (λ to m. not-target o os f to m))

    target-gone : (t : ℕ) (x y : List ℕ) (cs ds : Fields) → SameBytes t x y → (t ≡ 0x20 → ⊥) × (t ≡ 0x21 → ⊥) × (t ≡ 0x22 → ⊥) → OA cs ds →
        Fine taken (met (ids_in t x false ++ object_ids false cs) i) → met (ids_in t y false ++ object_ids false ds) i ≡ []
    target-gone t x y cs ds b d h fine =
        let f = fine-append taken (met (ids_in t x false) i) (met (object_ids false cs) i) (subst (Fine taken) (met-append i named (ids_in t x false) (object_ids false cs)) fine) in
        met-append i named (ids_in t y false) (object_ids false ds)
        ∙ nil-append (met (ids_in t y false) i) (met (object_ids false ds) i) (own-gone t x y false b d f.0) (target-objects cs ds h f.1)

    mutual
      unfolding ways

      pub gone : (f g : Field) (object : Bool) → Regular f → Fine taken (ways f i object) → O f g → ways g i object ≡ []
      gone (field t x cs) g object w fine (inr h) = turned-gone t cs g object h
      gone (field t x cs) (field k y ds) object w fine (inl h) =
          let f = fine-append taken (met (ids_in t x object) i) (ways_parts (parts_for t) cs i object) fine in
          rw h.0
          (nil-append (met (ids_in t y object) i) (ways_parts (parts_for t) ds i object) (own-gone t x y object h.1 w.0.no_local f.0)
          (parts-gone (parts_for t) t cs ds object refl w.0.member_two h.2 h.3 f.1 (λ b f. gone_all cs ds b w.1 f h.3)
          (λ f. gone_member cs ds w.1 f h.3) (λ f. gone_assignment cs ds object w.1 f h.3)))

      pub gone_all : (fs gs : Fields) (object : Bool) → RegularAll fs → Fine taken (ways_all fs i object) → OA fs gs → ways_all gs i object ≡ []
      gone_all none none object w fine h = refl
      gone_all none (more g gs) object w fine h = out-none taken i c own g gs h
      gone_all (more f fs) none object w fine h = out-lacking taken i c own f fs h
      gone_all (more f fs) (more g gs) object w fine h =
          let a = out-more taken i c own f fs g gs h in
          let k = fine-append taken (ways f i object) (ways_all fs i object) fine in
          nil-append (ways g i object) (ways_all gs i object) (gone f g object w.0 k.0 a.0) (gone_all fs gs object w.1 k.1 a.1)

      gone_member : (fs gs : Fields) → RegularAll fs → Fine taken (ways_member fs i) → OA fs gs → ways_member gs i ≡ []
      gone_member none none w fine h = refl
      gone_member none (more g gs) w fine h = out-none taken i c own g gs h
      gone_member (more f fs) none w fine h = out-lacking taken i c own f fs h
      gone_member (more f fs) (more g gs) w fine h =
          let a = out-more taken i c own f fs g gs h in
          let k = fine-append taken (ways_object (has 0x60 f) f i) (ways_all fs i false) fine in
          nil-append (ways_object (has 0x60 g) g i) (ways_all gs i false) (object-gone f g a.0 k.0 (λ y. gone f g true w.0 y a.0)) (gone_all fs gs false w.1 k.1 a.1)

      gone_assignment : (fs gs : Fields) (object : Bool) → RegularAll fs → Fine taken (ways_assignment fs i object) → OA fs gs → ways_assignment gs i object ≡ []
      gone_assignment none none object w fine h = refl
      gone_assignment none (more g gs) object w fine h = out-none taken i c own g gs h
      gone_assignment (more f fs) none object w fine h = out-lacking taken i c own f fs h
      gone_assignment (more f fs) (more g gs) object w fine h =
          let a = out-more taken i c own f fs g gs h in
          let k = fine-append taken (ways_target f i) (ways_all fs i object) fine in
          nil-append (ways_target g i) (ways_all gs i object) (gone_target f g w.0 k.0 a.0) (gone_all fs gs object w.1 k.1 a.1)

      gone_target : (f g : Field) → Regular f → Fine taken (ways_target f i) → O f g → ways_target g i ≡ []
      gone_target (field t x cs) g w fine (inr h) = turned-target t cs g h
      gone_target (field t x cs) (field k y ds) w fine (inl h) =
          let f = fine-append taken (met (ids_in t x false ++ object_ids false cs) i) (ways_member cs i) fine in
          rw h.0
          (nil-append (met (ids_in t y false ++ object_ids false ds) i) (ways_member ds i)
          (target-gone t x y cs ds h.1 w.0.no_local h.3 f.0) (gone_member cs ds w.1 f.1 h.3))
