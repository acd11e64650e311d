-- What the second pass makes of a field that is in no import: it stays as it was, or a member expression becomes an identifier.
use Rattle.std.specs.Prelude.{None, Some}
use Prim.Native.Nat.{ℕ, ◌+◌, ◌*◌, ◌%◌}
use mathlib.Core.Path.{◌≡◌, refl, sym, ap, subst, ◌∙◌}
use mathlib.Core.Logic.{◌⊎◌, inl, inr}
use mathlib.Core.Bool.{Bool, true, false, not, ◌||◌, or_assoc}
use mathlib.Core.List.{List, [], ◌∷◌, ◌++◌}
use native.Mathlib.Omega.{arith}
use lib.ListN.{length, get_or}
use Rattle.scope.specs.Id.{require_atom, local, export}
use Rattle.tree.specs.Layout.{same, two, four, id_at, name_of, context_of}
use Rattle.tree.specs.Tree.{Field, field, Fields, none, more, tag_of, fixed_of, parts_of}
use Rattle.tree.proofs.LayoutLaws.{same-equal}
use Rattle.tree.proofs.Table.{both-true}
use Rattle.inputs.specs.Lists.{among}
use Rattle.extraction_rules.specs.State.{State, Setting}
use Rattle.extraction_rules.specs.First.{id_from, force_id, imported_as, required, with_callee, declarator}
use Rattle.extraction_rules.specs.Second.{usages_of}
use Rattle.extraction_rules.proofs.OutcomeLaws.{After}
use Rattle.extraction_rules.proofs.ListLaws.{same-not, not-same}
use Rattle.extraction_rules.proofs.ValueLaws.{required-call, declarator-value}
use Rattle.extraction_rules.proofs.AlikeLaws.{SameBytes, equal, required-named, callee-bytes}
use Rattle.extraction_rules.proofs.TestLaws.{or-neither}
use Rattle.extraction_rules.proofs.SeekLaws.{force-tables, forgotten-usages, other-imported, other-usages}
use Rattle.placement.specs.Stands.{How, is_misplaced, properties}
use Rattle.placement.proofs.HowLaws.{all-append, all_plain, plain-append, properties-append, fits}

-- an export context is no local context: one is odd, the other even
pub export-foreign : (n own : ℕ) → same (four (export n)) (four (local own)) ≡ false
export-foreign n own = same-not (four (export n)) (four (local own)) (λ q. odd n own (ap (λ (l : List ℕ). get_or l 3 0) q))
  where
    odd : (n own : ℕ) → (3 + 2 * n) % 256 ≡ (2 + 2 * own) % 256 → ⊥
    odd n own q = omega arith

-- an id in another context than the own local one
abbrev pub Foreign : ℕ → List ℕ → Type 0
Foreign own y = same (context_of y) (four (local own)) ≡ false

-- only ids in the own local context have usages, and what such an id is imported as is an export context
abbrev pub Says : ℕ → State → Type 0
Says own s =
    (j : List ℕ) →
    (usages_of j s.usages ≡ []) ⊎
    ((context_of j ≡ four (local own))
    × ((imported_as j s.imported ≡ None) ⊎ ((n : ℕ) × (imported_as j s.imported ≡ Some (four (export n))))))

pub foreign-unused : (own : ℕ) (s : State) (j : List ℕ) → Says own s → Foreign own j → usages_of j s.usages ≡ []
foreign-unused own s j h k = go (h j)
  where
    go : (usages_of j s.usages ≡ []) ⊎
        ((context_of j ≡ four (local own))
        × ((imported_as j s.imported ≡ None) ⊎ ((n : ℕ) × (imported_as j s.imported ≡ Some (four (export n)))))) → usages_of j s.usages ≡ []
    go (inl q) = q
    go (inr q) = absurd (not-same (context_of j) (four (local own)) k q.0)

pub says-force : (own : ℕ) (s : State) (j : List ℕ) → Says own s → Says own (force_id j s)
says-force own s j h k = go (same j k) refl (h k)
  where
    go : (b : Bool) → same j k ≡ b →
        (usages_of k s.usages ≡ []) ⊎
        ((context_of k ≡ four (local own))
        × ((imported_as k s.imported ≡ None) ⊎ ((n : ℕ) × (imported_as k s.imported ≡ Some (four (export n)))))) →
        (usages_of k (force_id j s).usages ≡ []) ⊎
        ((context_of k ≡ four (local own))
        × ((imported_as k (force_id j s).imported ≡ None) ⊎ ((n : ℕ) × (imported_as k (force_id j s).imported ≡ Some (four (export n))))))
    go true q w = inl (ap (usages_of k) (force-tables j s).3 ∙ rw (same-equal j k q) (forgotten-usages k s.usages))
    go false q (inl w) = inl (ap (usages_of k) (force-tables j s).3 ∙ other-usages k j s.usages q ∙ w)
    go false q (inr w) = inr (w.0, by w.1)
      where
        by : (imported_as k s.imported ≡ None) ⊎ ((n : ℕ) × (imported_as k s.imported ≡ Some (four (export n)))) →
            (imported_as k (force_id j s).imported ≡ None) ⊎ ((n : ℕ) × (imported_as k (force_id j s).imported ≡ Some (four (export n))))
        by (inl v) = inl (ap (imported_as k) (force-tables j s).2 ∙ other-imported k j s.imported q ∙ v)
        by (inr v) = inr (v.0, ap (imported_as k) (force-tables j s).2 ∙ other-imported k j s.imported q ∙ v.1)

-- ---- What becomes of a field

module _ (taken : Bool) (i c : List ℕ) (own : ℕ) where
  -- a 63 with 70 on a 60 has become a 60 in another context; one on i only if the import is taken apart, and then as the property in c
  pub record Turned (t : ℕ) (cs : Fields) (g : Field) : Type 0 where
    pub tag : t ≡ 0x63
    pub object : Field
    pub member : Field
    pub parts : cs ≡ more object (more member none)
    pub ident : tag_of object ≡ 0x60
    pub name : tag_of member ≡ 0x70
    pub out : tag_of g ≡ 0x60
    pub bare : parts_of g ≡ none
    pub foreign : Foreign own (fixed_of g)
    pub whole : id_at (fixed_of g) 0 ≡ fixed_of g
    pub mine : fixed_of object ≡ i → (taken ≡ true) × (fixed_of g ≡ fixed_of member ++ c) × (same (fixed_of member) (two require_atom) ≡ false) × (length (fixed_of member) ≡ 2)

  -- a 63 with 70 on i stays only if the import is kept
  abbrev pub Unturned : ℕ → Fields → Type 0
  Unturned t cs = (o q : Field) → t ≡ 0x63 → cs ≡ more o (more q none) → tag_of o ≡ 0x60 → tag_of q ≡ 0x70 → fixed_of o ≡ i → taken ≡ false

  abbrev mutual
    pub Out : Field → Field → Type 0
    Out (field t x cs) g = ((tag_of g ≡ t) × SameBytes t x (fixed_of g) × Unturned t cs × OutAll cs (parts_of g)) ⊎ Turned t cs g

    pub OutAll : Fields → Fields → Type 0
    OutAll none gs = gs ≡ none
    OutAll (more f fs) gs = (g : Field) × (hs : Fields) × (gs ≡ more g hs) × Out f g × OutAll fs hs

  pub out-more : (f : Field) (fs : Fields) (g : Field) (gs : Fields) → OutAll (more f fs) (more g gs) → Out f g × OutAll fs gs
  out-more f fs g gs h =
      let p : h.0 ≡ g = cc h.2 in
      let q : h.1 ≡ gs = cc h.2 in
      (subst (λ (k : Field). Out f k) p h.3, subst (λ (k : Fields). OutAll fs k) q h.4)

  pub out-none : {A : Type 0} (g : Field) (gs : Fields) → OutAll none (more g gs) → A
  out-none g gs h = absurd (let z : ◌≡◌ {A = ℕ} 0 1 = cc in omega arith)

  pub out-lacking : {A : Type 0} (f : Field) (fs : Fields) → OutAll (more f fs) none → A
  out-lacking f fs h = absurd (let e = h.2 in let z : ◌≡◌ {A = ℕ} 0 1 = cc in omega arith)

  -- a field that is no 63 keeps its tag
  pub out-tag : (f g : Field) → Out f g → (tag_of f ≡ 0x63 → ⊥) → (tag_of g ≡ tag_of f) × SameBytes (tag_of f) (fixed_of f) (fixed_of g)
  out-tag (field t x cs) g (inl h) d = (h.0, h.1)
  out-tag (field t x cs) g (inr h) d = absurd (d h.tag)

  -- ---- A callee in another context

  turned-callee : (t : ℕ) (cs : Fields) (g : Field) (n : ℕ) → name_of (fixed_of g) ≡ two require_atom → tag_of g ≡ 0x60 → Turned t cs g →
      Turned t cs (field (tag_of g) (id_from (name_of (fixed_of g)) (export n)) (parts_of g))
  turned-callee t cs g n w q h =
      record {
        tag = h.tag;
        object = h.object;
        member = h.member;
        parts = h.parts;
        ident = h.ident;
        name = h.name;
        out = h.out;
        bare = h.bare;
        foreign = ap (λ (v : List ℕ). same (context_of (v ++ four (export n))) (four (local own))) w ∙ export-foreign n own;
        whole = rw w refl;
        mine = λ e. absurd (let k = h.mine e in not-same (fixed_of h.member) (two require_atom) k.2 (two-front (fixed_of h.member) c k.3 ∙ ap name_of (sym k.1) ∙ w));
      }
    where
      two-front : (p c : List ℕ) → length p ≡ 2 → p ≡ name_of (p ++ c)
      two-front [] c q = absurd (omega arith)
      two-front (x ∷ []) c q = absurd (omega arith)
      two-front (x ∷ (y ∷ [])) c q = refl
      two-front (x ∷ (y ∷ (z ∷ p))) c q = absurd (omega arith)

  callee-out : (f g : Field) (n : ℕ) → tag_of g ≡ 0x60 → name_of (fixed_of g) ≡ two require_atom → Out f g →
      Out f (field (tag_of g) (id_from (name_of (fixed_of g)) (export n)) (parts_of g))
  callee-out (field m z ds) g n q w (inl h) = inl (h.0, callee-bytes m z (fixed_of g) n h.1 (sym h.0 ∙ q) w, h.2, h.3)
  callee-out (field m z ds) g n q w (inr h) = inr (turned-callee m ds g n w q h)

  pub out-callee : (e : Setting) (n : ℕ) (f g : Field) (l : List ℕ) → required e g ≡ Some l → Out f g → Out f (with_callee n g)
  unfolding with_callee
  out-callee e n f (field t x none) l q h = h
  out-callee e n (field k y cs) (field t x (more d gs)) l q (inr h) = absurd (let z : 0x65 ≡ 0x60 = sym (required-call e t x d gs l q).0 ∙ h.out in omega arith)
  out-callee e n (field k y none) (field t x (more d gs)) l q (inl h) = out-none d gs h.3
  out-callee e n (field k y (more f fs)) (field t x (more d gs)) l q (inl h) =
      let a = out-more f fs d gs h.3 in
      let r = required-call e t x d gs l q in
      inl (h.0, h.1, h.2, (_, gs, refl, callee-out f d n r.1 (required-named e t x d gs l q) a.0, a.1))

  pub declarator-out : (e : Setting) (cs ds : Fields) (p : ℕ) (s : State) → OutAll cs ds → After (declarator e ds p s) (λ gs s. OutAll cs gs)
  declarator-out e cs ds p s h = declarator-value e (OutAll cs) ds p s h (λ q j rest n l w r. go cs q j rest n l r (subst (OutAll cs) w h))
    where
      go : (cs : Fields) (q j : Field) (rest : Fields) (n : ℕ) (l : List ℕ) → required e j ≡ Some l → OutAll cs (more q (more j rest)) → OutAll cs (more q (more (with_callee n j) rest))
      go none q j rest n l r h = out-none q (more j rest) h
      go (more f none) q j rest n l r h = out-none j rest (out-more f none q (more j rest) h).1
      go (more f (more d fs)) q j rest n l r h =
          let a = out-more f (more d fs) q (more j rest) h in
          let b = out-more d fs j rest a.1 in
          (q, more (with_callee n j) rest, refl, a.0, (with_callee n j, rest, refl, out-callee e n d j l r b.0, b.1))

  -- a field of another tag than 63 that stays
  pub out-stays : (t : ℕ) (x : List ℕ) (cs ds : Fields) → (t ≡ 0x63 → ⊥) → OutAll cs ds → Out (field t x cs) (field t x ds)
  out-stays t x cs ds d h = inl (refl, equal refl, (λ o q k. absurd (d k)), h)

-- ---- Ways that the second pass finds as it needs them

-- no property named require; if the import is taken apart, all uses are plain and nothing is misplaced
abbrev pub Fine : Bool → List How → Type 0
Fine taken l = (taken ≡ true → all_plain l ≡ true) × (among (two require_atom) (properties l) ≡ false) × (taken ≡ true → fits l ≡ true)

among-append : (b : List ℕ) (l m : List (List ℕ)) → among b (l ++ m) ≡ among b l || among b m
unfolding among
among-append b [] m = refl
among-append b (x ∷ l) m = rw (among-append b l m) (sym (or_assoc (same b x) (among b l) (among b m)))

pub fine-append : (taken : Bool) (l m : List How) → Fine taken (l ++ m) → Fine taken l × Fine taken m
fine-append taken l m h =
    let r =
    or-neither (among (two require_atom) (properties l)) (among (two require_atom) (properties m))
    (sym (ap (among (two require_atom)) (properties-append l m) ∙ among-append (two require_atom) (properties l) (properties m)) ∙ h.1) in
    let f : taken ≡ true → (fits l ≡ true) × (fits m ≡ true) = λ q. both-true (fits l) (fits m) (sym (all-append (λ h. not (is_misplaced h)) l m) ∙ h.2 q) in
    let p : taken ≡ true → (all_plain l ≡ true) × (all_plain m ≡ true) = λ q. both-true (all_plain l) (all_plain m) (sym (plain-append l m) ∙ h.0 q) in
    ((λ q. (p q).0, r.0, λ q. (f q).0), (λ q. (p q).1, r.1, λ q. (f q).1))

pub fine-less : (plain taken : Bool) (l : List How) → (taken ≡ true → plain ≡ true) → Fine plain l → Fine taken l
fine-less plain taken l k h = ((λ q. h.0 (k q)), h.1, λ q. h.2 (k q))
