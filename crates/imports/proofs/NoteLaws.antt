-- A specifier of a resolved import: which one stands in the tree, and how it is noted and written.
use Rattle.std.specs.Prelude.{None, Result, Ok, Err}
use Prim.Native.Nat.{ℕ, ◌+◌, ◌≤◌, ◌<◌}
use native.Mathlib.Omega.{arith}
use mathlib.Core.Path.{◌≡◌, refl, sym, ap, ap₂, subst, ◌∙◌}
use mathlib.Core.Bool.{Bool, true, false, cond}
use mathlib.Core.List.{List, ◌∷◌, ◌++◌}
use lib.Dec.{eqb}
use lib.ListN.{length, get_or, take}
use lib.Seq.{slice, take-take}
use borrow.Author.Tests.{eqb-true, eqb-false, eq-eqb, ne_eqb}
use Rattle.writer.specs.Wrote.{Wrote}
use Rattle.writer.proofs.Wrote.{wrote-as}
use Rattle.scope.specs.Id.{export}
use Rattle.scope.specs.declared.id.Id.{Id}
use Rattle.scope.specs.declared.id.Atom.{Atom}
use Rattle.tree.specs.Layout.{Bytes, two, four, atom_at, id_at, name_of, context_of}
use Rattle.tree.specs.Tree.{Field, field, none, tag_of, fixed_of, encode}
use Rattle.tree.specs.Access.{fixed_at}
use Rattle.tree.specs.Standing.{tree_at}
use Rattle.tree.specs.Within.{Exact}
use Rattle.tree.proofs.WidthLaws.{plain-width}
use Rattle.tree.specs.declared.grammar.Value.TheVariants.{Id as id-value}
use Rattle.extraction_rules.specs.State.{State, Act}
use Rattle.extraction_rules.specs.First.{id_from, outside_name, note_id, note_named, noted_context, note_specifier}
use Rattle.extraction_rules.proofs.ExactLaws.{width-20}
use Rattle.extraction_rules.proofs.ShapeLaws.{one-of, specifier-is}
use Rattle.state.specs.Cells.{Env, id_by}
use Rattle.state.specs.Does.{Acts, Anyhow}
use Rattle.steps.specs.Step.{Step, Steps, ReadAt}
use Rattle.state.specs.declared.TableFull.{TableFull}
use Rattle.steps.specs.Refusal.{refusal}
use Rattle.steps.specs.declared.Why.TheVariants.{StringName, TableFull as no-room}
use Rattle.steps.proofs.SoundLaws.{read-bytes, read-short}
use Rattle.steps.proofs.StepsLaws.{steps-as, steps-never, steps-refused}
use Rattle.imports.specs.declared.note.Outside.{Outside}
use Rattle.imports.specs.declared.note.Outside.TheVariants.{Nothing, Name, Text}
use Rattle.imports.specs.declared.note.Specifier.{Specifier}
use Rattle.imports.specs.declared.note.Specifier.TheVariants.{Named, Default, Namespace}
use Rattle.imports.specs.Parts.{Framed, OutsideAt, OutsideIs, SpecifierIs, Specified, noting}
use Rattle.imports.proofs.WidthLaws.{byte-of, slice-of, framed-in, framed-exact, framed-tree, framed-length, width-text}
use Rattle.imports.proofs.MadeLaws.{acts-made, acts-full}

-- ---- Which specifier stands there

module _ {s : List ℕ} {at stop from : ℕ} (w : Framed s at stop from) where
  abbrev X : List ℕ
  X = slice (at + 3) from s

  -- an id
  pub specifier-id : 0x20 ≤ get_or s at 0 → get_or s at 0 ≤ 0x22 → at + 9 ≤ from
  specifier-id a b =
      let l = framed-length w in
      let i = (framed-in w).0 in
      let h =
      one-of (get_or s at 0) a b (λ (k : ℕ). Exact k X → 6 ≤ length X) (λ e. let z = (width-20 X e).0 in omega arith) (λ e. let z = plain-width 0x21 id-value refl X refl e in omega arith)
      (λ e. let z = plain-width 0x22 id-value refl X refl e in omega arith) (framed-exact w)
      in
      omega arith

  module _ (e : get_or s at 0 ≡ 0x20) where
    exact-named : Exact 0x20 X
    exact-named = subst (λ (k : ℕ). Exact k X) e (framed-exact w)

    -- and of a 20 the kind of its outside name
    pub named-kind : at + 10 ≤ from
    named-kind = let z = (width-20 X exact-named).0 in let l = framed-length w in let i = (framed-in w).0 in omega arith

    kind-byte : get_or X 6 0 ≡ get_or s (at + 9) 0
    kind-byte = let h = named-kind in byte-of (at + 3) from s 6 (at + 9) (omega arith) (omega arith)

    name-room : get_or s (at + 9) 0 ≡ 1 → at + 12 ≤ from
    name-room q = let z = (width-20 X exact-named).1 (kind-byte ∙ q) in let l = framed-length w in let i = (framed-in w).0 in omega arith

    text-room : (get_or s (at + 9) 0 ≡ 0 → ⊥) → (get_or s (at + 9) 0 ≡ 1 → ⊥) → (get_or X 6 0 ≡ 2) × (at + 12 ≤ from)
    text-room n m =
        let z = width-text X exact-named (λ q. n (sym kind-byte ∙ q)) (λ q. m (sym kind-byte ∙ q)) in
        let k = z.1 in
        let l = framed-length w in
        let i = (framed-in w).0 in
        (z.0, omega arith)

    pub outside-room : (at + 9 < length s) × ((get_or s (at + 9) 0 ≡ 0 → ⊥) → at + 9 + 3 ≤ length s)
    outside-room =
        let h = named-kind in
        let i = (framed-in w).2 in
        (omega arith, λ n. by (eqb (get_or s (at + 9) 0) 1) refl n)
      where
        by : (b : Bool) → eqb (get_or s (at + 9) 0) 1 ≡ b → (get_or s (at + 9) 0 ≡ 0 → ⊥) → at + 9 + 3 ≤ length s
        by true q n = let h = name-room (eqb-true (get_or s (at + 9) 0) 1 q) in let i = (framed-in w).2 in omega arith
        by false q n = let h = (text-room n (eqb-false (get_or s (at + 9) 0) 1 q)).1 in let i = (framed-in w).2 in omega arith

    outside-is : (o : Outside) → OutsideAt s (at + 9) o → OutsideIs X o
    unfolding outside_name
    outside-is Nothing h = rw (kind-byte, h) (refl, refl)
    outside-is (Name a) h =
        let k = name-room h.0 in (
          ap (λ (b : ℕ). eqb b 2) (kind-byte ∙ h.0),
          ap (λ (b : ℕ). cond (eqb b 1) (atom_at X 7) (name_of X)) (kind-byte ∙ h.0)
              ∙ slice-of (at + 3) from s 7 9 (at + 9 + 1) (at + 9 + 1 + 2) (omega arith) (omega arith) (omega arith) (framed-in w).2 ∙ sym h.1,
        )
    outside-is (Text a) h = eq-eqb (get_or X 6 0) 2 (text-room h.0 h.1).0

    pub specifier-named : (id : Id) (o : Outside) → id_by id ≡ id_at s (at + 3) → OutsideAt s (at + 9) o → SpecifierIs (tree_at s at stop) (Named id o)
    specifier-named id o i h =
        let k = named-kind in
        subst (λ (f : Field). SpecifierIs f (Named id o)) (sym (framed-tree w))
        (e, i ∙ sym (slice-of (at + 3) from s 0 6 (at + 3) (at + 3 + 6) (omega arith) (omega arith) (omega arith) (framed-in w).2), outside-is o h)

  -- a 21 or a 22 is an id
  whole-id : length X ≡ 6 → id_at s (at + 3) ≡ fixed_of (tree_at s at stop)
  whole-id n =
      let l = framed-length w in
      let k = (framed-in w).0 in
      let z : at + 3 + 6 ≡ from = omega arith in
      ap (λ (j : ℕ). slice (at + 3) j s) z ∙ sym (ap fixed_of (framed-tree w))

  default-id : get_or s at 0 ≡ 0x21 → id_at s (at + 3) ≡ fixed_of (tree_at s at stop)
  default-id e = whole-id (plain-width 0x21 id-value refl X e (framed-exact w))

  namespace-id : get_or s at 0 ≡ 0x22 → id_at s (at + 3) ≡ fixed_of (tree_at s at stop)
  namespace-id e = whole-id (plain-width 0x22 id-value refl X e (framed-exact w))

  tag-is : tag_of (tree_at s at stop) ≡ get_or s at 0
  tag-is = ap tag_of (framed-tree w)

  pub specifier-default : (id : Id) → get_or s at 0 ≡ 0x21 → id_by id ≡ id_at s (at + 3) → SpecifierIs (tree_at s at stop) (Default id)
  specifier-default id e i = (tag-is ∙ e, i ∙ default-id e)

  pub specifier-namespace : (id : Id) → get_or s at 0 ≡ 0x22 → id_by id ≡ id_at s (at + 3) → SpecifierIs (tree_at s at stop) (Namespace id)
  specifier-namespace id e i = (tag-is ∙ e, i ∙ namespace-id e)

-- ---- A 20

-- its id is noted in a context, which its outside name gets
abbrev noted : Id → ℕ → ℕ → ℕ → Act Field
noted id name c at = noting (record { id = id_by id; context = four c }) (field 0x20 (id_by id ++ 1 ∷ id_from (two name) c) none) at

module _ (id : Id) (name n at : ℕ) {c : ℕ} (e : c ≡ export n) {t t' : List ℕ} {r : Result Unit TableFull} (w : Acts Anyhow (λ _. note_id (record { id = id_by id; context = four c })) t t' r) where
  pub as-made : {out out' : List ℕ} {o p : ℕ} → r ≡ Ok tt → Wrote out o (encode (field 0x20 (id_by id ++ 1 ∷ (two name ++ four c)) none)) out' p →
      Steps encode (λ x u. Unit {0}) (λ _. noted id name (export n) at) t out o t' out' (Ok p)
  as-made {out} {out'} {o} {p} k v =
      subst (λ (j : ℕ). Steps encode (λ x u. Unit {0}) (λ _. noted id name j at) t out o t' out' (Ok p)) e
      (acts-made at (field 0x20 (id_by id ++ 1 ∷ id_from (two name) c) none) w k v.size (λ x s u. v))

  pub as-full : {out : List ℕ} {o : ℕ} {y : TableFull} → r ≡ Err y → Steps encode (λ x u. Unit {0}) (λ _. noted id name (export n) at) t out o t' out (Err (refusal no-room at))
  as-full {out} {o} k =
      subst (λ (j : ℕ). Steps encode (λ x u. Unit {0}) (λ _. noted id name j at) t out o t' out (Err (refusal no-room at))) e
      (acts-full at (field 0x20 (id_by id ++ 1 ∷ id_from (two name) c) none) w k)

module _ (id : Id) (n at : ℕ) (x : List ℕ) (i : id_by id ≡ id_at x 0) {t t' out out' : List ℕ} {o : ℕ} {r : Step} where
  named-as : (name : ℕ) → eqb (get_or x 6 0) 2 ≡ false → outside_name x ≡ two name → Steps encode (λ x u. Unit {0}) (λ _. noted id name (export n) at) t out o t' out' r →
      Steps encode (λ x u. Unit {0}) (λ _. note_named n x at) t out o t' out' r
  unfolding note_named
  named-as name f g w =
      steps-as _ w (λ y s u. (
        u,
        rw (f, g) (ap (λ (k : List ℕ). noting (record { id = k; context = four (export n) }) (field 0x20 (k ++ 1 ∷ id_from (two name) (export n)) none) at s) (sym i)),
      ))

  pub named-name : {y : Outside} (a : Atom) → y ≡ Name a → OutsideIs x y → Steps encode (λ x u. Unit {0}) (λ _. noted id a.0 (export n) at) t out o t' out' r →
      Steps encode (λ x u. Unit {0}) (λ _. note_named n x at) t out o t' out' r
  named-name a e h w = let k = subst (OutsideIs x) e h in named-as a.0 k.0 k.1 w

  pub named-nothing : {y : Outside} → y ≡ Nothing → OutsideIs x y → Steps encode (λ x u. Unit {0}) (λ _. noted id id.0.0 (export n) at) t out o t' out' r →
      Steps encode (λ x u. Unit {0}) (λ _. note_named n x at) t out o t' out' r
  named-nothing e h w =
      let k = subst (OutsideIs x) e h in
      named-as id.0.0 k.0 (k.1 ∙ sym (ap (take 2) i ∙ take-take 2 6 x (omega arith))) w

pub named-text : (x : List ℕ) {y : Outside} {a : Atom} (n at : ℕ) {t out : List ℕ} {o : ℕ} → y ≡ Text a → OutsideIs x y →
    Steps encode (λ x u. Unit {0}) (λ _. note_named n x at) t out o t out (Err (refusal StringName at))
unfolding note_named
named-text x n at e h = let k = subst (OutsideIs x) e h in steps-refused refl (λ y s u v. rw k refl)

-- ---- The specifier that was told

module _ {s : List ℕ} {at stop from : ℕ} (w : Framed s at stop from) (n : ℕ) (y : Specifier) (h : SpecifierIs (tree_at s at stop) y) {t t' out out' : List ℕ} {o : ℕ} {r : Step} where
  pub given-named : {id : Id} {q : Outside} → y ≡ Named id q →
      ((x : List ℕ) → id_by id ≡ id_at x 0 → OutsideIs x q → Steps encode (λ x u. Unit {0}) (λ _. note_named n x at) t out o t' out' r) →
      Steps encode (λ x u. Specified s at stop) (λ _. note_specifier n (tree_at s at stop) at) t out o t' out' r
  unfolding note_specifier
  given-named e v =
      let k = subst (SpecifierIs (tree_at s at stop)) e h in
      steps-as _ (v (fixed_of (tree_at s at stop)) k.1 k.2) (λ x u z. (tt, rw (eq-eqb (tag_of (tree_at s at stop)) 0x20 k.0) refl))

  given-as : (c : List ℕ) → (tag_of (tree_at s at stop) ≡ 0x20 → ⊥) → id_at s (at + 3) ≡ fixed_of (tree_at s at stop) → c ≡ noted_context n (tree_at s at stop) →
      Steps encode (λ x u. ReadAt s at stop) (λ _. noting (record { id = id_at s (at + 3); context = c }) (tree_at s at stop) at) t out o t' out' r →
      Steps encode (λ x u. Specified s at stop) (λ _. note_specifier n (tree_at s at stop) at) t out o t' out' r
  unfolding note_specifier
  given-as c m d e v =
      let f = tree_at s at stop in
      steps-as _ v (λ x u k. (
        k.read,
        ap (λ (b : Bool). cond b (note_named n (fixed_of f) at) (noting (record { id = fixed_of f; context = noted_context n f }) f at) u) (ne_eqb (tag_of f) 0x20 m)
            ∙ ap₂ (λ (a b : List ℕ). noting (record { id = a; context = b }) f at u) (sym d) (sym e),
      ))

  pub given-default : {id : Id} → y ≡ Default id →
      Steps encode (λ x u. ReadAt s at stop) (λ _. noting (record { id = id_at s (at + 3); context = four id.1.0 }) (tree_at s at stop) at) t out o t' out' r →
      Steps encode (λ x u. Specified s at stop) (λ _. note_specifier n (tree_at s at stop) at) t out o t' out' r
  given-default {id} e v =
      let f = tree_at s at stop in
      let k = subst (SpecifierIs f) e h in
      let j = k.0 in
      given-as (four id.1.0) (λ z. omega arith) (default-id w (sym (tag-is w) ∙ k.0))
      (ap context_of k.1 ∙ ap (λ (b : Bool). cond b (context_of (fixed_of f)) (four (export n))) (sym (eq-eqb (tag_of f) 0x21 k.0))) v

  pub given-namespace : {id : Id} {c : ℕ} → y ≡ Namespace id → c ≡ export n →
      Steps encode (λ x u. ReadAt s at stop) (λ _. noting (record { id = id_at s (at + 3); context = four c }) (tree_at s at stop) at) t out o t' out' r →
      Steps encode (λ x u. Specified s at stop) (λ _. note_specifier n (tree_at s at stop) at) t out o t' out' r
  given-namespace {c = c} e i v =
      let f = tree_at s at stop in
      let k = subst (SpecifierIs f) e h in
      let j = k.0 in
      given-as (four c) (λ z. omega arith) (namespace-id w (sym (tag-is w) ∙ k.0))
      (ap four i ∙ ap (λ (b : Bool). cond b (context_of (fixed_of f)) (four (export n))) (sym (ne_eqb (tag_of f) 0x21 (λ z. omega arith)))) v

-- ---- A 21 or a 22

-- its id is as it stands in the tree
pub noted-as : {i j : List ℕ} (c : List ℕ) {t t' : List ℕ} {r : Result Unit TableFull} → i ≡ j → Acts Anyhow (λ _. note_id (record { id = i; context = c })) t t' r →
    Acts Anyhow (λ _. note_id (record { id = j; context = c })) t t' r
noted-as c {t} {t'} {r} e w = subst (λ (k : List ℕ). Acts Anyhow (λ _. note_id (record { id = k; context = c })) t t' r) e w

-- and it stays as it is
pub other-copied : {s : List ℕ} {at stop : ℕ} {out out' : List ℕ} {o p : ℕ} → Bytes s → Wrote out o (slice at stop s) out' p → (x : Env) (u : State) → ReadAt s at stop →
    Wrote out o (encode (tree_at s at stop)) out' p
other-copied b w x u r = wrote-as w (sym (read-bytes r b))

-- ---- Fields that are no specifiers

module _ {s : List ℕ} {at stop : ℕ} {act : Env → Act Field} {t out : List ℕ} {o p : ℕ} where
  pub specified-short : fixed_at s (get_or s at 0) (at + 3) stop ≡ None → Steps encode (λ x u. Specified s at stop) act t out o t out (Ok p)
  specified-short e = steps-never _ _ _ _ (λ x u k. read-short k.read e)

  pub specified-else : (0x20 ≤ get_or s at 0 → get_or s at 0 ≤ 0x22 → ⊥) → Steps encode (λ x u. Specified s at stop) act t out o t out (Ok p)
  specified-else e = steps-never _ _ _ _ (λ x u k. let i = specifier-is (get_or s at 0) k.specifier in e i.0 i.1)
