-- An export specifier: its exported name as it stands in the tree, and what the code does with it.
use Rattle.std.specs.Prelude.{Ok, Err}
use Prim.Native.Nat.{ℕ, ◌+◌, ◌≤◌}
use native.Mathlib.Omega.{arith}
use mathlib.Core.Path.{◌≡◌, refl, sym, ap, ap₂, subst, ◌∙◌}
use mathlib.Core.Bool.{Bool, true, false, cond}
use mathlib.Core.List.{List, [], ◌∷◌, ◌++◌}
use lib.Dec.{eqb}
use lib.ListN.{length, get_or, take}
use lib.Seq.{slice}
use borrow.Author.Tests.{eqb-true, eq-eqb, ne_eqb}
use Rattle.writer.specs.Wrote.{Wrote}
use Rattle.writer.proofs.Wrote.{wrote-as}
use Rattle.tree.specs.Layout.{Bytes, two, two_at, atom_at, id_at}
use Rattle.tree.specs.Tree.{field, none, fixed_of, encode}
use Rattle.tree.specs.Standing.{tree_at, row_at}
use Rattle.tree.specs.Within.{Exact}
use Rattle.tree.proofs.LayoutLaws.{two_at-is}
use Rattle.tree.proofs.SliceLaws.{take-slice}
use Rattle.scope.specs.Id.{local}
use Rattle.scope.specs.declared.id.Id.{Id}
use Rattle.extraction_rules.specs.First.{id_from, exported_name, export_specifier, force_id}
use Rattle.extraction_rules.proofs.ExactLaws.{width-23}
use Rattle.state.specs.Cells.{id_by, Shows}
use Rattle.state.specs.Does.{Turns, Says}
use Rattle.steps.specs.Step.{Steps}
use Rattle.steps.specs.Refusal.{refusal}
use Rattle.steps.specs.declared.Why.TheVariants.{StringName}
use Rattle.steps.proofs.StepsLaws.{steps-done, steps-refused}
use Rattle.imports.specs.Parts.{Framed, exported_at}
use Rattle.imports.proofs.WidthLaws.{byte-of, slice-of, framed-in, framed-exact, framed-tree, framed-length}

-- ---- The exported name

pub exported-given : (s : List ℕ) (at : ℕ) {n : ℕ} → Bytes s → get_or s (at + 10) 0 ≡ 1 → at + 13 ≤ length s → n ≡ two_at s (at + 11) → two n ≡ exported_at s at
unfolding exported_at
exported-given s at b e h f = rw (eq-eqb (get_or s (at + 10) 0) 1 e) (ap two f ∙ two_at-is s (at + 11) b (omega arith))

pub exported-filled : (s : List ℕ) (at : ℕ) {n : ℕ} → Bytes s → (get_or s (at + 10) 0 ≡ 1 → ⊥) → at + 11 ≤ length s → n ≡ two_at s (at + 4) → two n ≡ exported_at s at
unfolding exported_at
exported-filled s at b e h f = rw (ne_eqb (get_or s (at + 10) 0) 1 e) (ap two f ∙ two_at-is s (at + 4) b (omega arith))

-- ---- The fixed bytes of a 23

nonempty : (x : List ℕ) → get_or x 0 0 ≡ 2 → 1 ≤ length x
nonempty [] e = absurd (omega arith)
nonempty (a ∷ x) e = omega arith

module _ {s : List ℕ} {at stop from : ℕ} (e : get_or s at 0 ≡ 0x23) (w : Framed s at stop from) where
  abbrev X : List ℕ
  X = slice (at + 3) from s

  tree-of : tree_at s at stop ≡ field 0x23 X (row_at s from stop)
  tree-of = framed-tree w ∙ ap (λ (k : ℕ). field k X (row_at s from stop)) e

  exact-of : Exact 0x23 X
  exact-of = subst (λ (k : ℕ). Exact k X) e (framed-exact w)

  fixed-of : fixed_of (tree_at s at stop) ≡ X
  fixed-of = ap fixed_of tree-of

  -- the kind of the original
  pub export-first : at + 4 ≤ from
  export-first = by (eqb (get_or X 0 0) 2) refl
    where
      by : (b : Bool) → eqb (get_or X 0 0) 2 ≡ b → at + 4 ≤ from
      by false q = let k = (width-23 X exact-of q).1 in let l = framed-length w in let i = (framed-in w).0 in omega arith
      by true q = let k = nonempty X (eqb-true (get_or X 0 0) 2 q) in let l = framed-length w in let i = (framed-in w).0 in omega arith

  first-byte : get_or X 0 0 ≡ get_or s (at + 3) 0
  first-byte = let h = export-first in byte-of (at + 3) from s 0 (at + 3) (omega arith) (omega arith)

  pub export-string : {t out : List ℕ} {o : ℕ} → get_or s (at + 3) 0 ≡ 2 →
      Steps encode (λ x u. Unit {0}) (λ x. export_specifier x.setting (fixed_of (tree_at s at stop)) at) t out o t out (Err (refusal StringName at))
  unfolding export_specifier
  export-string q = steps-refused refl (λ x s k u. rw (fixed-of, eq-eqb (get_or X 0 0) 2 (first-byte ∙ q)) refl)

  module _ (n : get_or s (at + 3) 0 ≡ 2 → ⊥) where
    no-string : eqb (get_or X 0 0) 2 ≡ false
    no-string = ne_eqb (get_or X 0 0) 2 (λ z. n (sym first-byte ∙ z))

    -- the exported name's kind, and its name
    pub export-second : at + 11 ≤ from
    export-second = let k = (width-23 X exact-of no-string).1 in let l = framed-length w in let i = (framed-in w).0 in omega arith

    second-byte : get_or X 7 0 ≡ get_or s (at + 10) 0
    second-byte = let h = export-second in byte-of (at + 3) from s 7 (at + 10) (omega arith) (omega arith)

    export-third : get_or s (at + 10) 0 ≡ 1 → at + 17 ≤ from
    export-third q =
        let k = (width-23 X exact-of no-string).2 (second-byte ∙ q) in
        let l = framed-length w in
        let i = (framed-in w).0 in
        omega arith

    pub export-room : (at + 11 ≤ length s) × (get_or s (at + 10) 0 ≡ 1 → at + 13 ≤ length s)
    export-room = let i = (framed-in w).2 in let h = export-second in (omega arith, λ q. let k = export-third q in omega arith)

    pub export-outside : {t out : List ℕ} {o : ℕ} → get_or s (at + 10) 0 ≡ 2 →
        Steps encode (λ x u. Unit {0}) (λ x. export_specifier x.setting (fixed_of (tree_at s at stop)) at) t out o t out (Err (refusal StringName at))
    unfolding export_specifier
    export-outside q = steps-refused refl (λ x s k u. rw (fixed-of, no-string, eq-eqb (get_or X 7 0) 2 (second-byte ∙ q)) refl)

    name_is : exported_name X ≡ exported_at s at
    unfolding exported_name exported_at
    name_is = ap (λ (b : ℕ). cond (eqb b 1) (atom_at X 8) (atom_at X 1)) second-byte ∙ by (eqb (get_or s (at + 10) 0) 1) refl
      where
        by : (b : Bool) → eqb (get_or s (at + 10) 0) 1 ≡ b → cond b (atom_at X 8) (atom_at X 1) ≡ cond b (atom_at s (at + 11)) (atom_at s (at + 4))
        by true q =
            let k = export-third (eqb-true (get_or s (at + 10) 0) 1 q) in
            slice-of (at + 3) from s 8 10 (at + 11) (at + 11 + 2) (omega arith) (omega arith) (omega arith) (framed-in w).2
        by false q = let k = export-second in slice-of (at + 3) from s 1 3 (at + 4) (at + 4 + 2) (omega arith) (omega arith) (omega arith) (framed-in w).2

    front-is : take 7 X ≡ slice (at + 3) (at + 10) s
    front-is =
        let h = export-second in
        let e : at + 3 + 7 ≡ at + 10 = omega arith in
        take-slice 7 (at + 3) from s (omega arith) (framed-in w).2 ∙ ap (λ (k : ℕ). slice (at + 3) k s) e

    original-is : id_at X 1 ≡ id_at s (at + 4)
    original-is = let h = export-second in slice-of (at + 3) from s 1 7 (at + 4) (at + 4 + 6) (omega arith) (omega arith) (omega arith) (framed-in w).2

    pub export-made : {t t' out out' : List ℕ} {o p c n : ℕ} (id : Id) → (get_or s (at + 10) 0 ≡ 2 → ⊥) → id_by id ≡ id_at s (at + 4) → Turns (force_id (id_by id)) t t' →
        Says (λ y. y.own) t' n → c ≡ local n → Wrote out o (encode (field 0x23 (slice (at + 3) (at + 10) s ++ 1 ∷ id_from (exported_at s at) c) none)) out' p →
        Steps encode (λ x u. Unit {0}) (λ x. export_specifier x.setting (fixed_of (tree_at s at stop)) at) t out o t' out' (Ok p)
    unfolding export_specifier
    export-made {t' = t'} {c = c} id m i f q l v =
        steps-done v.size (λ x u k b.
        let own = q.is (force_id (id_by id) u) (f.shows u k) in
        record {
          value = field 0x23 (take 7 X ++ 1 ∷ id_from (exported_name X) (local x.setting.own)) none;
          state = force_id (id_at X 1) u;
          is = rw (fixed-of, no-string, ne_eqb (get_or X 7 0) 2 (λ z. m (sym second-byte ∙ z))) refl;
          wrote =
              wrote-as v (ap encode
              (ap₂ (λ (a b : List ℕ). field 0x23 (a ++ 1 ∷ id_from b c) none) (sym front-is) (sym name_is)
              ∙ ap (λ (a : ℕ). field 0x23 (take 7 X ++ 1 ∷ id_from (exported_name X) a) none) (l ∙ ap local own)));
          shows = subst (λ (j : List ℕ). Shows x t' (force_id j u)) (i ∙ sym original-is) (f.shows u k);
        })
