-- A walked call that meets the require conditions has a 60 for its callee, with an id of six bytes.
use Rattle.std.specs.Prelude.{Option, None, Some}
use Prim.Native.Nat.{ℕ, ◌+◌}
use native.Mathlib.Omega.{arith}
use mathlib.Core.Path.{◌≡◌, refl, sym, ap, ◌∙◌}
use mathlib.Core.Bool.{Bool, true, false, cond}
use mathlib.Core.List.{List, [], ◌∷◌, ◌++◌, map}
use lib.Dec.{eqb}
use lib.ListN.{length, length-append}
use borrow.Author.Tests.{eqb-true, eq-eqb}
use Rattle.tables.specs.Rows.{Row, rows}
use Rattle.tree.specs.declared.grammar.Rule.{Rule}
use Rattle.tree.specs.Layout.{same}
use Rattle.tree.specs.Tree.{Field, field, Fields, none, more, tag_of, fixed_of, size}
use Rattle.tree.proofs.WidthLaws.{plain-width}
use Rattle.tree.specs.declared.grammar.Value.TheVariants.{Id}
use Rattle.inputs.specs.Lists.{find, mapped}
use Rattle.inputs.specs.Fields.{has}
use Rattle.extraction_rules.specs.State.{Imported, Usage, State, Pass, first, second, Setting}
use Rattle.extraction_rules.specs.First.{imported_as, required}
use Rattle.extraction_rules.specs.Second.{usages_of}
use Rattle.extraction_rules.specs.Walk.{walk, walk_all}
use Rattle.extraction_rules.proofs.OutcomeLaws.{After, after-bind}
use Rattle.extraction_rules.proofs.ValueLaws.{after-any, required-call}
use Rattle.extraction_rules.proofs.AlikeLaws.{RegularAll}
use Rattle.extraction_rules.proofs.ShapeLaws.{Shaped, ShapedAll, name-width}
use Rattle.state.specs.Cells.{Env, imports, table_of, imported_of, Shows}
use Rattle.expressions.specs.After.{ident_of, as_ident, becomes, ident_after, member_after}
use Rattle.expressions.proofs.IdentLaws.{walk-ident}
use Rattle.walking.specs.Walking.{Called}
use Rattle.scope.proofs.Laws.{none-some}

-- ---- Contexts

abbrev pub FourBytes : State → Type 0
FourBytes u = (i c : List ℕ) → imported_as i u.imported ≡ Some c → length c ≡ 4

rows-four : (l : List Row) (i c : List ℕ) → imported_as i (map imported_of l) ≡ Some c → length c ≡ 4
unfolding imported_as find
rows-four [] i c h = none-some h
rows-four (r ∷ l) i c h = go (same (imported_of r).id i) (rows-four l i c) h
  where
    go : (b : Bool) → (mapped (λ (m : Imported). m.context) (find (λ (m : Imported). same m.id i) (map imported_of l)) ≡ Some c → length c ≡ 4) →
        mapped (λ (m : Imported). m.context) (cond b (Some (imported_of r)) (find (λ (m : Imported). same m.id i) (map imported_of l))) ≡ Some c → length c ≡ 4
    go true k h = let z : (imported_of r).context ≡ c = cc in sym (ap length z)
    go false k h = k h

-- imported contexts have four bytes in every state that is shown
pub four-shown : {x : Env} {t : List ℕ} {u : State} → Shows x t u → FourBytes u
four-shown {t = t} {u} w i c h = rows-four (rows (table_of imports) t) i c (ap (imported_as i) w.imported ∙ h)

-- ---- Ids

as-width : (us : List Usage) (d : Option (List ℕ)) (q : Field) (y : List ℕ) → ((c : List ℕ) → d ≡ Some c → length c ≡ 4) → Shaped q → as_ident us d q ≡ Some y → length y ≡ 6
unfolding as_ident
as-width [] d q y f w h = none-some h
as-width (u ∷ us) None q y f w h = none-some h
as-width (u ∷ us) (Some c) q y f w h = go (has 0x70 q) refl h
  where
    go : (b : Bool) → has 0x70 q ≡ b → cond b (Some (fixed_of q ++ c)) None ≡ Some y → length y ≡ 6
    go true k h =
        let z : fixed_of q ++ c ≡ y = cc in
        let n = name-width q w (eqb-true (tag_of q) 0x70 k) in
        let m = f c refl in
        let l = length-append (fixed_of q) c in
        sym (ap length z) ∙ omega arith
    go false k h = none-some h

becomes-width : (k : Pass) (i : Option (List ℕ)) (q : Field) (u : State) (y : List ℕ) → FourBytes u → Shaped q → becomes k i q u ≡ Some y → length y ≡ 6
unfolding becomes
becomes-width first i q u y f w h = none-some h
becomes-width second None q u y f w h = none-some h
becomes-width second (Some i) q u y f w h = as-width (usages_of i u.usages) (imported_as i u.imported) q y (λ c k. f i c k) w h

member-width : (cs : Fields) (r : Rule) (k : Pass) (u : State) (y : List ℕ) → FourBytes u → ShapedAll cs r → member_after cs k u ≡ Some y → length y ≡ 6
unfolding ident_after
member-width none r k u y f w h = none-some h
member-width (more o none) r k u y f w h = none-some h
member-width (more o (more q qs)) r k u y f w h = becomes-width k (ident_after o k u) q u y f w.3.2 h

-- what an expression becomes is an id of six bytes
ident-width : (g : Field) (k : Pass) (u : State) (y : List ℕ) → FourBytes u → Shaped g → ident_after g k u ≡ Some y → length y ≡ 6
unfolding ident_after
ident-width (field t x cs) k u y f w h = go (eqb t 0x63) refl (eqb t 0x60) refl h
  where
    go : (a : Bool) → eqb t 0x63 ≡ a → (b : Bool) → eqb t 0x60 ≡ b → cond a (member_after cs k u) (cond b (Some x) None) ≡ Some y → length y ≡ 6
    go true p b q h = member-width cs _ k u y f w.1 h
    go false p true q h = let z : x ≡ y = cc in sym (ap length z) ∙ plain-width 0x60 Id refl x (eqb-true t 0x60 q) w.0
    go false p false q h = none-some h

-- ---- A walked call

called-by : (e : Setting) (c' : Field) (gs : Fields) (l : List ℕ) → ((y : List ℕ) → ident_of c' ≡ Some y → length y ≡ 6) → required e (field 0x65 [] (more c' gs)) ≡ Some l →
    Called (field 0x65 [] (more c' gs))
unfolding ident_of
called-by e (field t y ds) gs l f h =
    let q = (required-call e 0x65 [] (field t y ds) gs l h).1 in
    (y, ds, gs, ap (λ (n : ℕ). field 0x65 [] (more (field n y ds) gs)) q, f y (ap (λ (b : Bool). cond b (Some y) None) (eq-eqb t 0x60 q)))

pub walked-called : (e : Setting) (cs : Fields) (r : Rule) (object : Bool) (p : ℕ) (u : State) → FourBytes u → RegularAll cs → ShapedAll cs r →
    After (walk_all cs e object p u) (λ ds v. (l : List ℕ) → required e (field 0x65 [] ds) ≡ Some l → Called (field 0x65 [] ds))
unfolding walk required
walked-called e none r object p u f w g = λ l h. none-some h
walked-called e (more c gs) r object p u f w g =
    after-bind (walk c e object p u) _ _ _ (walk-ident e c object p u w.0) λ c' u' b.
    after-bind (walk_all gs e object (p + size c) u') _ (λ _ _. Unit {0}) _ (after-any (walk_all gs e object (p + size c) u')) λ gs' u'' _.
    λ l h. called-by e c' gs' l (λ y k. ident-width c e.pass u y f g.2 (b.0 ∙ k)) h
