-- A 63 of a 60 and a 70 as an expression: what it becomes in the second pass, and its usage in the first.
use Rattle.std.specs.Prelude.{Option, None, Some, Ok}
use Prim.Native.Nat.{ℕ, ◌+◌, ◌≤◌}
use native.Mathlib.Omega.{arith}
use mathlib.Core.Path.{◌≡◌, refl, sym, ap, subst, ◌∙◌}
use mathlib.Core.Bool.{Bool, true, false}
use mathlib.Core.List.{List, [], ◌∷◌, ◌++◌}
use lib.ListN.{length}
use lib.Seq.{slice}
use Rattle.scope.specs.declared.id.Id.{Id}
use Rattle.scope.specs.declared.id.SyntaxContext.{SyntaxContext}
use Rattle.tree.specs.Layout.{Bytes, two, four, two_at, atom_at, id_at}
use Rattle.tree.specs.Tree.{Field, field, Fields, none, more, encode, tag_of}
use Rattle.tree.specs.Standing.{tree_at}
use Rattle.tree.proofs.LayoutLaws.{two_at-is}
use Rattle.tree.proofs.WidthLaws.{tree-bare}
use Rattle.writer.specs.Wrote.{Wrote}
use Rattle.inputs.specs.Outcome.{Outcome, done, onto}
use Rattle.inputs.specs.Fields.{inside}
use Rattle.extraction_rules.specs.State.{Usage, State, first, second, Setting}
use Rattle.extraction_rules.specs.First.{imported_as, on_ident, use_imported, usage}
use Rattle.extraction_rules.specs.Second.{usages_of}
use Rattle.extraction_rules.specs.Walk.{walk}
use Rattle.extraction_rules.proofs.AlikeLaws.{Regular}
use Rattle.state.specs.Cells.{Env, id_by, Shows}
use Rattle.state.specs.Does.{Tells, any, context_by}
use Rattle.expressions.specs.After.{as_ident, becomes, ident_after}
use Rattle.steps.specs.Step.{Sound, Step, Steps}
use Rattle.steps.proofs.StepsLaws.{steps-done, steps-did}
use Rattle.walking.specs.Walking.{FieldSteps, NameIs, InPass}
use Rattle.walking.proofs.NodeLaws.{as-target}
use Rattle.walking.proofs.LeafLaws.{as-stands, named, both-stay, node-name}
use Rattle.walking.proofs.ChainLaws.{ident-walks, member-stays}
use Rattle.walking.proofs.ExpressionLaws.{member-used}

-- ---- What it becomes

abbrev name_on : List ℕ → List ℕ → Field
name_on i a = field 0x63 [] (more (field 0x60 i none) (more (field 0x70 a none) none))

name-after : (i a : List ℕ) (u : State) → ident_after (name_on i a) second u ≡ as_ident (usages_of i u.usages) (imported_as i u.imported) (field 0x70 a none)
unfolding ident_after becomes
name-after i a u = refl

as-unused : (us : List Usage) (c : Option (List ℕ)) (q : Field) → any us ≡ false → as_ident us c q ≡ None
unfolding as_ident
as-unused [] c q h = refl
as-unused (u ∷ us) c q h = absurd (let z : ◌≡◌ {A = ℕ} 0 1 = cc in omega arith)

as-nowhere : (us : List Usage) (q : Field) → as_ident us None q ≡ None
unfolding as_ident
as-nowhere [] q = refl
as-nowhere (u ∷ us) q = refl

as-used : (us : List Usage) (c a : List ℕ) → any us ≡ true → as_ident us (Some c) (field 0x70 a none) ≡ Some (a ++ c)
unfolding as_ident
as-used [] c a h = absurd (let z : ◌≡◌ {A = ℕ} 0 1 = cc in omega arith)
as-used (u ∷ us) c a h = refl

unimported : (e : Setting) (i a : List ℕ) (p : ℕ) (u : State) → imported_as i u.imported ≡ None → usage (on_ident (name_on i a)) e p u ≡ done (tt, u)
unfolding on_ident usage use_imported
unimported e i a p u h = rw h refl

-- ---- As it stands in the tree

module _ (s : List ℕ) (bytes : Bytes s) (at stop : ℕ) (h : at + 3 ≤ stop) (n : NameIs s at true) (id : Id) (i : id_by id ≡ id_at s (at + 6)) where
  name-tree : Sound s at stop → tree_at s at stop ≡ name_on (id_by id) (atom_at s (at + 15))
  name-tree w =
      let d = named s at stop h w n in
      tree-bare 0x63 refl s at stop h n.0 ∙ ap (field 0x63 []) d.row
      ∙ ap (λ (f : Field). field 0x63 [] (more f (more d.name none))) (d.object_is ∙ ap (λ (x : List ℕ). field 0x60 x none) (sym i))
      ∙ ap (λ (f : Field). field 0x63 [] (more (field 0x60 (id_by id) none) (more f none))) d.name_is

  module _ {t : List ℕ} where
    -- in the second pass it stays
    stays : (object : Bool) {out out' : List ℕ} {o p : ℕ} → InPass second t → Wrote out o (slice at stop s) out' p →
        ((y : Env) (u : State) → Sound s at stop → Shows y t u → ident_after (name_on (id_by id) (atom_at s (at + 15))) second u ≡ None) →
        FieldSteps s at stop (λ y. walk (tree_at s at stop) y.setting object at) t out o t out' (Ok p)
    stays object two v k =
        as-stands (λ y. walk (tree_at s at stop) y.setting object at) bytes v (λ y u r w.
        let d = named s at stop h w n in
        let z = tree-bare 0x63 refl s at stop h n.0 ∙ ap (field 0x63 []) d.row in
        ap (λ (f : Field). walk f y.setting object at u) z
        ∙ member-stays y.setting (two y u r) [] (more d.object (more d.name none)) object at u (subst Regular z w.regular)
        (ap (λ (f : Field). ident_after f second u) (sym z ∙ name-tree w) ∙ k y u w r)
        ∙ ap (λ (m : Outcome (Fields × State)). onto m (λ r. done (field 0x63 [] r.0, r.1)))
        (both-stay y.setting d.object d.name (inside at []) u d.object_regular d.name_regular (ap tag_of d.object_is) (ap tag_of d.name_is))
        ∙ ap (λ (f : Field). done (f, u)) (sym z))

    pub name-unused : (object : Bool) {b : Bool} {out out' : List ℕ} {o p : ℕ} → InPass second t → Tells (λ u. any (usages_of (id_by id) u.usages)) t b → b ≡ false →
        Wrote out o (slice at stop s) out' p → FieldSteps s at stop (λ y. walk (tree_at s at stop) y.setting object at) t out o t out' (Ok p)
    name-unused object {b} two m e v =
        stays object two v (λ y u w r.
        name-after (id_by id) (atom_at s (at + 15)) u
        ∙ as-unused (usages_of (id_by id) u.usages) (imported_as (id_by id) u.imported) (field 0x70 (atom_at s (at + 15)) none)
        (sym (m.is u r) ∙ e))

    pub name-nowhere : (object : Bool) {c : Option SyntaxContext} {out out' : List ℕ} {o p : ℕ} → InPass second t → Tells (λ u. imported_as (id_by id) u.imported) t (context_by c) → c ≡ None →
        Wrote out o (slice at stop s) out' p → FieldSteps s at stop (λ y. walk (tree_at s at stop) y.setting object at) t out o t out' (Ok p)
    name-nowhere object two m e v =
        stays object two v (λ y u w r.
        name-after (id_by id) (atom_at s (at + 15)) u
        ∙ ap (λ (c : Option (List ℕ)). as_ident (usages_of (id_by id) u.usages) c (field 0x70 (atom_at s (at + 15)) none)) (sym (m.is u r) ∙ ap context_by e)
        ∙ as-nowhere (usages_of (id_by id) u.usages) (field 0x70 (atom_at s (at + 15)) none))

    -- or becomes a 60
    pub name-becomes : (object : Bool) {b : Bool} {c : Option SyntaxContext} {a : ℕ} {d : SyntaxContext} {out out' : List ℕ} {o p : ℕ} → InPass second t →
        Tells (λ u. any (usages_of (id_by id) u.usages)) t b → b ≡ true → Tells (λ u. imported_as (id_by id) u.imported) t (context_by c) → c ≡ Some d → a ≡ two_at s (at + 15) →
        Wrote out o (encode (field 0x60 (two a ++ four d.0) none)) out' p → FieldSteps s at stop (λ y. walk (tree_at s at stop) y.setting object at) t out o t out' (Ok p)
    name-becomes object {b} {a = a} {d} again m e k f z v =
        steps-done v.size (λ y u r w. record {
          value = field 0x60 (two a ++ four d.0) none;
          state = u;
          is =
              ident-walks y.setting (again y u r) (tree_at s at stop) object at u (two a ++ four d.0) w.0.regular
              (ap (λ (f : Field). ident_after f second u) (name-tree w.0) ∙ name-after (id_by id) (atom_at s (at + 15)) u
              ∙ ap (λ (c : Option (List ℕ)). as_ident (usages_of (id_by id) u.usages) c (field 0x70 (atom_at s (at + 15)) none)) (sym (k.is u r) ∙ ap context_by f)
              ∙ as-used (usages_of (id_by id) u.usages) (four d.0) (atom_at s (at + 15)) (sym (m.is u r) ∙ e)
              ∙ ap (λ (l : List ℕ). Some (l ++ four d.0)) (sym (ap two z ∙ two_at-is s (at + 15) bytes (fits n.3))));
          wrote = v;
          shows = r;
        })
      where
        fits : at + 17 ≤ length s → at + 15 + 2 ≤ length s
        fits l = omega arith

    -- in the first pass its usage follows
    pub name-first : (object : Bool) {out out1 t2 : List ℕ} {o p : ℕ} {k : Step} → InPass first t → Wrote out o (slice at stop s) out1 p →
        Steps (λ _. []) (λ y u. Sound s at stop) (λ y. usage (on_ident (tree_at s at stop)) y.setting at) t out1 p t2 out1 k →
        FieldSteps s at stop (λ y. walk (tree_at s at stop) y.setting object at) t out o t2 out1 k
    name-first object one v = member-used object s at stop h n.0 one (as-target (node-name s bytes at stop h n v))

    pub name-unimported : {c : Option SyntaxContext} {out : List ℕ} {p : ℕ} → Tells (λ u. imported_as (id_by id) u.imported) t (context_by c) → c ≡ None →
        Steps (λ _. []) (λ y u. Sound s at stop) (λ y. usage (on_ident (tree_at s at stop)) y.setting at) t out p t out (Ok p)
    name-unimported m e =
        steps-did (λ y u r w. record {
          state = u;
          is =
              ap (λ (f : Field). usage (on_ident f) y.setting at u) (name-tree w)
              ∙ unimported y.setting (id_by id) (atom_at s (at + 15)) at u (sym (m.is u r) ∙ ap context_by e);
          shows = r;
        })
