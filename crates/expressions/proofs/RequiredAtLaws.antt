-- The literal of a call that is a require call once it is walked, read off the bytes: one law for each way through source_in and required_at.
use Rattle.std.specs.Prelude.{Option, None, Some}
use Prim.Native.Nat.{ℕ, ◌+◌, ◌≤◌, ◌<◌}
use mathlib.Core.Path.{◌≡◌, refl, sym, ap, subst, ◌∙◌}
use mathlib.Core.Bool.{Bool, true, false, cond, ◌&&◌, and-false}
use mathlib.Core.List.{List, []}
use native.Mathlib.Omega.{arith}
use lib.Dec.{eqb}
use lib.ListN.{length}
use lib.Seq.{slice}
use borrow.Author.Tests.{eq-eqb, ne_eqb}
use Rattle.tree.specs.Layout.{two, id_at, value_of}
use Rattle.tree.specs.Tree.{Field, field, Fields, none, more}
use Rattle.tree.specs.Standing.{row_at}
use Rattle.tree.specs.Rows.{GivesPart, tree_of, fields_of}
use Rattle.tree.specs.declared.row.Part.{Part}
use Rattle.tree.specs.declared.row.Row.{Row}
use Rattle.tree.proofs.PartLaws.{fields-none, fields-more, part_tag, part_fixed, part-short}
use Rattle.tree.proofs.LayoutLaws.{same-two}
use Rattle.tree.proofs.StandingLaws.{tree-upto}
use Rattle.inputs.specs.Lists.{among}
use Rattle.inputs.specs.Fields.{sole}
use Rattle.extraction_rules.specs.State.{State, Pass, first, second, Setting}
use Rattle.extraction_rules.specs.First.{external, argument, not_external}
use Rattle.scope.specs.declared.id.Id.{Id}
use Rattle.state.specs.Cells.{Env, literal_by, Valued, Shows}
use Rattle.state.specs.Does.{Tells, Says, is_second, place_in}
use Rattle.state.specs.declared.Literal.{Literal}
use Rattle.steps.specs.Step.{ident_by, Reads}
use Rattle.expressions.specs.After.{pass_of, ident_after, if_require, required_after}
use Rattle.expressions.specs.Require.{FoundIs, Found, RequiredIs}
use Rattle.expressions.proofs.BareLaws.{bare-part}

-- ---- Fields

not-on : (e : Setting) (f : Field) (u : State) → e.config.require ≡ false → required_after e f u ≡ None
unfolding required_after
not-on e (field t x none) u h = refl
not-on e (field t x (more c gs)) u h =
    ap (λ (b : Bool). cond (b && eqb t 0x65) (if_require (ident_after c e.pass u) (not_external e (argument (sole gs)))) None) h

not-call : (e : Setting) (t : ℕ) (x : List ℕ) (cs : Fields) (u : State) → (t ≡ 0x65 → ⊥) → required_after e (field t x cs) u ≡ None
unfolding required_after
not-call e t x none u h = refl
not-call e t x (more c gs) u h =
    ap (λ (b : Bool). cond b (if_require (ident_after c e.pass u) (not_external e (argument (sole gs)))) None)
    (ap (λ (b : Bool). e.config.require && b) (ne_eqb t 0x65 h) ∙ and-false e.config.require)

is-call : (e : Setting) (c : Field) (gs : Fields) (u : State) → e.config.require ≡ true →
    required_after e (field 0x65 [] (more c gs)) u ≡ if_require (ident_after c e.pass u) (not_external e (argument (sole gs)))
unfolding required_after
is-call e c gs u h = ap (λ (b : Bool). cond (b && eqb 0x65 0x65) (if_require (ident_after c e.pass u) (not_external e (argument (sole gs)))) None) h

not-external : (e : Setting) (o : Option (List ℕ)) (l : List ℕ) (b : Bool) → o ≡ Some l → external e l ≡ b → not_external e o ≡ cond b None (Some l)
unfolding not_external
not-external e o l b h k = ap (not_external e) h ∙ ap (λ (c : Bool). cond c None (Some l)) k

no-argument : (e : Setting) (o : Option (List ℕ)) → o ≡ None → not_external e o ≡ None
unfolding not_external
no-argument e o h = ap (not_external e) h

outside : (e : Setting) (l v : List ℕ) → value_of l ≡ v → external e l ≡ among v e.externals
unfolding external
outside e l v h = ap (λ (w : List ℕ). among w e.externals) h

-- ---- The source of the one argument

-- what f gives is told otherwise
required-as : {f g : Setting → State → Option (List ℕ)} {s t : List ℕ} (r : Option Literal) → RequiredIs f s t r → ((x : Env) (u : State) → Shows x t u → g x.setting u ≡ f x.setting u) →
    RequiredIs g s t r
required-as (Some l) w h = record { is = λ {x} u v n. let y = w.is u v n in (h x u v ∙ y.0, y.1) }
required-as None w h = record { is = λ {x} u v n. h x u v ∙ w.is u v n }

-- six bytes stand where a literal does
pub found-fits : {s : List ℕ} {o : Option (List ℕ)} {r : Option ℕ} {at : ℕ} → Found s o r → r ≡ Some at → at + 6 ≤ length s
found-fits {s} {o} {at = at} f h = let w : FoundIs s o (Some at) = rw h at f.is in w.1

module _ {s t : List ℕ} {o : Option (List ℕ)} {r : Option ℕ} (f : Found s o r) where
  pub source-none : r ≡ None → RequiredIs (λ e _. not_external e o) s t None
  source-none h = record { is = λ {x} u v n. no-argument x.setting o (rw h at f.is) }

  module _ (l : Literal) {at p : ℕ} {b : Bool} (h : r ≡ Some at) (k : Says (λ e. place_in e.pass at) t p) (z : (value_of (id_at s at) ≡ two l.value.0) × (l.place ≡ p))
      (y : Says (λ e. among (two l.value.0) e.externals) t b) where
    stands : FoundIs s o (Some at)
    stands = rw h at f.is

    -- the bytes that its place stands for
    bytes-are : {x : Env} (u : State) → Shows x t u → Reads x s → literal_by x l ≡ id_at s at
    bytes-are {x} u v n = ap x.literal (z.1 ∙ k.is u v) ∙ n.literals at stands.1

    valued-is : {x : Env} (u : State) → Shows x t u → Reads x s → Valued x l
    valued-is u v n = ap value_of (bytes-are u v n) ∙ z.0

    literal-is : {x : Env} (u : State) → Shows x t u → Reads x s → not_external x.setting o ≡ cond b None (Some (literal_by x l))
    literal-is {x} u v n =
        not-external x.setting o (literal_by x l) b (stands.0 ∙ ap Some (sym (bytes-are u v n)))
        (outside x.setting (literal_by x l) (two l.value.0) (valued-is u v n) ∙ sym (y.is u v))

    pub source-external : b ≡ true → RequiredIs (λ e _. not_external e o) s t None
    source-external i = record { is = λ {x} u v n. literal-is u v n ∙ rw i }

    pub source-is : b ≡ false → RequiredIs (λ e _. not_external e o) s t (Some l)
    source-is i = record { is = λ {x} u v n. (literal-is u v n ∙ rw i, valued-is u v n) }

-- ---- The call

-- the pass, as it is asked
pass-is : (k : Pass) → pass_of (is_second k) ≡ k
pass-is first = refl
pass-is second = refl

module _ (p : Part) where
  abbrev Answers : List ℕ → Option Literal → Type 0
  Answers t r = RequiredIs (λ e. required_after e (tree_of p)) p.bytes.now t r

  pub call-other : {t : List ℕ} → (part_tag p ≡ 0x65 → ⊥) → Answers t None
  call-other h = record { is = λ {x} u v n. go x.setting u (part_fixed p) refl }
    where
      go : (e : Setting) (u : State) (r : Option ℕ) → part_fixed p ≡ r → required_after e (tree_of p) u ≡ None
      go e u None x = ap (λ (f : Field). required_after e f u) (part-short p x) ∙ not-call e 0 [] none u (λ z. omega arith)
      go e u (Some b) x =
          ap (λ (f : Field). required_after e f u) (tree-upto p.bytes.now p.at p.stop b x)
          ∙ not-call e (part_tag p) (slice (p.at + 3) b p.bytes.now) (row_at p.bytes.now b p.stop) u h

  module _ {t : List ℕ} {on : Bool} (o : Says (λ e. e.config.require) t on) where
    pub call-off : on ≡ false → Answers t None
    call-off h = record { is = λ {x} u v n. not-on x.setting (tree_of p) u (sym (o.is u v) ∙ h) }

    module _ (h : on ≡ true) (tag : part_tag p ≡ 0x65) (row : Row) (m : (row.bytes.now ≡ p.bytes.now) × (row.at ≡ p.at + 3) × (row.end ≡ p.stop)) where
      pub call-bare : (row' : Row) → GivesPart row None row' → Answers t None
      unfolding required_after
      call-bare row' g =
          record {
            is = λ {x = y} u v n.
                ap (λ (f : Field). required_after y.setting f u) (bare-part 0x65 refl p row tag m ∙ ap (field 0x65 []) (fields-none row row' g));
          }

      module _ (callee : Part) (gs : Row) (g : GivesPart row (Some callee) gs) {pass : Bool} (r : Option Id) (k : Says (λ e. is_second e.pass) t pass)
          (w : Tells (ident_after (tree_of callee) (pass_of pass)) t (ident_by r)) where
        -- by the id of its callee
        call-is : {y : Env} (u : State) → Shows y t u →
            required_after y.setting (tree_of p) u ≡ if_require (ident_by r) (not_external y.setting (argument (sole (fields_of gs))))
        call-is {y} u v =
            ap (λ (f : Field). required_after y.setting f u) (bare-part 0x65 refl p row tag m ∙ ap (field 0x65 []) (fields-more row callee gs g))
            ∙ is-call y.setting (tree_of callee) (fields_of gs) u (sym (o.is u v) ∙ h)
            ∙ ap (λ (i : Option (List ℕ)). if_require i (not_external y.setting (argument (sole (fields_of gs)))))
            (sym (w.is u v ∙ ap (λ (q : Pass). ident_after (tree_of callee) q u) (ap pass_of (k.is u v) ∙ pass-is y.setting.pass)))

        pub call-nameless : r ≡ None → Answers t None
        call-nameless i =
            record { is = λ {x = y} u v n. call-is u v ∙ ap (λ (r : Option Id). if_require (ident_by r) (not_external y.setting (argument (sole (fields_of gs))))) i }

        module _ {id : Id} (i : r ≡ Some id) (small : id.0.0 < 65536) where
          callee-is : {y : Env} (u : State) → Shows y t u →
              required_after y.setting (tree_of p) u ≡ cond (eqb id.0.0 0) (not_external y.setting (argument (sole (fields_of gs)))) None
          callee-is {y} u v =
              call-is u v
              ∙ ap (λ (r : Option Id). if_require (ident_by r) (not_external y.setting (argument (sole (fields_of gs))))) i
              ∙ ap (λ (b : Bool). cond b (not_external y.setting (argument (sole (fields_of gs)))) None) (same-two id.0.0 0 small (omega arith))

          pub call-misnamed : (id.0.0 ≡ 0 → ⊥) → Answers t None
          call-misnamed m = record { is = λ {x = y} u v n. callee-is u v ∙ rw (ne_eqb id.0.0 0 m) }

          pub call-named : (q : Option Literal) → id.0.0 ≡ 0 → RequiredIs (λ e _. not_external e (argument (sole (fields_of gs)))) gs.bytes.now t q → Answers t q
          call-named q z f =
              required-as q (subst (λ (s : List ℕ). RequiredIs (λ e _. not_external e (argument (sole (fields_of gs)))) s t q) (g.2 ∙ m.0) f)
              (λ y u v. callee-is u v ∙ rw (eq-eqb id.0.0 0 z))
