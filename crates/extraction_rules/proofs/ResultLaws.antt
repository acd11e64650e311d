-- What a walk makes of a field and of a row, within the grammar and at most as deep; and how wide the entries of the tables are.
use Rattle.std.specs.Prelude.{Option, None, Some}
use Prim.Native.Nat.{ℕ, ◌+◌, ◌-◌, ◌≤◌, max}
use mathlib.Core.Path.{◌≡◌, refl, sym, ap, subst, ◌∙◌}
use mathlib.Core.Bool.{Bool, true, false, not, cond, true≢false}
use mathlib.Core.List.{List, [], ◌∷◌}
use native.Mathlib.Omega.{arith}
use lib.ListN.{length}
use borrow.Author.Tests.{ne_eqb}
use Rattle.scope.specs.Id.{export}
use Rattle.tree.specs.declared.grammar.Rule.{Rule}
use Rattle.tree.specs.Layout.{same, name_of}
use Rattle.tree.specs.Tree.{Field, field, Fields, none, more, tag_of, fixed_of, parts_of, depth, depths}
use Rattle.tree.specs.Grammar.{within, rule_of, step_at, done_at}
use Rattle.tree.specs.Within.{Exact}
use Rattle.tree.proofs.TreeLaws.{depth-parts, depth-first, depth-rest, depth-most}
use Rattle.inputs.specs.Lists.{find, mapped}
use Rattle.extraction_rules.specs.State.{Imported, State, Setting}
use Rattle.extraction_rules.specs.First.{id_from, forget, imported_as, required, with_callee, note_in}
use Rattle.extraction_rules.proofs.ListLaws.{All, all-filter, all-find}
use Rattle.extraction_rules.proofs.FirstLaws.{force-cases}
use Rattle.extraction_rules.proofs.StepLaws.{CommonSteps}
use Rattle.extraction_rules.proofs.ValueLaws.{required-call}
use Rattle.extraction_rules.proofs.RuleLaws.{in_rule, step-without, takes_target, takes_import, no_import, rule-imports}
use Rattle.extraction_rules.proofs.ExactLaws.{callee-exact}
use Rattle.extraction_rules.proofs.ShapeLaws.{Shaped, ShapedAll, import-depth}
use Rattle.extraction_rules.proofs.TestLaws.{is-true}

-- ---- What a walk makes of a field and of a row

pub record Result (f g : Field) : Type 0 where
  pub shaped : Shaped g
  -- it may stand wherever the field stood, but as a target
  pub steps : (q : Rule) → in_rule takes_target q ≡ false → step_at q (tag_of g) ≡ step_at q (tag_of f)
  -- it is as deep at most, but for an import, which is at most 3 deep
  pub deep : (k : ℕ) → (tag_of f ≡ 0x10 → 3 ≤ k) → depth f ≤ k → depth g ≤ k

pub record Results (fs gs : Fields) (q : Rule) : Type 0 where
  pub shaped : ShapedAll gs q
  pub deep : (k : ℕ) → (in_rule takes_import q ≡ true → 3 ≤ k) → depths fs ≤ k → depths gs ≤ k

pub same-results : (fs : Fields) (q : Rule) → ShapedAll fs q → Results fs fs q
same-results fs q h = record { shaped = h; deep = λ k i d. d }

pub none-results : (q : Rule) → done_at q ≡ true → Results none none q
none-results q h = record { shaped = h; deep = λ k i d. d }

-- where a 10 stands, and where one may stand further on, one may stand
takes-import : (q q' : Rule) → step_at q 0x10 ≡ Some q' → in_rule takes_import q ≡ true
takes-import q q' e = is-true (in_rule takes_import q) (λ w. no_import q q' w e)

takes-later : (q q' : Rule) (t : ℕ) → step_at q t ≡ Some q' → in_rule takes_import q' ≡ true → in_rule takes_import q ≡ true
takes-later q q' t e h = is-true (in_rule takes_import q) (λ w. true≢false (sym h ∙ step-without takes_import q q' t w e))

row-deep : (f g : Field) (fs gs : Fields) (q q' : Rule) → step_at q (tag_of f) ≡ Some q' → Result f g → Results fs gs q' → (k : ℕ) →
    (in_rule takes_import q ≡ true → 3 ≤ k) →
    depths (more f fs) ≤ k → depths (more g gs) ≤ k
row-deep f g fs gs q q' e r rs k i d =
    let a = depth-first f fs in
    let b = depth-rest f fs in
    depth-most g gs k
    (r.deep k (λ w. i (takes-import q q' (subst (λ (t : ℕ). step_at q t ≡ Some q') w e))) (omega arith))
    (rs.deep k (λ w. i (takes-later q q' (tag_of f) e w)) (omega arith))

pub more-results : (f g : Field) (fs gs : Fields) (q q' : Rule) → step_at q (tag_of f) ≡ Some q' → in_rule takes_target q ≡ false → Result f g →
    Results fs gs q' → Results (more f fs) (more g gs) q
more-results f g fs gs q q' e w r rs = record { shaped = (q', r.steps q w ∙ e, r.shaped, rs.shaped); deep = row-deep f g fs gs q q' e r rs }

pub target-results : (f g : Field) (fs gs : Fields) (q q' : Rule) → step_at q (tag_of f) ≡ Some q' → tag_of g ≡ tag_of f → Result f g →
    Results fs gs q' → Results (more f fs) (more g gs) q
target-results f g fs gs q q' e w r rs = record { shaped = (q', ap (step_at q) w ∙ e, r.shaped, rs.shaped); deep = row-deep f g fs gs q q' e r rs }

-- a field with other parts
pub field-result : (t : ℕ) (x : List ℕ) (cs ds : Fields) → Exact t x → (t ≡ 0x01 → ⊥) → Results cs ds (rule_of t) → Result (field t x cs) (field t x ds)
field-result t x cs ds h n r = record { shaped = (h, r.shaped); steps = λ q w. refl; deep = deeper }
  where
    deeper : (k : ℕ) → (t ≡ 0x10 → 3 ≤ k) → depth (field t x cs) ≤ k → depth (field t x ds) ≤ k
    deeper k i d =
        let a = depth-parts t x cs in
        let b = depth-parts t x ds in
        let c = r.deep (k - 1) (λ w. absurd (true≢false (sym w ∙ rule-imports t (ne_eqb t 0x01 n)))) (omega arith) in
        omega arith

-- an import with other parts
pub import-result : (x : List ℕ) (cs ds : Fields) → Exact 0x10 x → ShapedAll ds (rule_of 0x10) → Result (field 0x10 x cs) (field 0x10 x ds)
import-result x cs ds h w = record {
  shaped = (h, w);
  steps = λ q v. refl;
  deep = λ k i d. let a = i refl in let b =
      import-depth x ds (h, w) in omega arith;
}

-- ---- What the tables hold: contexts of four bytes, properties of six

abbrev pub Widths : State → Type 0
Widths s = All (λ m. length m.context ≡ 4) s.imported × All (λ u. length u.property ≡ 6) s.usages

widths-forget : (i : List ℕ) (s : State) → Widths s → Widths (forget i s)
unfolding forget
widths-forget i s h = (
  all-filter (λ m. length m.context ≡ 4) (λ m. length m.context ≡ 4) (λ m. not (same m.id i)) s.imported (λ m w k. k) h.0,
  all-filter (λ u. length u.property ≡ 6) (λ u. length u.property ≡ 6) (λ u. not (same u.id i)) s.usages (λ u w k. k) h.1,
)

pub widths-common : (e : Setting) → CommonSteps e Widths
unfolding forget
widths-common e =
    record {
      requires = record { on_request = λ s g m ms q h. h; on_cjs = λ s m h. h; on_lazy = λ s r b h. h };
      on_force = λ s i h. force-cases i s Widths (widths-forget i s h) (λ r w. widths-forget i s h);
      on_top = λ s b h. h;
    }

pub all-note : (P : Imported → Type 0) (m : Imported) (l : List Imported) → P m → All P l → All P (note_in m l)
unfolding note_in
all-note P m [] k h = (k, tt)
all-note P m (n ∷ l) k h = go (same n.id m.id) (all-note P m l k h.1)
  where
    go : (b : Bool) → All P (note_in m l) → All P (cond b (m ∷ l) (n ∷ note_in m l))
    go true w = (k, h.1)
    go false w = (h.0, w)

pub imported-width : (i c : List ℕ) (l : List Imported) → All (λ m. length m.context ≡ 4) l → imported_as i l ≡ Some c → length c ≡ 4
unfolding imported_as
imported-width i c l h e = go (find (λ m. same m.id i) l) refl e
  where
    go : (o : Option Imported) → find (λ m. same m.id i) l ≡ o → mapped (λ m. m.context) o ≡ Some c → length c ≡ 4
    go None w e = absurd (let z : ◌≡◌ {A = ℕ} 0 1 = cc in omega arith)
    go (Some m) w e = let q : m.context ≡ c = cc in ap length (sym q) ∙ all-find (λ m. length m.context ≡ 4) (λ m. same m.id i) l m h w

-- ---- Another callee

callee-depth : (c : Field) (y : List ℕ) → depth (field (tag_of c) y (parts_of c)) ≡ depth c
callee-depth (field t x cs) y = depth-parts t y cs ∙ sym (depth-parts t x cs)

callee-shaped : (c : Field) (n : ℕ) → tag_of c ≡ 0x60 → Shaped c → Shaped (field (tag_of c) (id_from (name_of (fixed_of c)) (export n)) (parts_of c))
callee-shaped (field t x cs) n e h =
    (subst (λ (k : ℕ). Exact k (id_from (name_of x) (export n))) (sym e) (callee-exact x n (subst (λ (k : ℕ). Exact k x) e h.0)), h.1)

depths-first : (f g : Field) (fs : Fields) → depth f ≡ depth g → depths (more f fs) ≡ depths (more g fs)
unfolding depth
depths-first f g fs e = ap (λ (k : ℕ). max k (depths fs)) e

depths-second : (a f g : Field) (fs : Fields) → depth f ≡ depth g → depths (more a (more f fs)) ≡ depths (more a (more g fs))
unfolding depth
depths-second a f g fs e = ap (λ (k : ℕ). max (depth a) (max k (depths fs))) e

-- a call with another callee has the same tag, is whole and as deep
pub record Same (f g : Field) : Type 0 where
  pub tag : tag_of g ≡ tag_of f
  pub shaped : Shaped g
  pub deep : depth g ≡ depth f

pub with_callee-same : (e : Setting) (f : Field) (n : ℕ) (l : List ℕ) → required e f ≡ Some l → Shaped f → Same f (with_callee n f)
unfolding with_callee required
with_callee-same e (field t x none) n l w h = absurd (let z : ◌≡◌ {A = ℕ} 0 1 = cc in omega arith)
with_callee-same e (field t x (more c gs)) n l w h =
    let q = required-call e t x c gs l w in
    let y = id_from (name_of (fixed_of c)) (export n) in
    let m = h.1 in
    record {
      tag = refl;
      shaped = (h.0, (m.0, m.1, callee-shaped c n q.1 m.2, m.3));
      deep = depth-parts t x _ ∙ ap (λ (k : ℕ). 1 + k) (depths-first (field (tag_of c) y (parts_of c)) c gs (callee-depth c y)) ∙ sym
          (depth-parts t x (more c gs));
    }

-- in place of a result
pub same-result : (f g h : Field) → Result f g → Same g h → Result f h
same-result f g h r s =
    record {
      shaped = s.shaped;
      steps = λ q w. ap (step_at q) s.tag ∙ r.steps q w;
      deep = λ k i d. let a = r.deep k i d in let b = s.deep in omega arith;
    }

pub second-results : (cs : Fields) (a g h : Field) (rest : Fields) (q : Rule) → Results cs (more a (more g rest)) q → (Shaped g → Same g h) →
    Results cs (more a (more h rest)) q
second-results cs a g h rest q r s =
    let m = r.shaped.3 in
    let t = s m.2 in
    record {
      shaped = (r.shaped.0, r.shaped.1, r.shaped.2, (m.0, ap (step_at r.shaped.0) t.tag ∙ m.1, t.shaped, m.3));
      deep = λ k i d. let b = r.deep k i d in let c = depths-second a h g rest t.deep in omega arith;
    }

pub exported-done : done_at (rule_of 0x23) ≡ true
unfolding rule_of within
exported-done = refl

pub ident-done : done_at (rule_of 0x60) ≡ true
unfolding rule_of within
ident-done = refl
