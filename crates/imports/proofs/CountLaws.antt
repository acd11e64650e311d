-- How many namespaces an import brings: at most one for 9 bytes of it. Its specifiers, noted, have the same namespaces, and noting collects nothing.
use Rattle.std.specs.Prelude.{Option, None, Some}
use Prim.Native.Nat.{ℕ, ◌+◌, ◌*◌, ◌≤◌}
use native.Mathlib.Omega.{arith}
use mathlib.Core.Path.{◌≡◌, refl, sym, ap, ap₂, subst, ◌∙◌}
use mathlib.Core.Logic.{inl, inr}
use mathlib.Core.Bool.{Bool, true, false, not}
use mathlib.Core.List.{List}
use lib.Dec.{eqb, leb}
use lib.ListN.{length, get_or}
use borrow.Author.Tests.{eqb-true, eq-eqb, ne_eqb}
use Rattle.scope.specs.Id.{export}
use Rattle.scope.specs.Modules.{Modules, request}
use Rattle.tree.specs.declared.grammar.Rule.{Rule}
use Rattle.tree.specs.Layout.{four, id_at, value_of}
use Rattle.tree.specs.Tree.{Field, field, Fields, none, more, tag_of, fixed_of, size, sizes}
use Rattle.tree.specs.Grammar.{rule_of}
use Rattle.tree.proofs.TreeLaws.{content-size, row-size}
use Rattle.tree.proofs.WidthLaws.{plain-width}
use Rattle.tree.specs.declared.grammar.Value.TheVariants.{Id}
use Rattle.metadata.specs.Metadata.{append}
use Rattle.inputs.specs.Fields.{has, keep, inside}
use Rattle.inputs.specs.Table.{file_of}
use Rattle.extraction_rules.specs.State.{Record, Imported, State, Setting, give, change, refuse, set_imported, set_collected}
use Rattle.extraction_rules.specs.First.{external, requested, module_of, module_for, note_in, note_id, note_named, noted_context, note_specifier, note_all}
use Rattle.extraction_rules.specs.First.{note_specifiers, specifiers_in, attributes_in, collect_in, collect, import_first}
use Rattle.extraction_rules.proofs.OutcomeLaws.{After, after-bind, after-if}
use Rattle.extraction_rules.proofs.ShapeLaws.{Shaped, ShapedAll, ImportStep, import-step, specifier-is, shaped-none}
use Rattle.extraction_rules.proofs.KeepLaws.{keep-none, keep-yes, keep-no, keep-specifiers}
use Rattle.state.specs.Cells.{flag, count_namespaces, namespaces_in}
use Rattle.imports.proofs.GatherLaws.{count-more, collect-count}

-- ---- A namespace takes 9 bytes

namespace-size : (f : Field) → Shaped f → 9 * flag (has 0x22 f) ≤ size f
namespace-size (field t x cs) h = by (eqb t 0x22) refl
  where
    by : (b : Bool) → eqb t 0x22 ≡ b → 9 * flag b ≤ size (field t x cs)
    by true e = let z = content-size t x cs in let n = plain-width 0x22 Id refl x (eqb-true t 0x22 e) h.0 in omega arith
    by false e = omega arith

pub namespaces-size : (cs : Fields) (q : Rule) → ShapedAll cs q → 9 * count_namespaces cs ≤ sizes cs
unfolding count_namespaces
namespaces-size none q h = omega arith
namespaces-size (more f fs) q h =
    let a = namespace-size f h.2 in
    let b = namespaces-size fs h.0 h.3 in
    let c = row-size f fs in
    omega arith

-- ---- The namespaces among the specifiers

pub count-keep : (fs : Fields) → count_namespaces fs ≡ count_namespaces (keep (has 0x22) fs)
unfolding count_namespaces
count-keep none = sym (ap count_namespaces (keep-none (has 0x22)))
count-keep (more f fs) = by (has 0x22 f) refl (count-keep fs)
  where
    by : (b : Bool) → has 0x22 f ≡ b → count_namespaces fs ≡ count_namespaces (keep (has 0x22) fs) →
        flag (has 0x22 f) + count_namespaces fs ≡ count_namespaces (keep (has 0x22) (more f fs))
    by true e h = ap (λ (n : ℕ). flag (has 0x22 f) + n) h ∙ sym (count-more f (keep (has 0x22) fs)) ∙ ap count_namespaces (sym (keep-yes (has 0x22) f fs e))
    by false e h = let z : flag (has 0x22 f) ≡ 0 = ap flag e in let k = ap count_namespaces (keep-no (has 0x22) f fs e) in omega arith

-- specifiers, then attributes: the parts as they are
pub parts-again : (cs : Fields) → ShapedAll cs (rule_of 0x10) → append (specifiers_in cs) (attributes_in cs) ≡ cs
unfolding append
parts-again none h = ap₂ append (keep-none (λ g. not (has 0x2F g))) (keep-none (has 0x2F))
parts-again (more f fs) h = by (import-step (tag_of f) h.0 h.1) (parts-again fs)
  where
    by : ImportStep (tag_of f) h.0 → (ShapedAll fs (rule_of 0x10) → append (specifiers_in fs) (attributes_in fs) ≡ fs) →
        append (specifiers_in (more f fs)) (attributes_in (more f fs)) ≡ more f fs
    by (inl w) r =
        let i = specifier-is (tag_of f) w.0 in
        let n : has 0x2F f ≡ false = ne_eqb (tag_of f) 0x2F (λ z. omega arith) in
        ap₂ append (keep-yes (λ g. not (has 0x2F g)) f fs (ap not n)) (keep-no (has 0x2F) f fs n) ∙ ap (more f) (r (subst (ShapedAll fs) w.1 h.3))
    by (inr w) r =
        let y : has 0x2F f ≡ true = eq-eqb (tag_of f) 0x2F w.0 in
        let e : fs ≡ none = shaped-none fs (subst (ShapedAll fs) w.1 h.3) in
        ap₂ append (keep-no (λ g. not (has 0x2F g)) f fs (ap not y) ∙ ap specifiers_in e ∙ keep-none _)
        (keep-yes (has 0x2F) f fs y ∙ ap (λ (gs : Fields). more f (keep (has 0x2F) gs)) e ∙ ap (more f) (keep-none (has 0x2F))) ∙ ap (more f) (sym e)

-- ---- Noting keeps the namespaces, and collects nothing

note_id-collects : (m : Imported) (p : ℕ) (s : State) → After (note_id m p s) (λ _ s'. s'.collected ≡ s.collected)
unfolding note_id
note_id-collects m p s =
    after-if (leb (length (note_in m s.imported)) 512) (change (set_imported (note_in m s.imported))) (refuse 8 p) s (λ _ s'. s'.collected ≡ s.collected) (λ _. refl) (λ _. tt)

abbrev Same : State → Field → Field → State → Type 0
Same s f g s' = (has 0x22 g ≡ has 0x22 f) × (has 0x22 f ≡ true → g ≡ f) × (s'.collected ≡ s.collected)

named-same : (n : ℕ) (f : Field) (p : ℕ) (s : State) → tag_of f ≡ 0x20 → After (note_named n (fixed_of f) p s) (λ g s'. Same s f g s')
unfolding note_named
named-same n f p s t =
    let x = fixed_of f in
    let k : has 0x22 f ≡ false = ne_eqb (tag_of f) 0x22 (λ z. omega arith) in
    after-if (eqb (get_or x 6 0) 2) (refuse 6 p) _ s (Same s f) (λ _. tt) (λ _.
    after-bind (note_id (record { id = id_at x 0; context = four (export n) }) p s) _ (λ _ s'. s'.collected ≡ s.collected) (Same s f) (note_id-collects _ p s)
    (λ a u e. (sym k, (λ z. absurd (let y : ◌≡◌ {A = ℕ} 0 1 = cc in omega arith)), e)))

specifier-same : (n : ℕ) (f : Field) (p : ℕ) (s : State) → After (note_specifier n f p s) (λ g s'. Same s f g s')
unfolding note_specifier
specifier-same n f p s =
    after-if (has 0x20 f) (note_named n (fixed_of f) p) _ s (Same s f) (λ q. named-same n f p s (eqb-true (tag_of f) 0x20 q)) (λ _.
    after-bind (note_id (record { id = fixed_of f; context = noted_context n f }) p s) _ (λ _ s'. s'.collected ≡ s.collected) (Same s f) (note_id-collects _ p s)
    (λ a u e. (refl, (λ _. refl), e)))

keep-same : (f g : Field) (fs gs : Fields) → has 0x22 g ≡ has 0x22 f → (has 0x22 f ≡ true → g ≡ f) → keep (has 0x22) gs ≡ keep (has 0x22) fs →
    keep (has 0x22) (more g gs) ≡ keep (has 0x22) (more f fs)
keep-same f g fs gs a b c = by (has 0x22 f) refl
  where
    by : (k : Bool) → has 0x22 f ≡ k → keep (has 0x22) (more g gs) ≡ keep (has 0x22) (more f fs)
    by true q = keep-yes (has 0x22) g gs (a ∙ q) ∙ ap₂ more (b q) c ∙ sym (keep-yes (has 0x22) f fs q)
    by false q = keep-no (has 0x22) g gs (a ∙ q) ∙ c ∙ sym (keep-no (has 0x22) f fs q)

abbrev pub SameAll : State → Fields → Fields → State → Type 0
SameAll s fs gs s' = (keep (has 0x22) gs ≡ keep (has 0x22) fs) × (s'.collected ≡ s.collected)

pub note_all-same : (n : ℕ) (fs : Fields) (p : ℕ) (s : State) → After (note_all n fs p s) (λ gs s'. SameAll s fs gs s')
unfolding note_all
note_all-same n none p s = (refl, refl)
note_all-same n (more f fs) p s =
    after-bind (note_specifier n f p s) _ (Same s f) (SameAll s (more f fs)) (specifier-same n f p s) (λ g u h.
    after-bind (note_all n fs (p + size f) u) _ (SameAll u fs) (SameAll s (more f fs)) (note_all-same n fs (p + size f) u)
    (λ gs v k. (keep-same f g fs gs h.0 h.1 k.0, k.1 ∙ h.2)))

pub specifiers-same : (o : Option ℕ) (fs : Fields) (p : ℕ) (s : State) → After (note_specifiers o fs p s) (λ gs s'. SameAll s fs gs s')
specifiers-same None fs p s = (refl, refl)
specifiers-same (Some n) fs p s = note_all-same n fs p s

pub module-collects : (o : Option ℕ) (p : ℕ) (s : State) → After (module_of o p s) (λ _ s'. s'.collected ≡ s.collected)
module-collects None p s = refl
module-collects (Some f) p s = by (request f s.modules)
  where
    by : (r : Option (ℕ × Modules)) → After (requested r p s) (λ _ s'. s'.collected ≡ s.collected)
    by None = tt
    by (Some q) = refl

-- ---- An import

pub module_for-collects : (e : Setting) (a : List ℕ) (p : ℕ) (s : State) → After (module_for e a p s) (λ _ s'. s'.collected ≡ s.collected)
unfolding module_for
module_for-collects e a p s = module-collects (file_of a e.table) p s

collect-brings : (r : Record) (p : ℕ) (s : State) → After (collect r p s) (λ _ s'. namespaces_in s'.collected ≡ namespaces_in s.collected + count_namespaces r.specifiers)
unfolding collect
collect-brings r p s =
    after-if (leb (length (collect_in r s.collected)) 256) (change (set_collected (collect_in r s.collected))) (refuse 8 p) s _ (λ _. collect-count r s.collected) (λ _. tt)

abbrev Brings : State → Fields → State → Type 0
Brings s cs s' = 9 * namespaces_in s'.collected ≤ 9 * namespaces_in s.collected + sizes cs

-- an import whose parts are by the grammar: 'at most one namespace for 9 bytes of tree'
pub import-brings : (e : Setting) (x : List ℕ) (cs : Fields) (p : ℕ) (s : State) → ShapedAll cs (rule_of 0x10) →
    After (import_first e x cs p s) (λ g s'. 9 * namespaces_in s'.collected ≤ 9 * namespaces_in s.collected + sizes cs)
unfolding import_first
import-brings e x cs p s h =
    after-if (external e x) (give (field 0x10 x cs)) _ s (λ g s'. Brings s cs s')
    (λ _. let z : 9 * namespaces_in s.collected ≤ 9 * namespaces_in s.collected + sizes cs = omega arith in z) (λ _.
    after-bind (module_for e (value_of x) p s) _ (λ _ s'. s'.collected ≡ s.collected) (λ g s'. Brings s cs s') (module_for-collects e (value_of x) p s) (λ n u a.
    after-bind (note_specifiers n (specifiers_in cs) (inside p x) u) _ (SameAll u (specifiers_in cs)) (λ g s'. Brings s cs s') (specifiers-same n (specifiers_in cs) (inside p x) u) (λ fs v b.
    after-bind (collect (record { literal = x; specifiers = fs }) p v) _ (λ _ s'. namespaces_in s'.collected ≡ namespaces_in v.collected + count_namespaces fs) (λ g s'. Brings s cs s')
    (collect-brings (record { literal = x; specifiers = fs }) p v) (λ _ w c.
    let same : count_namespaces fs ≡ count_namespaces cs = count-keep fs ∙ ap count_namespaces (b.0 ∙ keep-specifiers cs) ∙ sym (count-keep cs) in
    let held : namespaces_in v.collected ≡ namespaces_in s.collected = ap namespaces_in (b.1 ∙ a) in
    let most = namespaces-size cs (rule_of 0x10) h in
    let z : 9 * namespaces_in w.collected ≤ 9 * namespaces_in s.collected + sizes cs = omega arith in
    z))))
