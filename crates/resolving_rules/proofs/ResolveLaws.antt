-- What the steps of an accepted resolving give: numbers that stay, and each record and specifier of the list.
use Rattle.std.specs.Prelude.{Option, None, Some}
use Prim.Native.Nat.{ℕ, ◌+◌}
use mathlib.Core.Path.{◌≡◌, refl, sym, ap, subst, ◌∙◌}
use mathlib.Core.Bool.{Bool, true, false, cond}
use mathlib.Core.List.{List, [], ◌∷◌}
use lib.Dec.{eqb}
use lib.ListN.{get_or}
use Rattle.scope.specs.Modules.{Modules, number_of, request}
use Rattle.scope.proofs.Laws.{request-keeps-numbers}
use Rattle.tree.specs.Tree.{Field, field, Fields, none, more, fixed_of, parts_of, size}
use Rattle.inputs.specs.Outcome.{done, refused}
use Rattle.inputs.specs.Lists.{among}
use Rattle.inputs.specs.Fields.{inside}
use Rattle.inputs.specs.Table.{Row, file_of}
use Rattle.inputs.proofs.AcceptedLaws.{done-inj, done-refused, onto-done}
use Rattle.resolving_rules.specs.Resolve.{source_of, requested, number_one, number_all, resolved_named, resolved_namespace, resolved_specifier}
use Rattle.resolving_rules.specs.Resolve.{resolved_specifiers, module_of, heading, resolved_record, resolved_all}

-- ---- 'Resolving numbers every resolvable source': a number once given stays

module _ (rows : List Row) (g k : ℕ) where
  number_one-keeps : (o : Option ℕ) (ms new : Modules) (p : ℕ) → number_one o ms p ≡ done new → number_of g ms ≡ Some k → number_of g new ≡ Some k
  unfolding number_one
  number_one-keeps None ms new p e h = subst (λ (m : Modules). number_of g m ≡ Some k) (done-inj e) h
  number_one-keeps (Some file) ms new p e h = go (request file ms) refl e
    where
      go : (r : Option (ℕ × Modules)) → request file ms ≡ r → requested r p ≡ done new → number_of g new ≡ Some k
      go None w e = done-refused e
      go (Some r) w e = subst (λ (m : Modules). number_of g m ≡ Some k) (done-inj e) (request-keeps-numbers file ms w g k h)

  pub number_all-keeps : (fs : Fields) (ms new : Modules) (p : ℕ) → number_all rows fs ms p ≡ done new → number_of g ms ≡ Some k → number_of g new ≡ Some k
  unfolding number_all
  number_all-keeps none ms new p e h = subst (λ (m : Modules). number_of g m ≡ Some k) (done-inj e) h
  number_all-keeps (more f fs) ms new p e h =
      let w = onto-done (number_one (file_of (source_of f) rows) ms p) _ new e in
      number_all-keeps fs w.0 new (p + size f) w.2 (number_one-keeps (file_of (source_of f) rows) ms w.0 p w.1 h)

-- ---- '03: 90*'

-- an accepted record: its source resolves, its specifiers are accepted, and this is its 90
pub record Made (o : Option ℕ) (forced : List (List ℕ)) (ms : Modules) (f : Field) (p : ℕ) (g : Field) : Type 0 where
  pub file : ℕ
  pub resolves : o ≡ Some file
  pub parts : Fields
  pub specifiers : resolved_specifiers (among (source_of f) forced) (parts_of f) (inside p (fixed_of f)) ≡ done parts
  pub made : g ≡ field 0x90 (heading f (module_of file ms) file) parts

pub record-made : (o : Option ℕ) (forced : List (List ℕ)) (ms : Modules) (f : Field) (p : ℕ) (g : Field) →
    resolved_record o forced ms f p ≡ done g → Made o forced ms f p g
unfolding resolved_record
record-made None forced ms f p g e = done-refused e
record-made (Some file) forced ms f p g e =
    let w = onto-done (resolved_specifiers (among (source_of f) forced) (parts_of f) (inside p (fixed_of f))) _ g e in
    record { file = file; resolves = refl; parts = w.0; specifiers = w.1; made = sym (done-inj w.2) }

-- an accepted row: its first 90, and the rest
pub all-made : (rows : List Row) (forced : List (List ℕ)) (ms : Modules) (f : Field) (fs : Fields) (p : ℕ) (gs : Fields) →
    resolved_all rows forced ms (more f fs) p ≡ done gs →
    (g : Field) × (rest : Fields) × (gs ≡ more g rest) × Made (file_of (source_of f) rows) forced ms f p g
    × (resolved_all rows forced ms fs (p + size f) ≡ done rest)
unfolding resolved_all
all-made rows forced ms f fs p gs e =
    let w = onto-done (resolved_record (file_of (source_of f) rows) forced ms f p) _ gs e in
    let v = onto-done (resolved_all rows forced ms fs (p + size f)) _ gs w.2 in
    (w.0, v.0, sym (done-inj v.2), record-made (file_of (source_of f) rows) forced ms f p w.0 w.1, v.1)

-- ---- Specifiers

-- an accepted 20 without parts becomes a 91 of the same bytes
named-made : (all : Bool) (x : List ℕ) (p : ℕ) (g : Field) → resolved_specifier all (field 0x20 x none) p ≡ done g → g ≡ field 0x91 x none
unfolding resolved_specifier resolved_named
named-made all x p g e = go (eqb (get_or x 6 0) 2) e
  where
    go : (b : Bool) → cond b (refused 6 p) (done (field 0x91 x none)) ≡ done g → g ≡ field 0x91 x none
    go true e = done-refused e
    go false e = sym (done-inj e)

-- fields with the tag t and these fixed bytes
abbrev pub leaves : ℕ → List (List ℕ) → Fields
leaves t [] = none
leaves t (x ∷ l) = more (field t x none) (leaves t l)

-- accepted 20s become 91s, in order
pub nameds-made : (all : Bool) (l : List (List ℕ)) (p : ℕ) (gs : Fields) → resolved_specifiers all (leaves 0x20 l) p ≡ done gs → gs ≡ leaves 0x91 l
unfolding resolved_specifiers
nameds-made all [] p gs e = sym (done-inj e)
nameds-made all (x ∷ l) p gs e =
    let w = onto-done (resolved_specifier all (field 0x20 x none) p) _ gs e in
    let v = onto-done (resolved_specifiers all (leaves 0x20 l) (p + size (field 0x20 x none))) _ gs w.2 in
    let a = named-made all x p w.0 w.1 in
    let b = nameds-made all l (p + size (field 0x20 x none)) v.0 v.1 in
    sym (done-inj v.2) ∙ ap (λ (g : Field). more g v.0) a ∙ ap (more (field 0x91 x none)) b

-- a sole 22 becomes a 92
pub namespace-made : (all : Bool) (i : List ℕ) (p : ℕ) (gs : Fields) → resolved_specifiers all (more (field 0x22 i none) none) p ≡ done gs →
    gs ≡ more (resolved_namespace all i) none
unfolding resolved_specifiers resolved_specifier
namespace-made all i p gs e = sym (done-inj e)
