-- Numbering, source by source, and that every source that resolves then has its number.
use Rattle.std.specs.Prelude.{Option, None, Some, Result, Ok, Err}
use Prim.Native.Nat.{ℕ, ◌+◌}
use native.Mathlib.Omega.{arith}
use mathlib.Core.Path.{◌≡◌, refl, sym, ap, ap₂, subst, ◌∙◌}
use mathlib.Core.List.{List}
use Rattle.scope.specs.Modules.{Modules, too_many_files, Generated, generated_by, number_of, request, gen}
use Rattle.scope.specs.ScopeValue.{modules_of, numbers_by, file_refusal, generated}
use Rattle.scope.specs.declared.Gen.{Gen}
use Rattle.scope.specs.declared.Numbers.{Numbers}
use Rattle.scope.specs.declared.TooManyFiles.{TooManyFiles}
use Rattle.scope.specs.declared.id.FileName.{FileName}
use Rattle.scope.proofs.Laws.{request-numbers}
use Rattle.tree.specs.Layout.{two, literal_value, value_of}
use Rattle.tree.specs.Tree.{Field, Fields, none, more, fixed_of, size}
use Rattle.tree.specs.Rows.{tree_of, fields_of}
use Rattle.tree.specs.declared.row.Part.{Part}
use Rattle.tree.specs.declared.row.Row.{Row as PartRow}
use Rattle.tree.proofs.SliceLaws.{take-slice}
use Rattle.tree.proofs.LayoutLaws.{two_at-is}
use Rattle.inputs.specs.Outcome.{Outcome, done, refused, onto}
use Rattle.inputs.specs.Table.{Row, file_of}
use Rattle.inputs.proofs.AcceptedLaws.{done-inj, done-refused, onto-done}
use Rattle.resolving_rules.specs.Resolve.{source_of, sources_in, requested, number_one, number_all}
use Rattle.resolving_rules.proofs.ResolveLaws.{number_all-keeps}
use Rattle.resolving.specs.Records.{SourceRead}
use Rattle.resolving.specs.Numbers.{NumbersAll}
use Rattle.resolving.proofs.RecordsLaws.{Standing}

-- what a request stands for whose answer is r, where the modules are then ms
abbrev pub generated_as : Result Numbers TooManyFiles → Modules → Generated
generated_as r ms =
    record {
      modules = ms;
      id = (numbers_by r).id;
      local_ctxt = (numbers_by r).local_ctxt;
      export_ctxt = (numbers_by r).export_ctxt;
      refusal = file_refusal r;
    }

-- ---- One source

module _ (rows : List Row) (a : List ℕ) (ms : Modules) (p : ℕ) where
  pub number-nowhere : file_of a rows ≡ None → done ms ≡ number_one (file_of a rows) ms p
  unfolding number_one
  number-nowhere e = sym (ap (λ (o : Option ℕ). number_one o ms p) e)

  given : (o : Option (ℕ × Modules)) → (generated_by o ms).refusal ≡ None → done (generated_by o ms).modules ≡ requested o p
  given (Some r) e = refl
  given None e = absurd (let z : ◌≡◌ {A = ℕ} 0 1 = cc in omega arith)

  over : (o : Option (ℕ × Modules)) → (generated_by o ms).refusal ≡ Some too_many_files → refused 5 p ≡ requested o p
  over (Some r) e = absurd (let z : ◌≡◌ {A = ℕ} 0 1 = cc in omega arith)
  over None e = refl

  module _ {file : FileName} (g : Gen) (h : file_of a rows ≡ Some file.0) (e : generated g ≡ gen file ms) where
    answered : {r : Result Numbers TooManyFiles} → g.answer ≡ r → generated_as r (modules_of g.scope) ≡ generated_by (request file.0 ms) ms
    unfolding gen
    answered z = subst (λ (r : Result Numbers TooManyFiles). generated_as r (modules_of g.scope) ≡ generated_by (request file.0 ms) ms) z e

    numbered : number_one (file_of a rows) ms p ≡ requested (request file.0 ms) p
    unfolding number_one
    numbered = ap (λ (o : Option ℕ). number_one o ms p) h

    pub number-given : {n : Numbers} → g.answer ≡ Ok n → done (modules_of g.scope) ≡ number_one (file_of a rows) ms p
    number-given z =
        let k = answered z in
        ap (λ (x : Generated). done x.modules) k ∙ given (request file.0 ms) (sym (ap (λ (x : Generated). x.refusal) k)) ∙ sym numbered

    pub number-over : {t : TooManyFiles} → g.answer ≡ Err t → refused 5 p ≡ number_one (file_of a rows) ms p
    number-over z = over (request file.0 ms) (sym (ap (λ (x : Generated). x.refusal) (answered z))) ∙ sym numbered

-- ---- All sources

-- the source of a record, as its number
pub source-value : {p : Part} → SourceRead p → source_of (tree_of p) ≡ two (literal_value p.bytes.now (p.at + 3))
source-value {p} r =
    let w = r.wide in
    let f = p.whole.1 in
    ap (λ (g : Field). value_of (fixed_of g)) r.tree
    ∙ take-slice 2 (p.at + 3) (p.at + 9) p.bytes.now (omega arith) (omega arith)
    ∙ sym (two_at-is p.bytes.now (p.at + 3) p.of_bytes (omega arith))

module _ (rows : List Row) (ms : Modules) where
  pub numbers-end : (at : ℕ) {fs : Fields} → fs ≡ none → done ms ≡ number_all rows fs ms at
  unfolding number_all
  numbers-end at e = sym (ap (λ (fs : Fields). number_all rows fs ms at) e)

  module _ {here next : PartRow} {p : Part} {v : ℕ} (w : Standing here p next) (l : v ≡ literal_value p.bytes.now (p.at + 3)) where
    numbers-step : {o : Outcome Modules} → number_one (file_of (two v) rows) ms p.at ≡ o →
        number_all rows (sources_in (fields_of here)) ms here.at ≡ onto o (λ new. number_all rows (sources_in (fields_of next)) new next.at)
    unfolding number_all
    numbers-step q =
        ap (λ (fs : Fields). number_all rows fs ms here.at) w.row
        ∙ ap (λ (a : List ℕ). onto (number_one (file_of a rows) ms here.at) (λ new. number_all rows (sources_in (fields_of next)) new (here.at + size (tree_of p))))
        (source-value w.source ∙ ap two (sym l))
        ∙ ap₂ (λ (o : Outcome Modules) (k : ℕ). onto o (λ new. number_all rows (sources_in (fields_of next)) new k))
        (ap (number_one (file_of (two v) rows) ms) w.stands ∙ q) w.after

    pub numbers-more : {new : Modules} → number_one (file_of (two v) rows) ms p.at ≡ done new →
        number_all rows (sources_in (fields_of here)) ms here.at ≡ number_all rows (sources_in (fields_of next)) new next.at
    numbers-more q = numbers-step q

    pub numbers-stop : {n k : ℕ} → number_one (file_of (two v) rows) ms p.at ≡ refused n k →
        refused n k ≡ number_all rows (sources_in (fields_of here)) ms here.at
    numbers-stop q = sym (numbers-step q)

-- ---- Once numbered, each has its number

number-has : (o : Option ℕ) (ms new : Modules) (p file : ℕ) → number_one o ms p ≡ done new → o ≡ Some file → (n : ℕ) × (number_of file new ≡ Some n)
unfolding number_one
number-has o ms new p file e h = go (request file ms) refl (sym (ap (λ (q : Option ℕ). number_one q ms p) h) ∙ e)
  where
    go : (r : Option (ℕ × Modules)) → request file ms ≡ r → requested r p ≡ done new → (n : ℕ) × (number_of file new ≡ Some n)
    go None w e = done-refused e
    go (Some r) w e = (r.0, subst (λ (m : Modules). number_of file m ≡ Some r.0) (done-inj e) (request-numbers file ms w))

pub numbers-all : (rows : List Row) (fs : Fields) (ms new : Modules) (p : ℕ) → number_all rows fs ms p ≡ done new → NumbersAll rows new fs
unfolding number_all
numbers-all rows none ms new p e = tt
numbers-all rows (more f fs) ms new p e =
    let w = onto-done (number_one (file_of (source_of f) rows) ms p) _ new e in (
      record {
        given = λ file h.
            let n = number-has (file_of (source_of f) rows) ms w.0 p file w.1 h in
            (n.0, number_all-keeps rows file n.0 fs w.0 new (p + size f) w.2 n.1);
      },
      numbers-all rows fs w.0 new (p + size f) w.2,
    )
