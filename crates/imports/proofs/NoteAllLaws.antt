-- The specifiers of an import are noted and written one after another, up to its attributes or its end.
use Rattle.std.specs.Prelude.{None, Some, Ok, Err}
use Prim.Native.Nat.{ℕ, ◌+◌}
use native.Mathlib.Omega.{arith}
use mathlib.Core.Path.{◌≡◌, refl, sym, ap, ap₂, ◌∙◌}
use mathlib.Core.List.{List}
use lib.ListN.{length}
use Rattle.writer.proofs.Wrote.{wrote-none}
use Rattle.tree.specs.Tree.{Field, Fields, none, more, encode, encodes, size}
use Rattle.tree.specs.Grammar.{rule_of}
use Rattle.tree.specs.Rows.{GivesPart, tree_of, fields_of}
use Rattle.tree.specs.Standing.{row_at, Row as Standing}
use Rattle.tree.specs.declared.row.Part.{Part}
use Rattle.tree.specs.declared.row.Row.{Row}
use Rattle.tree.proofs.PartLaws.{fields-none, part_tag}
use Rattle.tree.proofs.TreeLaws.{encodes-more}
use Rattle.extraction_rules.specs.State.{State, ◌>>=◌, give}
use Rattle.extraction_rules.specs.First.{note_specifier, note_all, specifiers_in}
use Rattle.extraction_rules.proofs.KeepLaws.{keep-none}
use Rattle.steps.specs.Step.{Step, Steps}
use Rattle.steps.specs.Refusal.{Refusal}
use Rattle.steps.proofs.SoundLaws.{read-size}
use Rattle.steps.proofs.StepsLaws.{steps-as, steps-done, steps-is, steps-pair, steps-turned}
use Rattle.imports.specs.Parts.{Specified}
use Rattle.imports.proofs.PartsLaws.{PartsRow, part-first, part-last, first-specifiers, last-specifiers}

-- ---- All specifiers

abbrev pub NotedAll : ℕ → List ℕ → ℕ → ℕ → List ℕ → List ℕ → ℕ → Step → List ℕ → List ℕ → Type 0
NotedAll n s at end t out to r t' out' =
    Steps encodes (λ x u. Standing s at end (rule_of 0x10)) (λ _. note_all n (specifiers_in (row_at s at end)) at) t out to t' out' r

noted-none : (n : ℕ) {P : Type 0} (fs : Fields) (at : ℕ) {t out : List ℕ} {to : ℕ} → (P → fs ≡ none) →
    Steps encodes (λ x u. P) (λ _. note_all n fs at) t out to t out (Ok to)
unfolding note_all encode
noted-none n fs at e = steps-done refl (λ x s k a. record { value = none; state = s; is = ap (λ (z : Fields). note_all n z at s) (e a); wrote = wrote-none; shows = k })

noted-more : (n : ℕ) (f : Field) (fs : Fields) (at p : ℕ) (s : State) → at + size f ≡ p →
    note_all n (more f fs) at s ≡ (note_specifier n f at >>= (λ g. note_all n fs p >>= (λ gs. give (more g gs)))) s
unfolding note_all
noted-more n f fs at p s e =
    ap (λ (k : ℕ). (note_specifier n f at >>= (λ g. note_all n fs k >>= (λ gs. give (more g gs)))) s) e

-- of a row
abbrev NotedRow : ℕ → Row → List ℕ → List ℕ → ℕ → Step → List ℕ → List ℕ → Type 0
NotedRow n r = NotedAll n r.bytes.now r.at r.end

module _ (n : ℕ) (r r' : Row) {t out : List ℕ} {to : ℕ} where
  notes-end : GivesPart r None r' → NotedRow n r t out to (Ok to) t out
  notes-end g = noted-none n (specifiers_in (fields_of r)) r.at (λ _. ap specifiers_in (fields-none r r' g) ∙ keep-none _)

  module _ (p : Part) (g : GivesPart r (Some p) r') where
    notes-attributes : part_tag p ≡ 0x2F → NotedRow n r t out to (Ok to) t out
    notes-attributes k = noted-none n (specifiers_in (fields_of r)) r.at (λ w. last-specifiers (part-last r p r' g w k))

    module _ {t' out' : List ℕ} {k : Step} (no : part_tag p ≡ 0x2F → ⊥) (v : Steps encode (λ x u. Specified p.bytes.now p.at p.stop)
        (λ _. note_specifier n (tree_of p) p.at) t out to t' out' k) where
      step-is : (u : State) → PartsRow r →
          note_all n (specifiers_in (fields_of r)) r.at u ≡
          (note_specifier n (tree_of p) p.at >>= (λ f. note_all n (specifiers_in (fields_of r')) r'.at >>= (λ fs. give (more f fs)))) u
      step-is u w =
          let f = part-first r p r' g w no in
          let z = read-size f.specified.read p.of_bytes in
          let i = p.whole.0 in
          let next = g.3 in
          ap₂ (λ (fs : Fields) (k : ℕ). note_all n fs k u) (first-specifiers f) (sym g.1) ∙ noted-more n (tree_of p) (specifiers_in (fields_of r')) p.at r'.at u (omega arith)

      notes-more : {q : ℕ} {y : Step} {t'' out'' : List ℕ} → k ≡ Ok q → NotedRow n r' t' out' q y t'' out'' → NotedRow n r t out to y t'' out''
      notes-more d w =
          steps-as _
          (steps-pair encode encodes encodes more encodes-more (λ x u. PartsRow r)
          (λ _ _. note_all n (specifiers_in (fields_of r')) r'.at) (steps-is v d) (λ _. w) (tree_of p)
          (λ x u a. (part-first r p r' g a no).specified) (λ x u a _ _ _. (part-first r p r' g a no).rest))
          (λ x u a. (a, step-is u a))

      notes-refused : {y : Refusal} → k ≡ Err y → NotedRow n r t out to (Err y) t' out'
      notes-refused d =
          steps-as _ (steps-turned encode encodes encodes more encodes-more (λ x u. PartsRow r) (λ _ _. note_all n (specifiers_in (fields_of r')) r'.at) (steps-is v d)
          (λ x u a. (part-first r p r' g a no).specified)) (λ x u a. (a, step-is u a))

-- what is left of the specifiers makes the whole row r₀
pub record Going (n : ℕ) (r₀ : Row) (t₀ out₀ : List ℕ) (o : ℕ) (t out : List ℕ) (r : Row) (to : ℕ) : Type 0 where
  pub size : length out ≡ length out₀
  pub rest : (y : Step) (t' out' : List ℕ) → NotedRow n r t out to y t' out' → NotedRow n r₀ t₀ out₀ o y t' out'

pub going-start : (n : ℕ) (r : Row) {t out : List ℕ} {o : ℕ} → Going n r t out o t out r o
going-start n r = record { size = refl; rest = λ y t' out' w. w }

module _ (n : ℕ) {r₀ r : Row} {t₀ out₀ t out : List ℕ} {o to : ℕ} (k : Going n r₀ t₀ out₀ o t out r to) (r' : Row) where
  pub going-end : GivesPart r None r' → NotedRow n r₀ t₀ out₀ o (Ok to) t out
  going-end g = k.rest _ _ _ (notes-end n r r' g)

  module _ (p : Part) (g : GivesPart r (Some p) r') where
    pub going-attributes : part_tag p ≡ 0x2F → NotedRow n r₀ t₀ out₀ o (Ok to) t out
    going-attributes e = k.rest _ _ _ (notes-attributes n r r' p g e)

    module _ {t' out' : List ℕ} {y : Step} (no : part_tag p ≡ 0x2F → ⊥) (v : Steps encode (λ x u. Specified p.bytes.now p.at p.stop)
        (λ _. note_specifier n (tree_of p) p.at) t out to t' out' y) where
      pub going-more : {q : ℕ} → y ≡ Ok q → Going n r₀ t₀ out₀ o t' out' r' q
      going-more d = record { size = v.size ∙ k.size; rest = λ z t'' out'' w. k.rest z t'' out'' (notes-more n r r' p g no v d w) }

      pub going-refused : {e : Refusal} → y ≡ Err e → NotedRow n r₀ t₀ out₀ o (Err e) t' out'
      going-refused d = k.rest _ _ _ (notes-refused n r r' p g no v d)
