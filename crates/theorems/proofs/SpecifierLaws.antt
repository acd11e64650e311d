-- The specifiers of a well placed tree's imports: what the passes need of them.
use Prim.Native.Nat.{ℕ}
use mathlib.Core.Path.{◌≡◌, refl, sym, ap, subst, ◌∙◌}
use mathlib.Core.Logic.{◌⊎◌, inl, inr}
use mathlib.Core.Bool.{true, false, true≢false}
use mathlib.Core.List.{List}
use native.Mathlib.Omega.{arith}
use borrow.Author.Tests.{eqb-true}
use Rattle.scope.specs.Id.{local}
use Rattle.tree.specs.declared.grammar.Set.TheVariants.{Specifier}
use Rattle.tree.specs.Layout.{same, four, id_at, name_of, context_of}
use Rattle.tree.specs.Tree.{Field, field, Fields, none, more, tag_of, fixed_of}
use Rattle.tree.specs.Grammar.{holds_at}
use Rattle.tree.specs.Within.{Exact}
use Rattle.tree.proofs.LayoutLaws.{same-equal}
use Rattle.extraction_rules.proofs.ListLaws.{same-not, not-same}
use Rattle.extraction_rules.proofs.ShapeLaws.{Shaped, ShapedAll, shaped-none, specifier-rule, Specifiers}
use Rattle.extraction_rules.proofs.SpaceLaws.{same-id}
use Rattle.extraction_rules.proofs.KeepLaws.{Each}
use Rattle.placement.proofs.WaysLaws.{ways}
use Rattle.placement.proofs.HowLaws.{fits}
use Rattle.placement.proofs.LocalsLaws.{id-whole, tag-of, named-absent, id-absent}
use Rattle.theorems.proofs.ImportedLaws.{OtherSpace, OtherLocal}
use Rattle.theorems.proofs.CleanLaws.{CleanSpec, Whole}

module _ (i lit : List ℕ) (own file : ℕ) (context : context_of i ≡ four (local own)) where
  abbrev pub SpecFacts : Field → Type 0
  SpecFacts s = OtherLocal i lit own file s × (OtherSpace i lit own file s × (CleanSpec i own context s × Whole i own context s))

  other-space : (x : List ℕ) → same x i ≡ false → context_of x ≡ four (local own) → same (name_of x) (name_of i) ≡ false
  other-space x d c = same-not (name_of x) (name_of i) (λ q. not-same x i d (same-id x i q (c ∙ sym context)))

  pub spec-facts : (s : Field) → holds_at Specifier (tag_of s) ≡ true → Shaped s → same (id_at (fixed_of s) 0) i ≡ false →
      same (context_of (id_at (fixed_of s) 0)) (four (local own)) ≡ true → fits (ways s i false) ≡ true → SpecFacts s
  spec-facts (field t x cs) k h d c f =
      let n : cs ≡ none = shaped-none cs (subst (ShapedAll cs) (specifier-rule t k) h.1) in
      subst (λ (ds : Fields). SpecFacts (field t x ds)) (sym n) (go (tag-of t k) (subst (λ (ds : Fields). fits (ways (field t x ds) i false) ≡ true) n f))
    where
      named : Exact 0x20 x → fits (ways (field 0x20 x none) i false) ≡ true → SpecFacts (field 0x20 x none)
      named w f = (d, ((λ z. absurd (true≢false (sym z))), ((named-absent i x d f, refl), λ _. w)))

      ident : (t : ℕ) → (t ≡ 0x21) ⊎ (t ≡ 0x22) → Exact t x → SpecFacts (field t x none)
      ident t (inl q) w =
          let e = id-whole t x (inl q) w in
          let dx : same x i ≡ false = ap (λ (y : List ℕ). same y i) (sym e) ∙ d in (
            rw q dx,
            (
              (λ z. absurd (let v : ◌≡◌ {A = ℕ} 0x21 0x22 = sym q ∙ eqb-true t 0x22 z in omega arith)),
              ((id-absent i t x (inl q) d, rw q), λ z. absurd (let v : ◌≡◌ {A = ℕ} 0x21 0x20 = sym q ∙ z in omega arith)),
            ),
          )
      ident t (inr q) w =
          let e = id-whole t x (inr q) w in
          let dx : same x i ≡ false = ap (λ (y : List ℕ). same y i) (sym e) ∙ d in
          let cx : context_of x ≡ four (local own) = ap context_of (sym e) ∙ same-equal (context_of (id_at x 0)) (four (local own)) c in
          (rw q dx, ((λ z. (dx, other-space x dx cx)), ((id-absent i t x (inr q) d, rw q), λ z. absurd (let v : ◌≡◌ {A = ℕ} 0x22 0x20 = sym q ∙ z in omega arith))))

      go : (t ≡ 0x20) ⊎ ((t ≡ 0x21) ⊎ (t ≡ 0x22)) → fits (ways (field t x none) i false) ≡ true → SpecFacts (field t x none)
      go (inl q) f =
          subst (λ (m : ℕ). SpecFacts (field m x none)) (sym q)
          (named (subst (λ (m : ℕ). Exact m x) q h.0) (subst (λ (m : ℕ). fits (ways (field m x none) i false) ≡ true) q f))
      go (inr q) f = ident t q h.0

  -- of all specifiers of an import
  pub specs-facts : (fs : Fields) → Specifiers fs → Each (λ s. same (id_at (fixed_of s) 0) i ≡ false) fs →
      Each (λ s. same (context_of (id_at (fixed_of s) 0)) (four (local own)) ≡ true) fs → Each (λ s. fits (ways s i false) ≡ true) fs → Each SpecFacts fs
  specs-facts none h d c f = tt
  specs-facts (more s fs) h d c f = (spec-facts s h.0.0 h.0.1 d.0 c.0 f.0, specs-facts fs h.1 d.1 c.1 f.1)
