-- An import's parts as they stand in the tree: a specifier and those behind it, or the attributes, behind which there is nothing.
use Rattle.std.specs.Prelude.{None, Some}
use Prim.Native.Nat.{ℕ}
use native.Mathlib.Omega.{arith}
use mathlib.Core.Path.{◌≡◌, sym, ap, ap₂, subst, subst₂, ◌∙◌}
use mathlib.Core.Logic.{◌⊎◌, inl, inr, ⊎_elim}
use mathlib.Core.Bool.{false, not}
use mathlib.Core.List.{List}
use lib.ListN.{get_or}
use borrow.Author.Tests.{eq-eqb, ne_eqb}
use Rattle.tree.specs.declared.grammar.Rule.{Rule}
use Rattle.tree.specs.Tree.{none, more, tag_of}
use Rattle.tree.specs.Grammar.{rule_of, step_at, parts0}
use Rattle.tree.specs.Rows.{GivesPart, tree_of, fields_of}
use Rattle.tree.specs.Standing.{row_at, Row as Standing}
use Rattle.tree.specs.declared.row.Part.{Part}
use Rattle.tree.specs.declared.row.Row.{Row}
use Rattle.tree.proofs.PartLaws.{fields-none, fields-more, part_tag}
use Rattle.tree.proofs.SoundLaws.{row-sound}
use Rattle.inputs.specs.Fields.{has}
use Rattle.extraction_rules.specs.First.{specifiers_in, attributes_in}
use Rattle.extraction_rules.proofs.ShapeLaws.{formed-shaped-all, shaped-none, ImportStep, import-step, specifier-is}
use Rattle.extraction_rules.proofs.KeepLaws.{keep-yes, keep-no, keep-none}
use Rattle.steps.specs.Step.{ReadAt}
use Rattle.steps.proofs.SoundLaws.{row-read, read-tag}
use Rattle.imports.specs.Parts.{Specified, Ends}

-- a row of an import's parts
abbrev pub PartsRow : Row → Type 0
PartsRow r = Standing r.bytes.now r.at r.end (rule_of 0x10)

-- of the row r the first part p is a specifier, behind which r' is left
pub record FirstPart (r : Row) (p : Part) (r' : Row) : Type 0 where
  pub specified : Specified p.bytes.now p.at p.stop
  pub rest : PartsRow r'
  pub tag : tag_of (tree_of p) ≡ part_tag p
  pub row : fields_of r ≡ more (tree_of p) (fields_of r')

-- or it is the attributes, the last
pub record LastPart (r : Row) (p : Part) : Type 0 where
  pub read : ReadAt p.bytes.now p.at p.stop
  pub tag : tag_of (tree_of p) ≡ 0x2F
  pub row : fields_of r ≡ more (tree_of p) none

module _ (r : Row) (p : Part) (r' : Row) (g : GivesPart r (Some p) r') (w : PartsRow r) where
  pub part-cases : FirstPart r p r' ⊎ LastPart r p
  part-cases = by (import-step (part_tag p) rest.0 rest.1)
    where
      both : ReadAt r.bytes.now r.at p.stop × ((q : Rule) × (step_at (rule_of 0x10) (get_or r.bytes.now r.at 0) ≡ Some q) × Standing r.bytes.now p.stop r.end q)
      both = row-read (rule_of 0x10) r.inside.0 r.inside.1 w g.0

      read : ReadAt p.bytes.now p.at p.stop
      read = rw (g.5, g.1) both.0

      rest : (q : Rule) × (step_at (rule_of 0x10) (part_tag p) ≡ Some q) × Standing r'.bytes.now r'.at r'.end q
      rest = (both.1.0, rw (g.5, g.1) both.1.1, rw (g.2, g.3, g.4) both.1.2)

      by : ImportStep (part_tag p) rest.0 → FirstPart r p r' ⊎ LastPart r p
      by (inl k) =
          inl (record {
            specified = record { read = read; specifier = k.0 };
            rest = subst (Standing r'.bytes.now r'.at r'.end) k.1 rest.2;
            tag = read-tag read;
            row = fields-more r p r' g;
          })
      by (inr k) =
          let t = subst (Standing r'.bytes.now r'.at r'.end) k.1 rest.2 in
          let none-left = shaped-none (fields_of r') (formed-shaped-all (fields_of r') parts0 (row-sound r'.bytes.now r'.at r'.end parts0 r'.of_bytes r'.inside.0 r'.inside.1 t).1) in
          inr (record { read = read; tag = read-tag read ∙ k.0; row = fields-more r p r' g ∙ ap (more (tree_of p)) none-left })

  pub part-first : (part_tag p ≡ 0x2F → ⊥) → FirstPart r p r'
  part-first n = ⊎_elim (λ f. f) (λ l. absurd (n (sym (read-tag l.read) ∙ l.tag))) part-cases

  pub part-last : part_tag p ≡ 0x2F → LastPart r p
  part-last k = ⊎_elim (λ f. absurd (let i = specifier-is (part_tag p) f.specified.specifier in omega arith)) (λ l. l) part-cases

-- ---- Specifiers and attributes

module _ {r r' : Row} {p : Part} (w : FirstPart r p r') where
  no-attributes : has 0x2F (tree_of p) ≡ false
  no-attributes =
      let i = specifier-is (part_tag p) w.specified.specifier in
      ne_eqb (tag_of (tree_of p)) 0x2F (λ z. let k = w.tag in omega arith)

  pub first-specifiers : specifiers_in (fields_of r) ≡ more (tree_of p) (specifiers_in (fields_of r'))
  first-specifiers = ap specifiers_in w.row ∙ keep-yes (λ f. not (has 0x2F f)) (tree_of p) (fields_of r') (ap not no-attributes)

  pub first-attributes : attributes_in (fields_of r) ≡ attributes_in (fields_of r')
  first-attributes = ap attributes_in w.row ∙ keep-no (has 0x2F) (tree_of p) (fields_of r') no-attributes

module _ {r : Row} {p : Part} (w : LastPart r p) where
  pub last-specifiers : specifiers_in (fields_of r) ≡ none
  last-specifiers =
      ap specifiers_in w.row ∙ keep-no (λ f. not (has 0x2F f)) (tree_of p) none (ap not (eq-eqb (tag_of (tree_of p)) 0x2F w.tag))
      ∙ keep-none (λ f. not (has 0x2F f))

  pub last-attributes : attributes_in (fields_of r) ≡ fields_of r
  last-attributes =
      ap attributes_in w.row ∙ keep-yes (has 0x2F) (tree_of p) none (eq-eqb (tag_of (tree_of p)) 0x2F w.tag)
      ∙ ap (more (tree_of p)) (keep-none (has 0x2F)) ∙ sym w.row

-- ---- Where the specifiers end

abbrev pub EndsRow : Row → ℕ → Type 0
EndsRow r k = Ends r.bytes.now r.at r.end k

pub ends-short : (r r' : Row) → GivesPart r None r' → EndsRow r r.at
ends-short r r' g =
    let z = fields-none r r' g in
    let le = r.inside.0 in
    record {
      after = omega arith;
      before = le;
      row = λ w. w;
      attributes = λ w. ap attributes_in z ∙ keep-none (has 0x2F) ∙ sym z;
      stays = λ w k. ap specifiers_in z ∙ keep-none (λ f. not (has 0x2F f));
      goes = λ w k. absurd (omega arith);
    }

module _ (r : Row) (p : Part) (r' : Row) (g : GivesPart r (Some p) r') where
  ends-attributes : part_tag p ≡ 0x2F → EndsRow r r.at
  ends-attributes k =
      let le = r.inside.0 in
      record {
        after = omega arith;
        before = omega arith;
        row = λ w. w;
        attributes = λ w. last-attributes (part-last r p r' g w k);
        stays = λ w _. last-specifiers (part-last r p r' g w k);
        goes = λ w l. absurd (omega arith);
      }

  ends-more : {k : ℕ} → (part_tag p ≡ 0x2F → ⊥) → EndsRow r' k → EndsRow r k
  ends-more {k} n v =
      let i = p.whole.0 in
      let at = g.1 in
      let next = g.3 in
      let end = g.4 in
      let a = v.after in
      let b = v.before in
      record {
        after = omega arith;
        before = omega arith;
        row = λ w. subst₂ (λ (s : List ℕ) (e : ℕ). Standing s k e (rule_of 0x10)) g.2 g.4 (v.row (part-first r p r' g w n).rest);
        attributes = λ w. let f = part-first r p r' g w n in first-attributes f ∙ v.attributes f.rest ∙ ap₂ (λ (s : List ℕ) (e : ℕ). row_at s k e) g.2 g.4;
        stays = λ w k. absurd (omega arith);
        goes = λ w k. (_, _, first-specifiers (part-first r p r' g w n));
      }

-- what is found from the row r on, which stands at `at`, is what is found from the start
pub record Seeking (s : List ℕ) (from end at : ℕ) (r : Row) : Type 0 where
  pub here : r.at ≡ at
  pub last : r.end ≡ end
  pub rest : (k : ℕ) → EndsRow r k → Ends s from end k

pub seeking-start : {s : List ℕ} {from end : ℕ} (r : Row) → (r.bytes.now ≡ s) × (r.at ≡ from) × (r.end ≡ end) → Seeking s from end from r
seeking-start r m = record { here = m.1; last = m.2; rest = λ k w. rw (m.0, m.1, m.2) at w }

module _ {s : List ℕ} {from end at : ℕ} {r : Row} (k : Seeking s from end at r) (r' : Row) where
  pub seeking-short : GivesPart r None r' → Ends s from end at
  seeking-short g = subst (Ends s from end) k.here (k.rest r.at (ends-short r r' g))

  module _ (p : Part) (g : GivesPart r (Some p) r') where
    pub seeking-attributes : part_tag p ≡ 0x2F → Ends s from end p.at
    seeking-attributes t = subst (Ends s from end) (sym g.1) (k.rest r.at (ends-attributes r p r' g t))

    pub seeking-more : (part_tag p ≡ 0x2F → ⊥) → Seeking s from end p.stop r'
    seeking-more n = record { here = g.3; last = g.4 ∙ k.last; rest = λ e v. k.rest e (ends-more r p r' g n v) }
