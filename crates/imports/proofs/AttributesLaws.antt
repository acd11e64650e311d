-- The attributes of an import, written as they are and with an export context.
use Rattle.std.specs.Prelude.{None, Some}
use Prim.Native.Nat.{ℕ, ◌+◌}
use native.Mathlib.Omega.{arith}
use mathlib.Core.Path.{◌≡◌, refl, sym, ap, ◌∙◌}
use mathlib.Core.Logic.{⊎_elim}
use mathlib.Core.Bool.{Bool, true, false, cond}
use mathlib.Core.List.{List, [], ◌++◌}
use lib.Seq.{slice}
use borrow.Author.Tests.{eq-eqb, ne_eqb}
use Rattle.writer.specs.Bytes.{framed}
use Rattle.writer.specs.Wrote.{Wrote, Opened, closed}
use Rattle.writer.proofs.Wrote.{wrote-none, wrote-then, wrote-as, wrote-field}
use Rattle.scope.specs.Id.{export}
use Rattle.tree.specs.Tree.{Field, Fields, none, more, tag_of, parts_of, encode, encodes}
use Rattle.tree.specs.Grammar.{rule_of}
use Rattle.tree.specs.Rows.{GivesPart, tree_of, fields_of}
use Rattle.tree.specs.Standing.{row_at}
use Rattle.tree.specs.declared.row.Part.{Part}
use Rattle.tree.specs.declared.row.Row.{Row}
use Rattle.tree.proofs.PartLaws.{fields-none, part_tag}
use Rattle.tree.proofs.StandingLaws.{whole-step}
use Rattle.tree.proofs.SoundLaws.{row-sound}
use Rattle.tree.proofs.WidthLaws.{plain-width}
use Rattle.tree.proofs.TreeLaws.{encodes-none, encodes-one}
use Rattle.tree.specs.declared.grammar.Value.TheVariants.{Empty}
use Rattle.metadata.specs.Metadata.{append, attributes_for, with_metadata, context_attribute}
use Rattle.metadata.proofs.EncodeLaws.{encodes-append, framed-field}
use Rattle.inputs.specs.Fields.{has, keep, find_field}
use Rattle.extraction_rules.specs.First.{attributes_of}
use Rattle.extraction_rules.proofs.ShapeLaws.{specifier-is}
use Rattle.steps.specs.Step.{ReadAt}
use Rattle.steps.proofs.SoundLaws.{read-tag}
use Rattle.imports.specs.Parts.{Behind, Attributes}
use Rattle.imports.proofs.WidthLaws.{framing, framed-in, framed-exact, framed-tree, framed-length}
use Rattle.imports.proofs.PartsLaws.{LastPart, part-cases}

-- what is kept meets the test
kept-meets : (p : Field → Bool) (fs gs : Fields) (f : Field) → keep p fs ≡ more f gs → p f ≡ true
unfolding keep
kept-meets p none gs f e = absurd (let z : ◌≡◌ {A = ℕ} 0 1 = cc in omega arith)
kept-meets p (more g fs) gs f e = by (p g) (kept-meets p fs gs f) refl e
  where
    by : (b : Bool) → (keep p fs ≡ more f gs → p f ≡ true) → p g ≡ b → cond b (more g (keep p fs)) (keep p fs) ≡ more f gs → p f ≡ true
    by true h q e = let z : g ≡ f = cc in ap p (sym z) ∙ q
    by false h q e = h e

behind-last : (r : Row) (p : Part) (r' : Row) → GivesPart r (Some p) r' → Behind r.bytes.now r.at r.end → LastPart r p
behind-last r p r' g b =
    ⊎_elim (λ f.
    absurd (
    let k : has 0x2F (tree_of p) ≡ true = kept-meets (has 0x2F) (fields_of r) (fields_of r') (tree_of p) (b.only ∙ f.row) in
    let i = specifier-is (part_tag p) f.specified.specifier in
    let z : has 0x2F (tree_of p) ≡ false = ne_eqb (tag_of (tree_of p)) 0x2F (λ q. let j = f.tag in omega arith) in
    let y : ◌≡◌ {A = ℕ} 0 1 = cc in
    omega arith)) (λ l. l) (part-cases r p r' g b.row)

-- the parts of a 2F are all its content
content-is : (p : Part) → ReadAt p.bytes.now p.at p.stop → part_tag p ≡ 0x2F → encodes (parts_of (tree_of p)) ≡ slice (p.at + 3) p.stop p.bytes.now
content-is p r e =
    let s = p.bytes.now in
    let v = whole-step s p.at p.stop r.whole in
    let w = framing p v.1 in
    let j = framed-in w in
    let n = plain-width 0x2F Empty refl (slice (p.at + 3) v.0 s) e (framed-exact w) in
    let l = framed-length w in
    let z : v.0 ≡ p.at + 3 = omega arith in
    ap (λ (f : Field). encodes (parts_of f)) (framed-tree w) ∙ (row-sound s v.0 p.stop (rule_of (part_tag p)) p.of_bytes j.1 p.whole.1 v.2).0
    ∙ ap (λ (k : ℕ). slice k p.stop s) z

old-is : (f : Field) (fs : Fields) → has 0x2F f ≡ true → attributes_of (find_field (has 0x2F) (more f fs)) ≡ parts_of f
unfolding find_field
old-is f fs e = rw e refl

old-none : attributes_of (find_field (has 0x2F) none) ≡ none
unfolding find_field
old-none = refl

module _ (r r' : Row) {out : List ℕ} {o : ℕ} where
  pub attributes-copied : (p : Part) {out' : List ℕ} {q : ℕ} → GivesPart r (Some p) r' → Wrote out o (slice (p.at + 3) p.stop p.bytes.now) out' q →
      Attributes r.bytes.now r.at r.end encodes out o out' q
  attributes-copied p g w =
      record {
        is = λ b.
            let l = behind-last r p r' g b in
            wrote-as w (sym (ap (λ (fs : Fields). encodes (attributes_of (find_field (has 0x2F) fs))) l.row
            ∙ ap encodes (old-is (tree_of p) none (eq-eqb (tag_of (tree_of p)) 0x2F l.tag))
            ∙ content-is p l.read (sym (read-tag l.read) ∙ l.tag)));
      }

  pub attributes-none : GivesPart r None r' → Attributes r.bytes.now r.at r.end encodes out o out o
  attributes-none g =
      record {
        is = λ b. wrote-as wrote-none (sym (ap (λ (fs : Fields). encodes (attributes_of (find_field (has 0x2F) fs))) (fields-none r r' g) ∙ ap encodes old-none ∙ encodes-none));
      }

-- ---- With a context

context-written : (old : Fields) (c : ℕ) → framed 0x2F (encodes old ++ encode (context_attribute c)) ≡ encode (with_metadata (record { injected = false; context = Some c }) old)
unfolding with_metadata attributes_for append
context-written old c =
    ap (λ (b : List ℕ). framed 0x2F (encodes old ++ b)) (sym (encodes-one (context_attribute c)))
    ∙ ap (framed 0x2F) (sym (encodes-append old (more (context_attribute c) none))) ∙ framed-field 0x2F [] (append old (more (context_attribute c) none))

pub context-put : {s : List ℕ} {at end : ℕ} (n : ℕ) {c : ℕ} {l m k j out' : List ℕ} {o x q p : ℕ} → c ≡ export n → Opened l o 0x2F m x → Attributes s at end encodes m x k q →
    Wrote k q (encode (context_attribute c)) j p → out' ≡ closed j o p →
    Attributes s at end (λ old. encode (with_metadata (record { injected = false; context = Some (export n) }) old)) l o out' p
context-put {s} {at} {end} n {c} e u a w v =
    record {
      is = λ b.
          let old = attributes_of (find_field (has 0x2F) (row_at s at end)) in
          wrote-as (wrote-field u (wrote-then (a.is b) w) v) (context-written old c ∙ ap (λ (i : ℕ). encode (with_metadata (record { injected = false; context = Some i }) old)) e);
    }
