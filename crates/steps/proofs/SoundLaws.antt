-- Fields that were read: from a field to its parts, from a row to its first field and the rest, and how long they are.
use Rattle.std.specs.Prelude.{None, Some}
use Prim.Native.Nat.{ℕ, ◌+◌, ◌-◌, ◌≤◌}
use native.Mathlib.Omega.{arith}
use mathlib.Core.Path.{◌≡◌, sym, ap, subst, ◌∙◌}
use mathlib.Core.List.{List}
use lib.ListN.{length, get_or}
use lib.Seq.{slice, length-slice}
use Rattle.inputs.specs.Fields.{inside}
use Rattle.tree.specs.Layout.{Bytes}
use Rattle.tree.specs.declared.grammar.Rule.{Rule}
use Rattle.tree.specs.Tree.{encode, size, tag_of}
use Rattle.tree.specs.Within.{Formed}
use Rattle.tree.specs.Access.{fixed_at, extent_at}
use Rattle.tree.specs.Grammar.{rule_of, step_at}
use Rattle.tree.specs.Standing.{tree_at, Whole, Row}
use Rattle.tree.proofs.FixedLaws.{no-upto, upto-inj}
use Rattle.tree.proofs.AccessLaws.{extent-upto}
use Rattle.tree.proofs.TreeLaws.{size-encode}
use Rattle.tree.proofs.StandingLaws.{row-more, tree-upto, whole-step, row-next, whole-tag}
use Rattle.tree.proofs.SoundLaws.{whole-sound}
use Rattle.extraction_rules.proofs.AlikeLaws.{Regular, RegularAll}
use Rattle.steps.specs.Step.{ReadAt, Sound, SoundAll}

-- ---- A field that was read

module _ {s : List ℕ} {at stop : ℕ} (r : ReadAt s at stop) where
  pub read-inside : (at + 3 ≤ stop) × (stop ≤ length s)
  read-inside =
      let i = extent-upto s at r.end r.inside r.extent in
      let f = r.fits in
      (i.0, omega arith)

  pub read-tag : tag_of (tree_at s at stop) ≡ get_or s at 0
  read-tag = whole-tag s at stop r.whole

  -- its fixed bytes are whole
  pub read-short : {A : Type 0} → fixed_at s (get_or s at 0) (at + 3) stop ≡ None → A
  read-short e = absurd (let b = whole-step s at stop r.whole in no-upto (sym e ∙ b.1))

  -- and so are its parts
  pub read-parts : {b : ℕ} → fixed_at s (get_or s at 0) (at + 3) stop ≡ Some b → Row s b stop (rule_of (get_or s at 0))
  read-parts {b} e =
      let v = whole-step s at stop r.whole in
      subst (λ (k : ℕ). Row s k stop (rule_of (get_or s at 0))) (upto-inj (sym v.1 ∙ e)) v.2

  module _ (bytes : Bytes s) where
    pub read-bytes : encode (tree_at s at stop) ≡ slice at stop s
    read-bytes = (whole-sound s at r.end stop bytes r.inside r.fits r.extent r.whole).0

    pub read-formed : Formed (tree_at s at stop)
    read-formed = (whole-sound s at r.end stop bytes r.inside r.fits r.extent r.whole).1

    pub read-size : size (tree_at s at stop) ≡ stop - at
    read-size = let i = read-inside in size-encode (tree_at s at stop) ∙ ap length read-bytes ∙ length-slice at stop s i.1

-- where the parts of a field start, as the rules count
pub inside-fixed : (s : List ℕ) (at b : ℕ) → at + 3 ≤ b → b ≤ length s → inside at (slice (at + 3) b s) ≡ b
inside-fixed s at b h k = let e = length-slice (at + 3) b s k in omega arith

-- ---- A row that was read

pub row-read : {s : List ℕ} {at end stop : ℕ} (q : Rule) → at ≤ end → end ≤ length s → Row s at end q → extent_at s at end ≡ Some stop →
    ReadAt s at stop × ((q' : Rule) × (step_at q (get_or s at 0) ≡ Some q') × Row s stop end q')
row-read {s} {at} {end} {stop} q le fits w e =
    let i = extent-upto s at end le e in
    let f = row-next s at end q le w (λ z. omega arith) in
    let z : f.1 ≡ stop = upto-inj (sym f.3 ∙ e) in (
      record { end = end; inside = le; fits = fits; extent = e; whole = subst (Whole s at) z f.4 },
      (f.0, f.2, subst (λ (k : ℕ). Row s k end f.0) z f.5),
    )

-- ---- Behind the imports

module _ {s : List ℕ} {at stop : ℕ} (w : Sound s at stop) where
  pub sound-parts : {b : ℕ} → fixed_at s (get_or s at 0) (at + 3) stop ≡ Some b → SoundAll s b stop
  sound-parts {b} e =
      record {
        rule = rule_of (get_or s at 0);
        fits = (read-inside w.read).1;
        row = read-parts w.read e;
        regular = (subst Regular (tree-upto s at stop b e) w.regular).1;
      }

module _ {s : List ℕ} {at end stop : ℕ} (le : at ≤ end) (w : SoundAll s at end) (e : extent_at s at end ≡ Some stop) where
  pub sound_all-first : Sound s at stop
  sound_all-first = record { read = (row-read w.rule le w.fits w.row e).0; regular = (subst RegularAll (row-more s at end stop le e) w.regular).0 }

  pub sound_all-rest : SoundAll s stop end
  sound_all-rest =
      let r = (row-read w.rule le w.fits w.row e).1 in
      record { rule = r.0; fits = w.fits; row = r.2; regular = (subst RegularAll (row-more s at end stop le e) w.regular).1 }
