-- Which id a walked expression has, read off the bytes: one law for each way through the functions of `ident`.
use Rattle.std.specs.Prelude.{Option, None, Some}
use Prim.Native.Nat.{ℕ, ◌+◌, ◌≤◌}
use mathlib.Core.Path.{◌≡◌, refl, sym, ap, ◌∙◌}
use mathlib.Core.Bool.{Bool, true, false, cond}
use mathlib.Core.List.{List, [], ◌∷◌, ◌++◌}
use native.Mathlib.Omega.{arith}
use lib.Dec.{eqb}
use lib.ListN.{length}
use lib.Seq.{slice}
use borrow.Author.Tests.{eq-eqb, ne_eqb}
use Rattle.tree.specs.Layout.{two, four, two_at, id_at}
use Rattle.tree.specs.Tree.{Field, Fields, none, more, fixed_of}
use Rattle.tree.specs.Standing.{row_at}
use Rattle.tree.specs.Rows.{GivesPart, tree_of, fields_of}
use Rattle.tree.specs.declared.row.Part.{Part}
use Rattle.tree.specs.declared.row.Row.{Row}
use Rattle.tree.proofs.LayoutLaws.{two_at-is}
use Rattle.tree.proofs.PartLaws.{left-start, row-is, fields-none, fields-more, part_tag, part_fixed, part-short}
use Rattle.tree.proofs.StandingLaws.{tree-upto}
use Rattle.tree.proofs.WidthLaws.{plain-ends}
use Rattle.tree.specs.declared.grammar.Value.TheVariants.{Atom, Id as SixBytes}
use Rattle.inputs.specs.Fields.{has}
use Rattle.extraction_rules.specs.State.{Usage, State, Pass, first, second}
use Rattle.extraction_rules.specs.First.{imported_as}
use Rattle.extraction_rules.specs.Second.{usages_of}
use Rattle.state.specs.Cells.{Env, id_by, Shows}
use Rattle.state.specs.Does.{Tells, context_by, any}
use Rattle.scope.specs.declared.id.SyntaxContext.{SyntaxContext}
use Rattle.scope.specs.declared.id.Id.{Id}
use Rattle.steps.specs.Step.{ident_by}
use Rattle.expressions.specs.After.{pass_of, as_ident, becomes, ident_after, member_after, named_first}

-- ---- A field

pub first-none : (cs : Fields) (u : State) → member_after cs first u ≡ None
unfolding ident_after becomes
first-none none u = refl
first-none (more o none) u = refl
first-none (more o (more q qs)) u = refl

module _ (p : Part) where
  pub after-short : (k : Pass) {t : List ℕ} → part_fixed p ≡ None → Tells (ident_after (tree_of p) k) t None
  unfolding ident_after
  after-short k e = record { is = λ u _. sym (ap (λ (f : Field). ident_after f k u) (part-short p e)) }

  is-tree : (k : Pass) (u : State) (b : ℕ) → part_fixed p ≡ Some b →
      ident_after (tree_of p) k u
      ≡ cond (eqb (part_tag p) 0x63) (member_after (row_at p.bytes.now b p.stop) k u)
      (cond (eqb (part_tag p) 0x60) (Some (slice (p.at + 3) b p.bytes.now)) None)
  unfolding ident_after
  is-tree k u b e = ap (λ (f : Field). ident_after f k u) (tree-upto p.bytes.now p.at p.stop b e)

  pub after-60 : (k : Pass) (n : Id) {b : ℕ} {t : List ℕ} → part_fixed p ≡ Some b → part_tag p ≡ 0x60 → id_by n ≡ id_at p.bytes.now (p.at + 3) →
      Tells (ident_after (tree_of p) k) t (Some (id_by n))
  after-60 k n {b} e h i =
      let w = plain-ends 0x60 SixBytes refl p.bytes.now (part_tag p) (p.at + 3) p.stop b h e in
      let x : id_by n ≡ slice (p.at + 3) b p.bytes.now = i ∙ ap (λ (c : ℕ). slice (p.at + 3) c p.bytes.now) (sym w) in
      record { is = λ u _. sym (is-tree k u b e ∙ rw (ne_eqb (part_tag p) 0x63 (λ z. omega arith), eq-eqb (part_tag p) 0x60 h) (ap Some (sym x))) }

  pub after-rest : (k : Pass) {b : ℕ} {t : List ℕ} → part_fixed p ≡ Some b → (part_tag p ≡ 0x60 → ⊥) → (part_tag p ≡ 0x63 → ⊥) →
      Tells (ident_after (tree_of p) k) t None
  after-rest k {b} e h m = record { is = λ u _. sym (is-tree k u b e ∙ rw (ne_eqb (part_tag p) 0x63 m, ne_eqb (part_tag p) 0x60 h)) }

  -- in the second pass a 63 is what its parts become
  pub after-63 : {b : ℕ} {c : Bool} (r : Option Id) (row : Row) {t : List ℕ} → part_fixed p ≡ Some b → part_tag p ≡ 0x63 → c ≡ true →
      (row.bytes.now ≡ p.bytes.now) × (row.at ≡ b) × (row.end ≡ p.stop) →
      Tells (member_after (fields_of row) second) t (ident_by r) → Tells (ident_after (tree_of p) (pass_of c)) t (ident_by r)
  after-63 {b} {c} r row e h z m w =
      record {
        is = λ u v.
            w.is u v
            ∙ ap (λ (f : Fields). member_after f second u) (row-is (left-start row m))
            ∙ sym (ap (λ (k : Bool). ident_after (tree_of p) (pass_of k) u) z ∙ is-tree second u b e ∙ rw (eq-eqb (part_tag p) 0x63 h));
      }

  -- in the first it is no id
  pub after-first : {b : ℕ} {c : Bool} {t : List ℕ} → part_fixed p ≡ Some b → part_tag p ≡ 0x63 → c ≡ false →
      Tells (ident_after (tree_of p) (pass_of c)) t None
  after-first {b} {c} e h z =
      record {
        is = λ u v.
            sym (ap (λ (k : Bool). ident_after (tree_of p) (pass_of k) u) z
            ∙ is-tree first u b e
            ∙ rw (eq-eqb (part_tag p) 0x63 h) (first-none (row_at p.bytes.now b p.stop) u));
      }

-- ---- The parts of a 63, in the second pass

-- the object is no id
no-object : (o : Field) (r : Fields) (u : State) → ident_after o second u ≡ None → member_after (more o r) second u ≡ None
unfolding ident_after becomes
no-object o none u h = refl
no-object o (more q qs) u h = ap (λ (i : Option (List ℕ)). becomes second i q u) h

-- it has no usages, or it is not imported, or the member names the id
no_usages : (us : List Usage) (c : Option (List ℕ)) (q : Field) → any us ≡ false → as_ident us c q ≡ None
unfolding as_ident
no_usages [] c q h = refl
no_usages (x ∷ us) c q h = absurd (let z : ◌≡◌ {A = ℕ} 0 1 = cc in omega arith)

no-context : (us : List Usage) (q : Field) → as_ident us None q ≡ None
unfolding as_ident
no-context [] q = refl
no-context (x ∷ us) q = refl

with-both : (us : List Usage) (c : List ℕ) (q : Field) → any us ≡ true → as_ident us (Some c) q ≡ cond (has 0x70 q) (Some (fixed_of q ++ c)) None
unfolding as_ident
with-both [] c q h = absurd (let z : ◌≡◌ {A = ℕ} 0 1 = cc in omega arith)
with-both (x ∷ us) c q h = refl

on-object : (o : Field) (q : Field) (qs : Fields) (u : State) (i : List ℕ) → Some i ≡ ident_after o second u →
    member_after (more o (more q qs)) second u ≡ as_ident (usages_of i u.usages) (imported_as i u.imported) q
unfolding ident_after becomes
on-object o q qs u i h = ap (λ (j : Option (List ℕ)). becomes second j q u) (sym h)

object-unused : (o : Field) (r : Fields) (u : State) (i : List ℕ) → Some i ≡ ident_after o second u → false ≡ any (usages_of i u.usages) → member_after (more o r) second u ≡ None
unfolding ident_after
object-unused o none u i h k = refl
object-unused o (more q qs) u i h k = on-object o q qs u i h ∙ no_usages (usages_of i u.usages) (imported_as i u.imported) q (sym k)

object-nowhere : (o : Field) (r : Fields) (u : State) (i : List ℕ) → Some i ≡ ident_after o second u → None ≡ imported_as i u.imported → member_after (more o r) second u ≡ None
unfolding ident_after
object-nowhere o none u i h k = refl
object-nowhere o (more q qs) u i h k =
    on-object o q qs u i h ∙ ap (λ (c : Option (List ℕ)). as_ident (usages_of i u.usages) c q) (sym k) ∙ no-context (usages_of i u.usages) q

object-named : (o : Field) (r : Fields) (u : State) (i c : List ℕ) → Some i ≡ ident_after o second u → true ≡ any (usages_of i u.usages) → Some c ≡ imported_as i u.imported →
    member_after (more o r) second u ≡ named_first r c
unfolding ident_after named_first
object-named o none u i c h k m = refl
object-named o (more q qs) u i c h k m =
    on-object o q qs u i h ∙ ap (λ (d : Option (List ℕ)). as_ident (usages_of i u.usages) d q) (sym m) ∙ with-both (usages_of i u.usages) c q (sym k)

pub member-none : (row row' : Row) {t : List ℕ} → GivesPart row None row' → Tells (member_after (fields_of row) second) t None
unfolding ident_after
member-none row row' g = record { is = λ u _. sym (ap (λ (f : Fields). member_after f second u) (fields-none row row' g)) }

module _ (row : Row) (o : Part) (row' : Row) (g : GivesPart row (Some o) row') where
  members-are : (u : State) → member_after (fields_of row) second u ≡ member_after (more (tree_of o) (fields_of row')) second u
  members-are u = ap (λ (f : Fields). member_after f second u) (fields-more row o row' g)

  pub member-other : {r : Option Id} {t : List ℕ} → r ≡ None → Tells (ident_after (tree_of o) second) t (ident_by r) → Tells (member_after (fields_of row) second) t None
  member-other h w =
      record { is = λ u v. sym (members-are u ∙ no-object (tree_of o) (fields_of row') u (sym (w.is u v) ∙ ap ident_by h)) }

  module _ {n : Id} {r : Option Id} {t : List ℕ} (h : r ≡ Some n) (w : Tells (ident_after (tree_of o) second) t (ident_by r)) where
    object_is : {x : Env} (u : State) → Shows x t u → Some (id_by n) ≡ ident_after (tree_of o) second u
    object_is u v = ap ident_by (sym h) ∙ w.is u v

    pub member-unused : {b : Bool} → b ≡ false → Tells (λ u. any (usages_of (id_by n) u.usages)) t b → Tells (member_after (fields_of row) second) t None
    member-unused k p =
        record { is = λ u v. sym (members-are u ∙ object-unused (tree_of o) (fields_of row') u (id_by n) (object_is u v) (sym k ∙ p.is u v)) }

    pub member-nowhere : {c : Option SyntaxContext} → c ≡ None → Tells (λ u. imported_as (id_by n) u.imported) t (context_by c) →
        Tells (member_after (fields_of row) second) t None
    member-nowhere k p =
        record { is = λ u v. sym (members-are u ∙ object-nowhere (tree_of o) (fields_of row') u (id_by n) (object_is u v) (ap context_by (sym k) ∙ p.is u v)) }

    pub member-named : {b : Bool} {c : Option SyntaxContext} {d : SyntaxContext} (q : Option Id) → b ≡ true → Tells (λ u. any (usages_of (id_by n) u.usages)) t b → c ≡ Some d →
        Tells (λ u. imported_as (id_by n) u.imported) t (context_by c) → ident_by q ≡ named_first (fields_of row') (four d.0) →
        Tells (member_after (fields_of row) second) t (ident_by q)
    member-named {d = d} q k p m i f =
        record {
          is = λ u v.
              f
              ∙
              sym (members-are u
              ∙ object-named (tree_of o) (fields_of row') u (id_by n) (four d.0) (object_is u v) (sym k ∙ p.is u v)
              (ap context_by (sym m) ∙ i.is u v));
        }

-- ---- The member

pub named-none : (row row' : Row) (c : List ℕ) → GivesPart row None row' → None ≡ named_first (fields_of row) c
unfolding named_first
named-none row row' c g = sym (ap (λ (f : Fields). named_first f c) (fields-none row row' g))

module _ (row : Row) (p : Part) (row' : Row) (c : List ℕ) (g : GivesPart row (Some p) row') where
  pub named-short : part_fixed p ≡ None → None ≡ named_first (fields_of row) c
  unfolding named_first
  named-short x =
      sym (ap (λ (f : Fields). named_first f c) (fields-more row p row' g ∙ ap (λ (f : Field). more f (fields_of row')) (part-short p x)))

  named-is : (b : ℕ) → part_fixed p ≡ Some b → named_first (fields_of row) c ≡ cond (eqb (part_tag p) 0x70) (Some (slice (p.at + 3) b p.bytes.now ++ c)) None
  unfolding named_first
  named-is b x =
      ap (λ (f : Fields). named_first f c)
      (fields-more row p row' g ∙ ap (λ (f : Field). more f (fields_of row')) (tree-upto p.bytes.now p.at p.stop b x))

  pub named-70 : {b a : ℕ} → p.at + 5 ≤ length p.bytes.now → part_fixed p ≡ Some b → part_tag p ≡ 0x70 → a ≡ two_at p.bytes.now (p.at + 3) →
      Some (two a ++ c) ≡ named_first (fields_of row) c
  named-70 {b} {a} fits x h z =
      let s = p.bytes.now in
      let w = plain-ends 0x70 Atom refl s (part_tag p) (p.at + 3) p.stop b h x in
      let y : two a ≡ slice (p.at + 3) b s =
      ap two z ∙ two_at-is s (p.at + 3) p.of_bytes (omega arith) ∙ ap (λ (k : ℕ). slice (p.at + 3) k s) (sym w) in
      sym (named-is b x ∙ rw (eq-eqb (part_tag p) 0x70 h) (ap Some (sym (ap (λ (l : List ℕ). l ++ c) y))))

  pub named-rest : {b : ℕ} → part_fixed p ≡ Some b → (part_tag p ≡ 0x70 → ⊥) → None ≡ named_first (fields_of row) c
  named-rest {b} x h = sym (named-is b x ∙ rw (ne_eqb (part_tag p) 0x70 h))
