-- Collected records as they are written: the imports of their source, what was made of those with their literal, one after another.
use Rattle.std.specs.Prelude.{None, Some}
use Prim.Native.Nat.{ℕ, ◌+◌, ◌≤◌, ◌<◌}
use native.Mathlib.Omega.{arith}
use mathlib.Core.Path.{◌≡◌, refl, sym, ap, ap₂, ◌∙◌}
use mathlib.Core.Bool.{Bool, true, false, not, cond, ◌&&◌}
use mathlib.Core.List.{List, [], ◌++◌, map}
use lib.Dec.{eqb}
use lib.ListN.{length, drop}
use borrow.Author.Tests.{eq-eqb, ne_eqb}
use Rattle.tree.specs.Layout.{same, two, value_of, literal_value, literal_at, same_literal}
use Rattle.tree.specs.Tree.{Field, field, Fields, none, more, tag_of, fixed_of, parts_of, encode, encodes}
use Rattle.tree.specs.Access.{extent_at}
use Rattle.tree.specs.Standing.{row_at}
use Rattle.tree.specs.Rows.{tree_of, fields_of}
use Rattle.tree.specs.declared.row.Part.{Part}
use Rattle.tree.specs.declared.row.Row.{Row}
use Rattle.tree.proofs.StandingLaws.{row-more, row-none}
use Rattle.tree.proofs.PartLaws.{part_fixed, part-short, part-tree}
use Rattle.tree.proofs.TreeLaws.{encodes-none}
use Rattle.metadata.specs.Metadata.{append}
use Rattle.metadata.proofs.EncodeLaws.{framed-field, encodes-append}
use Rattle.inputs.specs.Lists.{among}
use Rattle.inputs.specs.Fields.{has, keep, sole}
use Rattle.writer.specs.Bytes.{framed}
use Rattle.writer.specs.Wrote.{Wrote, Opened, closed}
use Rattle.writer.proofs.Wrote.{wrote-then, wrote-as, wrote-field}
use Rattle.extraction_rules.specs.State.{Record, State}
use Rattle.extraction_rules.specs.First.{specifiers_in}
use Rattle.extraction_rules.specs.Second.{lose_namespaces}
use Rattle.extraction_rules.specs.Records.{record_fields, forced_fields}
use Rattle.extraction_rules.proofs.TestLaws.{cond-of}
use Rattle.extraction_rules.proofs.FirstLaws.{lose-literal}
use Rattle.state.specs.declared.Literal.{Literal}
use Rattle.state.specs.Cells.{Env, literal_by, Shows}
use Rattle.state.specs.Does.{Tells, Holds}
use Rattle.records.specs.Model.{gathered_of, gathered, is_namespace, starts_named, whole_of, taken_of, taken, specifiers_of, rebuilt}
use Rattle.records.specs.Writes.{literal_in, Placing, WroteFor, Onward, WroteIf, RowRead, BothRead, sieve, named_parts, item_at, ImportIs, items_in, retold, records_in}
use Rattle.records.proofs.LiteralLaws.{value-test}
use Rattle.records.proofs.LazyLaws.{cons-inj}
use Rattle.records.proofs.SpecifierLaws.{item-is, item-none, row-past, sieve-none, sieve-append}

-- ---- What is written under a premise

pub if-as : {P : Type 0} {bs cs l l' : List ℕ} {o p : ℕ} → WroteIf P bs l o l' p → bs ≡ cs → WroteIf P cs l o l' p
if-as w e = record { size = w.size; is = λ h. wrote-as (w.is h) e }

pub if-from : {P Q : Type 0} {bs l l' : List ℕ} {o p : ℕ} → (Q → P) → WroteIf P bs l o l' p → WroteIf Q bs l o l' p
if-from k w = record { size = w.size; is = λ h. w.is (k h) }

pub sieve-nothing : (b : Bool) (fs : Fields) → fs ≡ none → encodes (sieve b fs) ≡ []
sieve-nothing b fs e = ap (λ (gs : Fields). encodes (sieve b gs)) e ∙ ap encodes (sieve-none b) ∙ encodes-none

sieve-bytes : (b : Bool) (fs gs : Fields) → encodes (sieve b (append fs gs)) ≡ encodes (sieve b fs) ++ encodes (sieve b gs)
sieve-bytes b fs gs = ap encodes (sieve-append b fs gs) ∙ encodes-append (sieve b fs) (sieve b gs)

-- ---- The imports of a source

pub gathered-none : (b : Bool) (a : ℕ) (f : Field) → (tag_of f ≡ 0x10 → ⊥) → encodes (sieve b (gathered_of (two a) f)) ≡ []
unfolding gathered_of
gathered-none b a f h =
    sieve-nothing b (gathered_of (two a) f)
    (ap (λ (c : Bool). cond (c && same (value_of (fixed_of f)) (two a)) (specifiers_in (parts_of f)) none) (ne_eqb (tag_of f) 0x10 h))

-- where no field stands
pub gathered-nowhere : (b : Bool) (a : ℕ) (s : List ℕ) (at : ℕ) → extent_at s at (length s) ≡ None → encodes (sieve b (gathered_of (two a) (item_at s at))) ≡ []
gathered-nowhere b a s at e =
    gathered-none b a (item_at s at) (λ t. let z : 0 ≡ 0x10 = sym (ap tag_of (item-none s at e)) ∙ t in omega arith)

module _ (b : Bool) (p : Part) (a : ℕ) (r : Row) (i : ImportIs p r) (k : a < 65536) where
  by-value : gathered_of (two a) (tree_of p) ≡ cond (eqb (literal_value p.bytes.now (p.at + 3)) a) (specifiers_in (fields_of r)) none
  unfolding gathered_of
  by-value =
      let u = i.inside in
      let v = p.whole.1 in
      ap (gathered_of (two a)) i.item
      ∙ ap (λ (c : Bool). cond c (specifiers_in (fields_of r)) none) (value-test p.bytes.now (p.at + 3) a p.of_bytes (omega arith) k)

  pub gathered-is : literal_value p.bytes.now (p.at + 3) ≡ a → encodes (sieve b (specifiers_in (fields_of r))) ≡ encodes (sieve b (gathered_of (two a) (tree_of p)))
  gathered-is e =
      ap (λ (fs : Fields). encodes (sieve b fs))
      (sym (by-value ∙ ap (λ (c : Bool). cond c (specifiers_in (fields_of r)) none) (eq-eqb (literal_value p.bytes.now (p.at + 3)) a e)))

  pub gathered-differs : (literal_value p.bytes.now (p.at + 3) ≡ a → ⊥) → encodes (sieve b (gathered_of (two a) (tree_of p))) ≡ []
  gathered-differs e =
      sieve-nothing b (gathered_of (two a) (tree_of p))
      (by-value ∙ ap (λ (c : Bool). cond c (specifiers_in (fields_of r)) none) (ne_eqb (literal_value p.bytes.now (p.at + 3)) a e))

module _ (b : Bool) (v : List ℕ) where
  pub gathered-end : {fs : Fields} → fs ≡ none → encodes (sieve b (gathered v fs)) ≡ []
  unfolding gathered
  gathered-end {fs} e = sieve-nothing b (gathered v fs) (ap (gathered v) e)

  pub gathered-more : {f : Field} {fs gs : Fields} → fs ≡ more f gs →
      encodes (sieve b (gathered v fs)) ≡ encodes (sieve b (gathered_of v f)) ++ encodes (sieve b (gathered v gs))
  unfolding gathered
  gathered-more {f} {fs} {gs} e = ap (λ (hs : Fields). encodes (sieve b (gathered v hs))) e ∙ sieve-bytes b (gathered_of v f) (gathered v gs)

  -- by places
  pub imports-past : (s : List ℕ) (at end : ℕ) → end < at → encodes (sieve b (gathered v (row_at s at end))) ≡ []
  imports-past s at end h = gathered-end (row-past s at end (omega arith))

  pub imports-none : (s : List ℕ) (at end : ℕ) → at ≤ end → extent_at s at end ≡ None → encodes (sieve b (gathered v (row_at s at end))) ≡ []
  imports-none s at end le e = gathered-end (row-none s at end le e)

  pub imports-more : (s : List ℕ) (at stop : ℕ) → at ≤ length s → extent_at s at (length s) ≡ Some stop →
      encodes (sieve b (gathered v (row_at s at (length s)))) ≡ encodes (sieve b (gathered_of v (item_at s at))) ++ encodes (sieve b (gathered v (row_at s stop (length s))))
  imports-more s at stop le e =
      gathered-more (row-more s at (length s) stop le e ∙ ap (λ (f : Field). more f (row_at s stop (length s))) (sym (item-is s at stop e)))

-- ---- What was taken apart

pub whole-other : (l : List ℕ) (f : Field) → (tag_of f ≡ 0x10 → ⊥) → false ≡ whole_of l f
unfolding whole_of
whole-other l f h = sym (ap (λ (c : Bool). c && same_literal (fixed_of f) l && is_namespace (sole (specifiers_in (parts_of f)))) (ne_eqb (tag_of f) 0x10 h))

module _ (p : Part) (l : List ℕ) (r : Row) (i : ImportIs p r) where
  by-literal : whole_of l (tree_of p) ≡ (same_literal (literal_at p.bytes.now (p.at + 3)) l && is_namespace (sole (specifiers_in (fields_of r))))
  unfolding whole_of
  by-literal = ap (whole_of l) i.item

  pub whole-is : same_literal (literal_at p.bytes.now (p.at + 3)) l ≡ true → is_namespace (sole (specifiers_in (fields_of r))) ≡ whole_of l (tree_of p)
  whole-is e = sym (by-literal ∙ ap (λ (c : Bool). c && is_namespace (sole (specifiers_in (fields_of r)))) e)

  pub whole-differs : same_literal (literal_at p.bytes.now (p.at + 3)) l ≡ false → false ≡ whole_of l (tree_of p)
  whole-differs e = sym (by-literal ∙ ap (λ (c : Bool). c && is_namespace (sole (specifiers_in (fields_of r)))) e)

pub named-nowhere : (b : Bool) (s : List ℕ) (at : ℕ) → extent_at s at (length s) ≡ None → encodes (sieve b (named_parts (item_at s at))) ≡ []
unfolding named_parts keep
named-nowhere b s at e = sieve-nothing b (named_parts (item_at s at)) (ap named_parts (item-none s at e))

module _ (b : Bool) (p : Part) where
  pub named-short : part_fixed p ≡ None → encodes (sieve b (named_parts (tree_of p))) ≡ []
  unfolding named_parts keep
  named-short e = sieve-nothing b (named_parts (tree_of p)) (ap named_parts (part-short p e))

  module _ {c : ℕ} (r : Row) (e : part_fixed p ≡ Some c) (m : (r.bytes.now ≡ p.bytes.now) × (r.at ≡ c) × (r.end ≡ p.stop)) where
    by-start : named_parts (tree_of p) ≡ cond (starts_named (specifiers_in (fields_of r))) (specifiers_in (fields_of r)) none
    unfolding named_parts
    by-start = ap named_parts (part-tree p r e m)

    pub named-is : starts_named (specifiers_in (fields_of r)) ≡ true → encodes (sieve b (specifiers_in (fields_of r))) ≡ encodes (sieve b (named_parts (tree_of p)))
    named-is h = ap (λ (fs : Fields). encodes (sieve b fs)) (sym (by-start ∙ ap (λ (y : Bool). cond y (specifiers_in (fields_of r)) none) h))

    pub named-other : starts_named (specifiers_in (fields_of r)) ≡ false → encodes (sieve b (named_parts (tree_of p))) ≡ []
    named-other h = sieve-nothing b (named_parts (tree_of p)) (by-start ∙ ap (λ (y : Bool). cond y (specifiers_in (fields_of r)) none) h)

module _ (b : Bool) (l : List ℕ) (w g : Field) where
  by-whole : taken_of l w g ≡ cond (whole_of l w) (named_parts g) none
  unfolding taken_of named_parts
  by-whole = by (whole_of l w)
    where
      by : (c : Bool) →
          cond (c && starts_named (specifiers_in (parts_of g))) (specifiers_in (parts_of g)) none ≡ cond c
          (cond (starts_named (specifiers_in (parts_of g))) (specifiers_in (parts_of g)) none) none
      by true = refl
      by false = refl

  pub pair-is : whole_of l w ≡ true → encodes (sieve b (named_parts g)) ≡ encodes (sieve b (taken_of l w g))
  pair-is h = ap (λ (fs : Fields). encodes (sieve b fs)) (sym (by-whole ∙ ap (λ (c : Bool). cond c (named_parts g) none) h))

  pub pair-other : whole_of l w ≡ false → encodes (sieve b (taken_of l w g)) ≡ []
  pair-other h = sieve-nothing b (taken_of l w g) (by-whole ∙ ap (λ (c : Bool). cond c (named_parts g) none) h)

-- where no field stands in either tree
module _ (b : Bool) (l : List ℕ) where
  pub pair-nowhere : (s : List ℕ) (at : ℕ) (g : Field) → extent_at s at (length s) ≡ None → encodes (sieve b (taken_of l (item_at s at) g)) ≡ []
  pair-nowhere s at g e =
      pair-other b l (item_at s at) g (sym (whole-other l (item_at s at) (λ t. let z : 0 ≡ 0x10 = sym (ap tag_of (item-none s at e)) ∙ t in omega arith)))

  pub pair-nowhere-out : (w : Field) (s : List ℕ) (at : ℕ) → extent_at s at (length s) ≡ None → encodes (sieve b (taken_of l w (item_at s at))) ≡ []
  unfolding named_parts keep
  pair-nowhere-out w s at e =
      sieve-nothing b (taken_of l w (item_at s at))
      (by-whole b l w (item_at s at) ∙ ap (λ (f : Field). cond (whole_of l w) (named_parts f) none) (item-none s at e) ∙ cond-same (whole_of l w))
    where
      cond-same : (c : Bool) → cond c none none ≡ none
      cond-same true = refl
      cond-same false = refl

module _ (b : Bool) (l : List ℕ) where
  pub taken-end : {ws : Fields} (gs : Fields) → ws ≡ none → encodes (sieve b (taken l ws gs)) ≡ []
  unfolding taken
  taken-end {ws} gs e = sieve-nothing b (taken l ws gs) (ap (λ (fs : Fields). taken l fs gs) e)

  no-items : (ws : Fields) → taken l ws none ≡ none
  unfolding taken
  no-items none = refl
  no-items (more w ws) = refl

  pub taken-end-out : (ws : Fields) {gs : Fields} → gs ≡ none → encodes (sieve b (taken l ws gs)) ≡ []
  taken-end-out ws {gs} e = sieve-nothing b (taken l ws gs) (ap (taken l ws) e ∙ no-items ws)

  pub taken-both : {w g : Field} {ws gs ws' gs' : Fields} → ws ≡ more w ws' → gs ≡ more g gs' →
      encodes (sieve b (taken l ws gs)) ≡ encodes (sieve b (taken_of l w g)) ++ encodes (sieve b (taken l ws' gs'))
  unfolding taken
  taken-both {w} {g} {ws' = ws'} {gs' = gs'} e e' = ap₂ (λ (x y : Fields). encodes (sieve b (taken l x y))) e e' ∙ sieve-bytes b (taken_of l w g) (taken l ws' gs')

  -- by places: past the end of either tree, and where no field stands
  module _ (s : List ℕ) (at end : ℕ) (r : List ℕ) (at' end' : ℕ) where
    pub taken-past : end < at → encodes (sieve b (taken l (row_at s at end) (row_at r at' end'))) ≡ []
    taken-past h = taken-end (row_at r at' end') (row-past s at end (omega arith))

    pub taken-past-out : end' < at' → encodes (sieve b (taken l (row_at s at end) (row_at r at' end'))) ≡ []
    taken-past-out h = taken-end-out (row_at s at end) (row-past r at' end' (omega arith))

    pub taken-none : at ≤ end → extent_at s at end ≡ None → encodes (sieve b (taken l (row_at s at end) (row_at r at' end'))) ≡ []
    taken-none le e = taken-end (row_at r at' end') (row-none s at end le e)

    pub taken-none-out : at' ≤ end' → extent_at r at' end' ≡ None → encodes (sieve b (taken l (row_at s at end) (row_at r at' end'))) ≡ []
    taken-none-out le e = taken-end-out (row_at s at end) (row-none r at' end' le e)

  pub taken-more : (s : List ℕ) (at : ℕ) (r : List ℕ) (at' stop stop' : ℕ) → at ≤ length s → extent_at s at (length s) ≡ Some stop → at' ≤ length r →
      extent_at r at' (length r) ≡ Some stop' →
      encodes (sieve b (taken l (row_at s at (length s)) (row_at r at' (length r)))) ≡ encodes (sieve b (taken_of l (item_at s at) (item_at r at'))) ++
      encodes (sieve b (taken l (row_at s stop (length s)) (row_at r stop' (length r))))
  taken-more s at r at' stop stop' le e le' e' =
      taken-both (row-more s at (length s) stop le e ∙ ap (λ (f : Field). more f (row_at s stop (length s))) (sym (item-is s at stop e)))
      (row-more r at' (length r) stop' le' e' ∙ ap (λ (f : Field). more f (row_at r stop' (length r))) (sym (item-is r at' stop' e')))

-- ---- One record

pub record-written : (b : Bool) (work out lit : List ℕ) (a : ℕ) {l l1 l2 l3 l4 l5 : List ℕ} {o c p q r : ℕ} → Opened l o 0x80 l1 c → Wrote l1 c lit l2 p →
    WroteIf (RowRead work 3 (length work)) (encodes (sieve b (gathered (two a) (items_in work)))) l2 p l3 q →
    WroteIf (RowRead out 3 (length out) × (value_of lit ≡ two a)) (encodes (sieve b (taken lit (items_in work) (items_in out)))) l3 q l4 r → l5 ≡ closed l4 o r →
    length l5 ≡ length l → WroteIf (BothRead work out × (value_of lit ≡ two a)) (encode (field 0x80 lit (sieve b (specifiers_of (items_in work) (items_in out) lit)))) l o l5 r
unfolding specifiers_of
record-written b work out lit a u v w x k z =
    record {
      size = z;
      is = λ h.
          wrote-as (wrote-field u (wrote-then v (wrote-then (w.is h.0.0) (x.is (h.0.1, h.1)))) k)
          (ap (λ (y : List ℕ). framed 0x80 (lit ++ y)) (sym (sieve-bytes b (gathered (two a) (items_in work)) (taken lit (items_in work) (items_in out))))
          ∙ ap (λ (y : List ℕ). framed 0x80 (lit ++ encodes (sieve b (append (gathered y (items_in work)) (taken lit (items_in work) (items_in out)))))) (sym h.1)
          ∙ framed-field 0x80 lit (sieve b (append (gathered (value_of lit) (items_in work)) (taken lit (items_in work) (items_in out)))));
    }

-- ---- All records

rebuilt-specifiers : (works outs : Fields) (forced : List (List ℕ)) (r : Record) (b : Bool) (x : List ℕ) → r.literal ≡ x → among (value_of x) forced ≡ b →
    (rebuilt works outs forced r).specifiers ≡ sieve b (specifiers_of works outs x)
unfolding rebuilt lose_namespaces sieve
rebuilt-specifiers works outs forced r b x e h =
    ap (λ (y : List ℕ). (lose_namespaces forced (record { literal = y; specifiers = specifiers_of works outs y })).specifiers) e
    ∙ cond-of (λ (q : Record). q.specifiers) (among (value_of x) forced) (record { literal = x; specifiers = specifiers_of works outs x })
    (record { literal = x; specifiers = keep (λ f. not (has 0x22 f)) (specifiers_of works outs x) })
    ∙ ap (λ (c : Bool). cond c (specifiers_of works outs x) (keep (λ f. not (has 0x22 f)) (specifiers_of works outs x))) h

rebuilt-literal : (works outs : Fields) (forced : List (List ℕ)) (r : Record) → (rebuilt works outs forced r).literal ≡ r.literal
unfolding rebuilt
rebuilt-literal works outs forced r = lose-literal forced (record { literal = r.literal; specifiers = specifiers_of works outs r.literal })

module _ (tree work : List ℕ) (lit : Literal) {t : List ℕ} {i : ℕ} (g : Holds (λ s. s.collected) (λ q. q.literal) i t (λ x. literal_by x lit)) where
  -- the literal's value is that of its bytes
  pub valued-by : Holds (λ s. s.collected) (λ q. value_of q.literal) i t (λ _. two lit.value.0) → {x : Env} (s : State) → Shows x t s →
      Placing tree work x → value_of (literal_in tree work lit.place) ≡ two lit.value.0
  valued-by v s w k =
      let a = g.is s w in
      let c = v.is s w in
      let same : c.0 ≡ a.0 = cons-inj (sym c.2 ∙ a.2) in
      ap value_of (sym (k.literals_placed lit.place) ∙ sym a.1 ∙ ap (λ (r : Record). r.literal) (sym same)) ∙ c.1

  pub collected-more : (out : List ℕ) (b : Bool) → Holds (λ s. s.collected) (λ q. value_of q.literal) i t (λ _. two lit.value.0) →
      Tells (λ s. among (two lit.value.0) s.forced) t b → {x : Env} (s : State) → Shows x t s → Placing tree work x →
      encodes (record_fields 0x80 (map (rebuilt (items_in work) (items_in out) s.forced) (drop i s.collected))) ≡
      encode (field 0x80 (literal_in tree work lit.place) (sieve b (specifiers_of (items_in work) (items_in out) (literal_in tree work lit.place)))) ++
      encodes (record_fields 0x80 (map (rebuilt (items_in work) (items_in out) s.forced) (drop (i + 1) s.collected)))
  unfolding record_fields encodes
  collected-more out b v f s w k =
      let a = g.is s w in
      let R = rebuilt (items_in work) (items_in out) s.forced in
      let l = literal_in tree work lit.place in
      let is : a.0.literal ≡ l = a.1 ∙ k.literals_placed lit.place in
      let forced : among (value_of l) s.forced ≡ b = ap (λ (y : List ℕ). among y s.forced) (valued-by v s w k) ∙ sym (f.is s w) in
      ap (λ (q : List Record). encodes (record_fields 0x80 (map R q))) a.2
      ∙ ap (λ (h : Field). encode h ++ encodes (record_fields 0x80 (map R (drop (i + 1) s.collected))))
      (ap₂ (field 0x80) (rebuilt-literal (items_in work) (items_in out) s.forced a.0 ∙ is)
      (rebuilt-specifiers (items_in work) (items_in out) s.forced a.0 b l is forced))

pub collected-none : (works outs : Fields) (forced : List (List ℕ)) (l : List Record) → l ≡ [] → encodes (record_fields 0x80 (map (rebuilt works outs forced) l)) ≡ []
unfolding record_fields encodes
collected-none works outs forced l e = ap (λ (m : List Record). encodes (record_fields 0x80 (map (rebuilt works outs forced) m))) e

pub onward-if : {P : Env → Type 0} {Q : Type 0} {f g h : State → List ℕ} {t l l' l'' bs : List ℕ} {o p q : ℕ} → Onward P f g t l o l' p →
    ((x : Env) (s : State) → Shows x t s → P x → Q × (g s ≡ bs ++ h s)) → WroteIf Q bs l' p l'' q → Onward P f h t l o l'' q
onward-if i e w =
    record { size = w.size ∙ i.size; is = λ {x} s v j u. let a = e x s v j in i.is s v j (wrote-as (wrote-then (w.is a.0) u) (sym a.1)) }

-- ---- The whole tree

records-bytes : (work out : List ℕ) (s : State) →
    framed 0x02 (encodes (record_fields 0x80 (retold work out s)) ++ (encodes (record_fields 0x81 s.lazy) ++ encodes (forced_fields s.forced))) ≡ encode (records_in work out s)
unfolding records_in
records-bytes work out s =
    ap (λ (y : List ℕ). framed 0x02 (encodes (record_fields 0x80 (retold work out s)) ++ y)) (sym (encodes-append (record_fields 0x81 s.lazy) (forced_fields s.forced)))
    ∙ ap (framed 0x02) (sym (encodes-append (record_fields 0x80 (retold work out s)) (append (record_fields 0x81 s.lazy) (forced_fields s.forced))))
    ∙ framed-field 0x02 [] (append (record_fields 0x80 (retold work out s)) (append (record_fields 0x81 s.lazy) (forced_fields s.forced)))

pub records-written : (tree work out : List ℕ) {t l l1 l2 l3 l4 l5 : List ℕ} {o c p q r : ℕ} → Opened l o 0x02 l1 c →
    WroteFor (λ x. Placing tree work x × BothRead work out) (λ s. encodes (record_fields 0x80 (retold work out s))) t l1 c l2 p →
    WroteFor (Placing tree work) (λ s. encodes (record_fields 0x81 s.lazy)) t l2 p l3 q →
    WroteFor (λ _. Unit {0}) (λ s. encodes (forced_fields s.forced)) t l3 q l4 r → l5 ≡ closed l4 o r → length l5 ≡ length l →
    WroteFor (λ x. Placing tree work x × BothRead work out) (λ s. encode (records_in work out s)) t l o l5 r
records-written tree work out u a b f k z =
    record {
      size = z;
      is = λ s w h. wrote-as (wrote-field u (wrote-then (a.is s w h) (wrote-then (b.is s w h.0) (f.is s w tt))) k) (records-bytes work out s);
    }
