-- Records that were read, one by one: those with a source come first, the forced ones behind them.
use Rattle.std.specs.Prelude.{None, Some}
use Prim.Native.Nat.{ℕ, zero, suc, ◌+◌, ◌-◌, ◌≤◌, ◌<◌}
use native.Mathlib.Omega.{arith}
use mathlib.Core.Path.{◌≡◌, refl, sym, ap, subst, ◌∙◌}
use mathlib.Core.Bool.{Bool, true, false, not, cond, ◌||◌}
use mathlib.Core.List.{List, ◌∷◌}
use lib.Dec.{eqb}
use lib.ListN.{length, get_or}
use lib.Seq.{slice, length-slice}
use borrow.Author.Tests.{eq-eqb, ne_eqb, eqb-true, eqb-false}
use Rattle.tree.specs.declared.grammar.Set.{Set}
use Rattle.tree.specs.declared.grammar.Set.TheVariants.{Records, Collected, Lazy, Dynamic, Forced}
use Rattle.tree.specs.declared.grammar.Slot.{Slot}
use Rattle.tree.specs.declared.grammar.Slot.TheVariants.{Nothing, Many}
use Rattle.tree.specs.declared.grammar.Rule.{Rule}
use Rattle.tree.specs.declared.grammar.Value.TheVariants.{Empty, Atom, Literal}
use Rattle.tree.specs.Layout.{Bytes, two, two_at, same}
use Rattle.tree.specs.Grammar.{parts3, parts4, within, holds_at, rule_of, step_at}
use Rattle.tree.specs.Tree.{Field, field, Fields, none, more, tag_of, fixed_of, size}
use Rattle.tree.specs.Access.{extent_at}
use Rattle.tree.specs.Read.{fine, read}
use Rattle.tree.specs.Standing.{tree_at, row_at, Whole, Row}
use Rattle.tree.specs.Within.{FormedAll}
use Rattle.tree.specs.Rows.{GivesPart, tree_of, fields_of}
use Rattle.tree.specs.declared.row.Part.{Part}
use Rattle.tree.specs.declared.row.Row.{Row as PartRow}
use Rattle.tree.proofs.FixedLaws.{upto-inj}
use Rattle.tree.proofs.GrammarLaws.{go-inj, many-slot, no-step}
use Rattle.tree.proofs.AccessLaws.{extent-upto, upto-in}
use Rattle.tree.proofs.LayoutLaws.{two_at-is, same-two}
use Rattle.tree.proofs.PartLaws.{fields-none, fields-more, row-there, part-there, part_tag, part_fixed}
use Rattle.tree.proofs.StandingLaws.{tree-upto, whole-step, whole-tag, row-next, read-field}
use Rattle.tree.proofs.WidthLaws.{Plainly, plain-ends, tree-bare}
use Rattle.tree.proofs.SoundLaws.{row-sound, whole-sound}
use Rattle.tree.proofs.TreeLaws.{size-encode}
use Rattle.inputs.specs.Lists.{among}
use Rattle.inputs.specs.Fields.{keep}
use Rattle.inputs.specs.Outcome.{done}
use Rattle.resolving_rules.specs.Resolve.{sources_in, forced_in}
use Rattle.resolving_rules.specs.Call.{records_read}
use Rattle.resolving.specs.Records.{FieldRead, FieldsRead, records_in, left_rule, RecordsLeft, RecordsRead, SourceRead, forces_at}

-- ---- The rules that are left

-- a slot for many takes a tag of its set and stays, or is passed over
many-step : (x : Set) (a b c : Slot) (t : ℕ) (q : Rule) (P : Type 0) → step_at (parts4 (Many x) a b c) t ≡ Some q →
    (holds_at x t ≡ true → q ≡ parts4 (Many x) a b c → P) → (step_at (parts3 a b c) t ≡ Some q → P) → P
many-step x a b c t q P e here past = go (holds_at x t) refl (sym (many-slot x a b c t) ∙ e)
  where
    go : (y : Bool) → holds_at x t ≡ y → cond y (Some (parts4 (Many x) a b c)) (step_at (parts3 a b c) t) ≡ Some q → P
    go true w z = here w (sym (go-inj z))
    go false w z = past z

-- the record's kind
record Kind (t : ℕ) (q : Rule) : Type 0 where
  kind : ℕ
  most : kind ≤ 3
  tag : t ≡ 0x80 + kind
  rule : q ≡ left_rule kind

-- behind a forced source all are
only-forced : (t : ℕ) (q : Rule) → step_at (left_rule 3) t ≡ Some q → (t ≡ 0x83) × (q ≡ left_rule 3)
unfolding holds_at
only-forced t q e =
    many-step Forced Nothing Nothing Nothing t q ((t ≡ 0x83) × (q ≡ left_rule 3)) e
    (λ h r. (eqb-true t 0x83 h, r)) (λ z. absurd (no-step t z))

kind-3 : (t : ℕ) (q : Rule) → step_at (left_rule 3) t ≡ Some q → Kind t q
kind-3 t q e = let o = only-forced t q e in record { kind = 3; most = omega arith; tag = o.0; rule = o.1 }

kind-2 : (t : ℕ) (q : Rule) → step_at (left_rule 2) t ≡ Some q → Kind t q
unfolding holds_at
kind-2 t q e =
    many-step Dynamic (Many Forced) Nothing Nothing t q (Kind t q) e
    (λ h r. record { kind = 2; most = omega arith; tag = eqb-true t 0x82 h; rule = r }) (λ z. kind-3 t q z)

kind-1 : (t : ℕ) (q : Rule) → step_at (left_rule 1) t ≡ Some q → Kind t q
unfolding holds_at
kind-1 t q e =
    many-step Lazy (Many Dynamic) (Many Forced) Nothing t q (Kind t q) e
    (λ h r. record { kind = 1; most = omega arith; tag = eqb-true t 0x81 h; rule = r }) (λ z. kind-2 t q z)

kind-of : (k t : ℕ) (q : Rule) → step_at (left_rule k) t ≡ Some q → Kind t q
unfolding holds_at
kind-of zero t q e =
    many-step Collected (Many Lazy) (Many Dynamic) (Many Forced) t q (Kind t q) e
    (λ h r. record { kind = 0; most = omega arith; tag = eqb-true t 0x80 h; rule = r }) (λ z. kind-1 t q z)
kind-of (suc zero) t q e = kind-1 t q e
kind-of (suc (suc zero)) t q e = kind-2 t q e
kind-of (suc (suc (suc k))) t q e = kind-3 t q e

-- ---- Which have a source

source-skip : (f : Field) (fs : Fields) → tag_of f ≡ 0x83 → sources_in (more f fs) ≡ sources_in fs
unfolding keep
source-skip f fs h = ap (λ (b : Bool). cond (not b) (more f (sources_in fs)) (sources_in fs)) (eq-eqb (tag_of f) 0x83 h)

source-take : (f : Field) (fs : Fields) → (tag_of f ≡ 0x83 → ⊥) → sources_in (more f fs) ≡ more f (sources_in fs)
unfolding keep
source-take f fs h = ap (λ (b : Bool). cond (not b) (more f (sources_in fs)) (sources_in fs)) (ne_eqb (tag_of f) 0x83 h)

source-end : sources_in none ≡ none
unfolding keep
source-end = refl

forced-rest : (fs : Fields) → FormedAll fs (left_rule 3) → sources_in fs ≡ none
forced-rest none w = source-end
forced-rest (more f fs) w =
    let o = only-forced (tag_of f) w.0 w.1 in
    source-skip f fs o.0 ∙ forced-rest fs (subst (FormedAll fs) o.1 w.3)

-- ---- Fields in bytes

-- a field is as long as the rules count
field-long : (s : List ℕ) (at end stop : ℕ) → Bytes s → at ≤ end → end ≤ length s → extent_at s at end ≡ Some stop → Whole s at stop →
    size (tree_at s at stop) ≡ stop - at
field-long s at end stop bs le fits e w =
    let i = extent-upto s at end le e in
    size-encode (tree_at s at stop) ∙ ap length (whole-sound s at end stop bs le fits e w).0 ∙ length-slice at stop s (omega arith)

module _ (r : PartRow) (p : Part) (r' : PartRow) (g : GivesPart r (Some p) r') where
  module _ (w : FieldsRead r) where
    next-field : (q : Rule) × (step_at w.rule (part_tag p) ≡ Some q) × FieldRead p × Row r'.bytes.now r'.at r'.end q
    next-field =
        let i = extent-upto r.bytes.now r.at r.end r.inside.0 g.0 in
        let f = row-next r.bytes.now r.at r.end w.rule r.inside.0 w.row (λ z. omega arith) in
        let z : f.1 ≡ p.stop = upto-inj (sym f.3 ∙ g.0) in
        let whole = subst (Whole r.bytes.now r.at) z f.4 in (
          f.0,
          part-there r p r' g (λ s n e. step_at w.rule (get_or s n 0) ≡ Some f.0) f.2,
          record {
            whole = part-there r p r' g Whole whole;
            long = part-there r p r' g (λ s n e. size (tree_at s n e) ≡ e - n) (field-long r.bytes.now r.at r.end p.stop r.of_bytes r.inside.0 r.inside.1 g.0 whole);
          },
          row-there r' (g.2, g.3, g.4) (λ s n e. Row s n e f.0) (subst (λ (k : ℕ). Row r.bytes.now k r.end f.0) z f.5),
        )

    -- the first of some fields, and the others
    pub fields-next : FieldRead p × FieldsRead r'
    fields-next = let n = next-field in (n.2, record { rule = n.0; row = n.3 })

-- ---- Records in bytes

-- the first of some records
record Next (p : Part) (r' : PartRow) : Type 0 where
  read : FieldRead p
  kind : ℕ
  most : kind ≤ 3
  tag : part_tag p ≡ 0x80 + kind
  row : Row r'.bytes.now r'.at r'.end (left_rule kind)
  fixed : ℕ
  fixes : part_fixed p ≡ Some fixed
  parts : Row p.bytes.now fixed p.stop (rule_of (part_tag p))

module _ (r : PartRow) (p : Part) (r' : PartRow) (w : RecordsLeft r) (g : GivesPart r (Some p) r') where
  next-record : Next p r'
  next-record =
      let f = next-field r p r' g (record { rule = left_rule w.kind; row = w.row }) in
      let k = kind-of w.kind (part_tag p) f.0 f.1 in
      let h = whole-step p.bytes.now p.at p.stop f.2.whole in
      record {
        read = f.2;
        kind = k.kind;
        most = k.most;
        tag = k.tag;
        row = subst (Row r'.bytes.now r'.at r'.end) k.rule f.3;
        fixed = h.0;
        fixes = h.1;
        parts = h.2;
      }

  pub records-next : RecordsLeft r'
  records-next = let n = next-record in record { kind = n.kind; row = n.row }

  record-tag : tag_of (tree_of p) ≡ part_tag p
  record-tag = whole-tag p.bytes.now p.at p.stop next-record.read.whole

  record-fixed : p.at + 3 ≤ next-record.fixed × next-record.fixed ≤ p.stop
  record-fixed = upto-in p.bytes.now (part_tag p) (p.at + 3) p.stop p.whole.0 next-record.fixes

  -- ---- those with a source

  module _ (h : part_tag p ≡ 0x83 → ⊥) where
    source-fixed : next-record.fixed ≡ p.at + 9
    source-fixed =
        let n = next-record in
        let b = plain-ends (0x80 + n.kind) Literal (by n.kind n.tag n.most) p.bytes.now (part_tag p) (p.at + 3) p.stop n.fixed n.tag n.fixes in omega arith
      where
        by : (k : ℕ) → part_tag p ≡ 0x80 + k → k ≤ 3 → Plainly (0x80 + k) Literal
        by zero q l = refl
        by (suc zero) q l = refl
        by (suc (suc zero)) q l = refl
        by (suc (suc (suc zero))) q l = absurd (h q)
        by (suc (suc (suc (suc k)))) q l = absurd (omega arith)

    source-here : SourceRead p
    source-here =
        let n = next-record in
        let b = source-fixed in
        let i = record-fixed in
        record {
          wide = omega arith;
          tree =
              tree-upto p.bytes.now p.at p.stop n.fixed n.fixes
              ∙ ap (λ (k : ℕ). field (part_tag p) (slice (p.at + 3) k p.bytes.now) (row_at p.bytes.now k p.stop)) b;
          long = n.read.long;
          parts = record { rule = rule_of (part_tag p); row = subst (λ (k : ℕ). Row p.bytes.now k p.stop (rule_of (part_tag p))) b n.parts };
        }

    source-more : sources_in (fields_of r) ≡ more (tree_of p) (sources_in (fields_of r'))
    source-more = ap sources_in (fields-more r p r' g) ∙ source-take (tree_of p) (fields_of r') (λ q. h (sym record-tag ∙ q))

  -- ---- the forced ones behind them

  module _ (h : part_tag p ≡ 0x83) where
    forced-kind : next-record.kind ≡ 3
    forced-kind = let t = next-record.tag in omega arith

    pub sources-end : sources_in (fields_of r) ≡ none
    sources-end =
        let left = subst (λ (k : ℕ). Row r'.bytes.now r'.at r'.end (left_rule k)) forced-kind next-record.row in
        let f = row-sound r'.bytes.now r'.at r'.end (left_rule 3) r'.of_bytes r'.inside.0 r'.inside.1 left in
        ap sources_in (fields-more r p r' g) ∙ source-skip (tree_of p) (fields_of r') (record-tag ∙ h) ∙ forced-rest (fields_of r') f.1

pub sources-none : (r r' : PartRow) → GivesPart r None r' → sources_in (fields_of r) ≡ none
sources-none r r' g = ap sources_in (fields-none r r' g) ∙ source-end

-- ---- In a walk over them, by the code's test

-- the walk that stood at `here` gave a record with a source, and goes on at `next`
pub record Standing (here : PartRow) (p : Part) (next : PartRow) : Type 0 where
  pub source : SourceRead p
  pub rest : RecordsLeft next
  pub row : sources_in (fields_of here) ≡ more (tree_of p) (sources_in (fields_of next))
  pub stands : here.at ≡ p.at
  pub after : here.at + size (tree_of p) ≡ next.at

pub source-part : (r : PartRow) (p : Part) (r' : PartRow) → RecordsLeft r → GivesPart r (Some p) r' → (part_tag p ≡ 0x83 → ⊥) → Standing r p r'
source-part r p r' w g h =
    let x = source-here r p r' w g h in
    let wide = x.wide in
    let long = x.long in
    let at = g.1 in
    let next = g.3 in
    record { source = x; rest = records-next r p r' w g; row = source-more r p r' w g h; stands = sym at; after = omega arith }

-- ---- Forced sources

module _ (a : ℕ) (small : a < 65536) where
  among-here : (f : Field) (fs : Fields) → tag_of f ≡ 0x83 → among (two a) (forced_in (more f fs)) ≡ same (two a) (fixed_of f) || among (two a) (forced_in fs)
  unfolding forced_in among
  among-here f fs h = ap (λ (b : Bool). among (two a) (cond b (fixed_of f ∷ forced_in fs) (forced_in fs))) (eq-eqb (tag_of f) 0x83 h)

  among-past : (f : Field) (fs : Fields) → (tag_of f ≡ 0x83 → ⊥) → among (two a) (forced_in (more f fs)) ≡ among (two a) (forced_in fs)
  unfolding forced_in
  among-past f fs h = ap (λ (b : Bool). among (two a) (cond b (fixed_of f ∷ forced_in fs) (forced_in fs))) (ne_eqb (tag_of f) 0x83 h)

  pub forced-end : (r r' : PartRow) → GivesPart r None r' → among (two a) (forced_in (fields_of r)) ≡ false
  unfolding forced_in among
  forced-end r r' g = ap (λ (fs : Fields). among (two a) (forced_in fs)) (fields-none r r' g)

  module _ (r : PartRow) (p : Part) (r' : PartRow) (w : RecordsLeft r) (g : GivesPart r (Some p) r') where
    forced-fixed : part_tag p ≡ 0x83 → (next-record r p r' w g).fixed ≡ p.at + 5
    forced-fixed h =
        let n = next-record r p r' w g in
        let b = plain-ends 0x83 Atom refl p.bytes.now (part_tag p) (p.at + 3) p.stop n.fixed h n.fixes in omega arith

    -- the atom of a forced source
    forced-atom : part_tag p ≡ 0x83 → same (two a) (fixed_of (tree_of p)) ≡ eqb a (two_at p.bytes.now (p.at + 3))
    forced-atom h =
        let n = next-record r p r' w g in
        let i = record-fixed r p r' w g in
        let b = forced-fixed h in
        let f = p.whole.1 in
        let z : p.at + 5 ≡ p.at + 3 + 2 = omega arith in
        let u = p.of_bytes (p.at + 3) in
        let v = p.of_bytes (p.at + 3 + 1) in
        ap (λ (x : Field). same (two a) (fixed_of x)) (tree-upto p.bytes.now p.at p.stop n.fixed n.fixes)
        ∙ ap (λ (k : ℕ). same (two a) (slice (p.at + 3) k p.bytes.now)) (b ∙ z)
        ∙ ap (same (two a)) (sym (two_at-is p.bytes.now (p.at + 3) p.of_bytes (omega arith)))
        ∙ same-two a (two_at p.bytes.now (p.at + 3)) small (omega arith)

    pub forced-inside : p.at + 5 ≤ p.stop
    forced-inside =
        by (eqb (part_tag p) 0x83) refl
      where
        by : (b : Bool) → eqb (part_tag p) 0x83 ≡ b → p.at + 5 ≤ p.stop
        by true q =
            let i = record-fixed r p r' w g in
            let b = forced-fixed (eqb-true (part_tag p) 0x83 q) in omega arith
        by false q =
            let u = (source-here r p r' w g (eqb-false (part_tag p) 0x83 q)).wide in omega arith

    pub forced-step : among (two a) (forced_in (fields_of r)) ≡ forces_at p.bytes.now p.at a || among (two a) (forced_in (fields_of r'))
    unfolding forces_at
    forced-step = ap (λ (fs : Fields). among (two a) (forced_in fs)) (fields-more r p r' g) ∙ by (eqb (part_tag p) 0x83) refl
      where
        by : (b : Bool) → eqb (part_tag p) 0x83 ≡ b →
            among (two a) (forced_in (more (tree_of p) (fields_of r'))) ≡ cond b (eqb a (two_at p.bytes.now (p.at + 3))) false || among (two a) (forced_in (fields_of r'))
        by true q =
            let h = eqb-true (part_tag p) 0x83 q in
            among-here (tree_of p) (fields_of r') (record-tag r p r' w g ∙ h) ∙ ap (λ (b : Bool). b || among (two a) (forced_in (fields_of r'))) (forced-atom h)
        by false q =
            let h = eqb-false (part_tag p) 0x83 q in
            among-past (tree_of p) (fields_of r') (λ z. h (sym (record-tag r p r' w g) ∙ z))

-- ---- The records of a call

records-tag : (t : ℕ) → holds_at Records t ≡ true → t ≡ 0x02
unfolding holds_at
records-tag t h = eqb-true t 0x02 h

records-rule : rule_of 0x02 ≡ left_rule 0
unfolding rule_of within
records-rule = refl

-- they stand from 3 on, by the rule of the 02
pub records-read : (s : List ℕ) (fs : Fields) → read Records s ≡ fine fs → records_read (read Records s) ≡ done (records_in s)
records-read s fs e =
    let r = read-field Records s fs e in
    ap records_read (e ∙ ap fine (r.tree ∙ ap (λ (f : Field). more f none) (tree-bare 0x02 refl s 0 (length s) r.room (records-tag (get_or s 0 0) r.tag))))

pub records-sound : (s : List ℕ) (fs : Fields) → read Records s ≡ fine fs → RecordsRead s
records-sound s fs e =
    let r = read-field Records s fs e in
    let w = whole-step s 0 (length s) r.whole in
    let t : get_or s 0 0 ≡ 0x02 = records-tag (get_or s 0 0) r.tag in
    let b : w.0 ≡ 3 = plain-ends 0x02 Empty refl s (get_or s 0 0) 3 (length s) w.0 t w.1 in
    record {
      inside = r.room;
      records =
          record {
            kind = 0;
            row = subst (Row s 3 (length s)) (ap rule_of t ∙ records-rule) (subst (λ (k : ℕ). Row s k (length s) (rule_of (get_or s 0 0))) b w.2);
          };
    }
