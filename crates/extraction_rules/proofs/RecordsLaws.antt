-- The records of an accepted extraction are read back: whole records make a tree within the grammar, three deep at most.
use Rattle.std.specs.Prelude.{Some}
use Prim.Native.Nat.{ℕ, ◌≤◌}
use mathlib.Core.Path.{◌≡◌, refl, subst, ◌∙◌}
use mathlib.Core.Bool.{true, false}
use mathlib.Core.List.{List, [], ◌∷◌}
use native.Mathlib.Omega.{arith}
use lib.ListN.{length}
use Rattle.scope.specs.Modules.{Modules}
use Rattle.tree.specs.declared.grammar.Set.TheVariants.{Specifier, Records, Lazy, Dynamic, Forced}
use Rattle.tree.specs.declared.grammar.Slot.TheVariants.{Nothing, Many}
use Rattle.tree.specs.declared.grammar.Rule.{Rule}
use Rattle.tree.specs.Layout.{Bytes}
use Rattle.tree.specs.Tree.{Field, field, Fields, none, more, tag_of, size, encode, depths}
use Rattle.tree.specs.Grammar.{within, holds_at, parts1, parts3, rule_of, slot_at, step_by, step_at, done_at}
use Rattle.tree.specs.Read.{fine, read}
use Rattle.tree.specs.Within.{Exact, Within}
use Rattle.tree.proofs.GrammarLaws.{many-slot}
use Rattle.tree.proofs.TreeLaws.{depth-parts, depth-none, depth-first, depth-rest, depth-most}
use Rattle.tree.proofs.CompleteLaws.{read-complete}
use Rattle.tree.proofs.WidthLaws.{plain-exact}
use Rattle.tree.specs.declared.grammar.Value.TheVariants.{Empty, Atom, Literal}
use Rattle.writer.specs.Finished.{has_room}
use Rattle.metadata.specs.Metadata.{append}
use Rattle.inputs.specs.Outcome.{done}
use Rattle.inputs.specs.Table.{Row, rows_in}
use Rattle.extraction_rules.specs.State.{Record, State, first, second, Setting, start, set_top}
use Rattle.extraction_rules.specs.Second.{finish}
use Rattle.extraction_rules.specs.Walk.{walk_all, walk_module, walk_again}
use Rattle.extraction_rules.specs.Records.{record_fields, forced_fields, records_of}
use Rattle.extraction_rules.specs.Call.{Lent, Lengths, Extracted, setting, extracted}
use Rattle.extraction_rules.proofs.OutcomeLaws.{After, after-bind, after-both, after-weaken}
use Rattle.extraction_rules.proofs.ListLaws.{All}
use Rattle.extraction_rules.proofs.StepLaws.{Keeps}
use Rattle.extraction_rules.proofs.RuleLaws.{rule-targets}
use Rattle.extraction_rules.proofs.ShapeLaws.{ShapedAll, Specifiers, shaped-formed, specifier-rule, leaf-depth}
use Rattle.extraction_rules.proofs.ReadableLaws.{Items, module-results, start-widths, room-size, made-items}
use Rattle.extraction_rules.proofs.WholeLaws.{walk_all-whole, finish-whole}
use Rattle.extraction_rules.proofs.ExtractedLaws.{call-made, run-both}
use Rattle.extraction_rules.proofs.RecordedLaws.{WholeRecord, Whole}
use Rattle.extraction_rules.proofs.ResultLaws.{Results, Widths}

-- ---- Rows

-- '80 and 81: L, specifiers'
specifiers-shaped : (fs : Fields) → Specifiers fs → ShapedAll fs (parts1 (Many Specifier))
specifiers-shaped none h = refl
specifiers-shaped (more f fs) h =
    (parts1 (Many Specifier), many-slot Specifier Nothing Nothing Nothing (tag_of f) ∙ rw h.0.0, h.0.1, specifiers-shaped fs h.1)

-- records, then a rest that may stand where they may
records-shaped : (t : ℕ) (q q' : Rule) (l : List Record) (rest : Fields) → step_at q t ≡ Some q' → step_at q' t ≡ Some q' →
    ((x : List ℕ) → length x ≡ 6 → Exact t x) → rule_of t ≡ parts1 (Many Specifier) → ShapedAll rest q → ShapedAll rest q' → All WholeRecord l →
    ShapedAll (append (record_fields t l) rest) q
unfolding append record_fields
records-shaped t q q' [] rest a b x r k m h = k
records-shaped t q q' (c ∷ l) rest a b x r k m h =
    (q', a, (x c.literal h.0.0, rw r (specifiers-shaped c.specifiers h.0.1)), records-shaped t q' q' l rest b b x r m m h.1)

forced-shaped : (q q' : Rule) (l : List (List ℕ)) → step_at q 0x83 ≡ Some q' → step_at q' 0x83 ≡ Some q' →
    ((x : List ℕ) → length x ≡ 2 → Exact 0x83 x) → done_at (rule_of 0x83) ≡ true → done_at q ≡ true → done_at q' ≡ true →
    All (λ a. length a ≡ 2) l → ShapedAll (forced_fields l) q
unfolding forced_fields
forced-shaped q q' [] a b x r k m h = k
forced-shaped q q' (c ∷ l) a b x r k m h = (q', a, (x c h.0, r), forced-shaped q' q' l b b x r m m h.1)

records-root : holds_at Records 0x02 ≡ true
unfolding holds_at
records-root = refl

-- '02: 80* collected, 81* lazy, 82* dynamic (L), 83* forced'
row-shaped : (c l : List Record) (f : List (List ℕ)) → All WholeRecord c → All WholeRecord l → All (λ a. length a ≡ 2) f →
    ShapedAll (append (record_fields 0x80 c) (append (record_fields 0x81 l) (forced_fields f))) (rule_of 0x02)
unfolding step_at step_by slot_at rule_of within holds_at
row-shaped c l f hc hl hf =
    let q = rule_of 0x02 in
    let q' = parts3 (Many Lazy) (Many Dynamic) (Many Forced) in
    let q'' = parts1 (Many Forced) in
    let end = forced-shaped q q'' f refl refl (plain-exact 0x83 Atom refl) refl refl refl hf in
    let end' = forced-shaped q' q'' f refl refl (plain-exact 0x83 Atom refl) refl refl refl hf in
    let lazies = records-shaped 0x81 q q' l (forced_fields f) refl refl (plain-exact 0x81 Literal refl) refl end end' hl in
    records-shaped 0x80 q q c (append (record_fields 0x81 l) (forced_fields f)) refl refl (plain-exact 0x80 Literal refl) refl lazies lazies hc

-- ---- Depth

specifiers-depth : (fs : Fields) → Specifiers fs → depths fs ≤ 1
specifiers-depth none h = let z = depth-none in omega arith
specifiers-depth (more f fs) h =
    let l = leaf-depth f (specifier-rule (tag_of f) h.0.0) h.0.1 in depth-most f fs 1 (omega arith) (specifiers-depth fs h.1)

append-depth : (fs gs : Fields) (k : ℕ) → depths fs ≤ k → depths gs ≤ k → depths (append fs gs) ≤ k
unfolding append
append-depth none gs k a b = b
append-depth (more f fs) gs k a b =
    let x = depth-first f fs in
    let y = depth-rest f fs in
    depth-most f (append fs gs) k (omega arith) (append-depth fs gs k (omega arith) b)

records-depth : (t : ℕ) (l : List Record) → All WholeRecord l → depths (record_fields t l) ≤ 2
unfolding record_fields
records-depth t [] h = let z = depth-none in omega arith
records-depth t (r ∷ l) h =
    let a = depth-parts t r.literal r.specifiers in
    let b = specifiers-depth r.specifiers h.0.1 in
    depth-most (field t r.literal r.specifiers) (record_fields t l) 2 (omega arith) (records-depth t l h.1)

forced-depth : (l : List (List ℕ)) → depths (forced_fields l) ≤ 2
unfolding forced_fields
forced-depth [] = let z = depth-none in omega arith
forced-depth (c ∷ l) =
    let a = depth-parts 0x83 c none in let z = depth-none in depth-most (field 0x83 c none) (forced_fields l) 2 (omega arith) (forced-depth l)

-- ---- Reading back

pub records-within : (s : State) (room : ℕ) → Whole s → has_room (size (records_of s)) room ≡ true → Within Records (records_of s)
unfolding records_of
records-within s room h r =
    let lazies = append (record_fields 0x81 s.lazy) (forced_fields s.forced) in
    let row = append (record_fields 0x80 s.collected) lazies in
    let d = depth-parts 0x02 [] row in
    let a = append-depth (record_fields 0x81 s.lazy) (forced_fields s.forced) 2 (records-depth 0x81 s.lazy h.1) (forced-depth s.forced) in
    let b = append-depth (record_fields 0x80 s.collected) lazies 2 (records-depth 0x80 s.collected h.0) a in (
      records-root,
      shaped-formed (field 0x02 [] row) (room-size (size (field 0x02 [] row)) room r)
          ((plain-exact 0x02 Empty refl [] refl), row-shaped s.collected s.lazy s.forced h.0 h.1 h.2),
      omega arith,
    )

-- records can be read
abbrev pub ReadBack : Field → Type 0
ReadBack f = read Records (encode f) ≡ fine (more f none)

pub records-readable : (s : State) (room : ℕ) → Whole s → has_room (size (records_of s)) room ≡ true → ReadBack (records_of s)
records-readable s room h r = read-complete Records (records_of s) (records-within s room h r)

-- ---- Both passes

module _ (e : Setting) where
  pub module-whole : (items : Fields) (s : State) → ShapedAll items (rule_of 0x01) → Widths s → Whole s → Keeps Whole (walk_module e items s)
  unfolding walk_module
  module-whole items s k w h =
      after-bind (walk_all items e false 3 (set_top true s)) _ (λ gs s. Whole s) (λ gs s. Whole s)
      (walk_all-whole e items (rule_of 0x01) false 3 (set_top true s) (rule-targets 0x01 refl) k w h) λ gs s h. h

  pub again-whole : (items : Fields) (s : State) → ShapedAll items (rule_of 0x01) → Widths s → Whole s → Keeps Whole (walk_again e items s)
  unfolding walk_again
  again-whole items s k w h =
      after-bind (walk_module e items s) _ (λ gs s. Whole s) (λ gs s. Whole s) (module-whole items s k w h) λ gs s h.
      after-bind (finish e s) _ (λ _ s. Whole s) (λ gs s. Whole s) (finish-whole e s h) λ _ s h. h

-- both passes keep the records whole
pub run-whole : (l : Lent) (rows : List Row) (own : ℕ) (ms : Modules) (items : Fields) → Items items →
    After (walk_module (setting first own l rows) items (start ms))
    (λ works s. Whole s × After (walk_again (setting second own l rows) works s) (λ outs s'. Whole s'))
run-whole l rows own ms items h =
    let one = setting first own l rows in
    let two = setting second own l rows in
    let m = walk_module one items (start ms) in
    after-weaken m (λ works s. (Results items works (rule_of 0x01) × Widths s) × Whole s)
    (λ works s. Whole s × After (walk_again two works s) (λ outs s'. Whole s'))
    (λ works s a. (a.1, again-whole two works s a.0.0.shaped a.0.1 a.1))
    (after-both m (λ works s. Results items works (rule_of 0x01) × Widths s) (λ works s. Whole s)
    (module-results one items (start ms) h.shaped (start-widths ms)) (module-whole one items (start ms) h.shaped (start-widths ms) (tt, tt, tt)))

-- ---- The call

-- the records of an accepted call can be read
pub call-records : (l : Lent) (room : Lengths) (ms : Modules) → Bytes l.tree → (r : Extracted) → extracted l room ms ≡ done r →
    ReadBack r.records
call-records l room ms bs r e =
    let m = call-made l room ms r e in
    let u = m.run in
    let rows = rows_in l.table in
    subst (λ (z : Extracted). ReadBack z.records) u.given
    (records-readable u.end room.records
    (run-both l rows m.own.0 m.items m.own.1 r u (λ works s. Whole s) (λ outs s. Whole s)
    (run-whole l rows m.own.0 m.own.1 m.items (made-items l ms r bs m))).1 u.records_room)
