-- For callers: items that were read, places of patterns and literals, and the records of a run as they are written.
use Rattle.std.specs.Prelude.{Option, None, Some}
use Prim.Native.Nat.{ℕ, ◌+◌, ◌-◌, ◌≤◌, ◌<◌}
use native.Mathlib.Omega.{arith}
use mathlib.Core.Path.{◌≡◌, refl, sym, ap, ap₂, ◌∙◌}
use mathlib.Core.Bool.{Bool, true, false, cond}
use mathlib.Core.List.{List, [], map}
use lib.Dec.{leb, ltb}
use lib.ListN.{length}
use borrow.Author.Tests.{leb-true, le-leb, ne_eqb, lt-ltb, le-ltb}
use Rattle.scope.specs.Modules.{Modules}
use Rattle.tree.specs.declared.grammar.Set.TheVariants.{Module}
use Rattle.tree.specs.Layout.{skip_at, literal_at}
use Rattle.tree.specs.Tree.{field, Fields, none, more}
use Rattle.tree.specs.Grammar.{rule_of}
use Rattle.tree.specs.Access.{length_at, extent_at}
use Rattle.tree.specs.Read.{fine, read}
use Rattle.tree.specs.Standing.{tree_at}
use Rattle.tree.proofs.FixedLaws.{no-upto}
use Rattle.tree.proofs.WidthLaws.{read-module}
use Rattle.inputs.specs.Table.{Row as TableRow}
use Rattle.extraction_rules.specs.State.{Record, State, first, second, start}
use Rattle.extraction_rules.specs.First.{bindings}
use Rattle.extraction_rules.specs.Records.{records_of, record_fields, forced_fields}
use Rattle.extraction_rules.specs.Walk.{walk_module, walk_again}
use Rattle.extraction_rules.specs.Call.{Lent, setting, module_with}
use Rattle.extraction_rules.proofs.OutcomeLaws.{After, after-weaken}
use Rattle.extraction_rules.proofs.ReadableLaws.{Items}
use Rattle.metadata.specs.Metadata.{append}
use Rattle.records.specs.Model.{rebuilt}
use Rattle.records.specs.Writes.{pattern_on, pattern_at, placed, literal_on, literal_in, RowRead, items_in, records_in}
use Rattle.records.proofs.RebuiltLaws.{run-rebuilt}
use Rattle.records.proofs.LiteralLaws.{literal-here, literal-tree, literal-work}

-- ---- Items

parts-inj : {t u : ℕ} {x y : List ℕ} {cs ds : Fields} → more (field t x cs) none ≡ more (field u y ds) none → cs ≡ ds
parts-inj e = cc

-- a module that was read: its items, and that they are read
pub items-read : (s : List ℕ) (fs : Fields) → read Module s ≡ fine (more (module_with fs) none) → (items_in s ≡ fs) × RowRead s 3 (length s)
items-read s fs e = let m = read-module s (more (module_with fs) none) e in (sym (parts-inj m.tree), (rule_of 0x01, m.row))

-- ---- Places

-- a field ends where it ends, whatever follows
pub extent-further : (s : List ℕ) (at end e stop : ℕ) → end ≤ e → extent_at s at end ≡ Some stop → extent_at s at e ≡ Some stop
unfolding extent_at skip_at
extent-further s at end e stop le h = go (leb 3 (end - at)) (leb (length_at s at) (end - (at + 3))) refl refl h
  where
    go : (a b : Bool) → leb 3 (end - at) ≡ a → leb (length_at s at) (end - (at + 3)) ≡ b → cond a (cond b (Some (at + 3 + length_at s at)) None) None ≡ Some stop →
        cond (leb 3 (e - at)) (cond (leb (length_at s at) (e - (at + 3))) (Some (at + 3 + length_at s at)) None) None ≡ Some stop
    go true true p q h =
        let x = leb-true 3 (end - at) p in
        let y = leb-true (length_at s at) (end - (at + 3)) q in
        rw (le-leb 3 (e - at) (omega arith), le-leb (length_at s at) (e - (at + 3)) (omega arith)) h
    go true false p q h = absurd (no-upto h)
    go false b p q h = absurd (no-upto h)

pub pattern-is : (s : List ℕ) (at end stop : ℕ) → at ≤ end → end ≤ length s → extent_at s at end ≡ Some stop → pattern_at s at ≡ bindings (tree_at s at stop)
unfolding pattern_at pattern_on
pattern-is s at end stop le fits e =
    ap (λ (b : Bool). cond b (pattern_on (extent_at s at (length s)) s at) none) (le-leb at (length s) (omega arith))
    ∙ ap (λ (r : Option ℕ). pattern_on r s at) (extent-further s at end (length s) stop fits e)

module _ (tree work : List ℕ) where
  -- no initialiser
  pub placed-0 : placed tree work 0 ≡ none
  unfolding placed
  placed-0 = refl

  -- a pattern of the lent tree
  pub placed-first : (at end stop : ℕ) → 0 < at → at < 65536 → at ≤ end → end ≤ length tree → extent_at tree at end ≡ Some stop →
      placed tree work at ≡ bindings (tree_at tree at stop)
  unfolding placed
  placed-first at end stop n l le fits e =
      ap (λ (b : Bool). cond b none (cond (ltb at 65536) (pattern_at tree at) (pattern_at work (at - 65536)))) (ne_eqb at 0 (λ z. omega arith))
      ∙ ap (λ (b : Bool). cond b (pattern_at tree at) (pattern_at work (at - 65536))) (lt-ltb at 65536 l) ∙ pattern-is tree at end stop le fits e

  -- and one of the tree after the first pass
  pub placed-second : (at end stop : ℕ) → at ≤ end → end ≤ length work → extent_at work at end ≡ Some stop → placed tree work (65536 + at) ≡ bindings (tree_at work at stop)
  unfolding placed
  placed-second at end stop le fits e =
      let z : 65536 + at - 65536 ≡ at = omega arith in
      ap (λ (b : Bool). cond b none (cond (ltb (65536 + at) 65536) (pattern_at tree (65536 + at)) (pattern_at work (65536 + at - 65536)))) (ne_eqb (65536 + at) 0 (λ z. omega arith))
      ∙ ap (λ (b : Bool). cond b (pattern_at tree (65536 + at)) (pattern_at work (65536 + at - 65536))) (le-ltb (65536 + at) 65536 (omega arith))
      ∙ ap (pattern_at work) z ∙ pattern-is work at end stop le fits e

  -- a literal of either tree
  pub literal-first : (at : ℕ) → at < 65536 → at + 6 ≤ length tree → literal_in tree work at ≡ literal_at tree at
  literal-first at l h = literal-tree tree work at l ∙ literal-here tree at h

  pub literal-second : (at : ℕ) → at + 6 ≤ length work → literal_in tree work (65536 + at) ≡ literal_at work at
  literal-second at h =
      let z : 65536 + at - 65536 ≡ at = omega arith in
      literal-work tree work (65536 + at) (omega arith) ∙ ap (literal_on work) z ∙ literal-here work at h

-- ---- The records

-- where the trees tell the collected records, what is written are the state's records
pub records-are : (work out : List ℕ) (s : State) → s.collected ≡ map (rebuilt (items_in work) (items_in out) s.forced) s.collected → records_in work out s ≡ records_of s
unfolding records_in records_of
records-are work out s e =
    ap (λ (l : List Record). field 0x02 [] (append (record_fields 0x80 l) (append (record_fields 0x81 s.lazy) (forced_fields s.forced)))) (sym e)

-- of a run
pub run-records : (l : Lent) (rows : List TableRow) (own : ℕ) (ms : Modules) (items : Fields) → Items items →
    After (walk_module (setting first own l rows) items (start ms))
    (λ works s. After (walk_again (setting second own l rows) works s)
    (λ outs s'. (work out : List ℕ) → items_in work ≡ works → items_in out ≡ outs → records_in work out s' ≡ records_of s'))
run-records l rows own ms items h =
    after-weaken (walk_module (setting first own l rows) items (start ms)) _ _
    (λ works s a. after-weaken (walk_again (setting second own l rows) works s) (λ outs s'. s'.collected ≡ map (rebuilt works outs s'.forced) s'.collected) _
    (λ outs s' b work out p q. records-are work out s' (b ∙ ap₂ (λ (ws gs : Fields). map (rebuilt ws gs s'.forced) s'.collected) (sym p) (sym q))) a)
    (run-rebuilt l rows own ms items h)
