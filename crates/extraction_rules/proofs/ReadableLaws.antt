-- What a pass leaves can be read: *work* after the first, *out* after the second, whenever there is room for them.
use Rattle.std.specs.Prelude.{Some}
use Prim.Native.Nat.{ℕ, ◌≤◌, min}
use mathlib.Core.Path.{◌≡◌, refl, ap, subst, ◌∙◌}
use mathlib.Core.Bool.{Bool, true, false, cond}
use mathlib.Core.List.{List, []}
use native.Mathlib.Omega.{arith}
use native.Mathlib.Nat.{min-le_left}
use borrow.Author.Tests.{leb-true, eqb-true}
use Rattle.scope.specs.Modules.{Modules}
use Rattle.tree.specs.declared.grammar.Set.TheVariants.{Module, Item}
use Rattle.tree.specs.declared.grammar.Rule.{Rule}
use Rattle.tree.specs.Layout.{skip_at, Bytes}
use Rattle.tree.specs.Tree.{Field, field, Fields, none, more, tag_of, parts_of, size, encode, depths}
use Rattle.tree.specs.Grammar.{within, holds_at, pieces_of, rule_of, step_at}
use Rattle.tree.specs.Access.{value_at, piece_at, then_piece, fixed_at}
use Rattle.tree.specs.Read.{Reading, fine, refused as unread, read}
use Rattle.tree.specs.Within.{Exact, Within}
use Rattle.tree.proofs.TreeLaws.{depth-parts, depth-first, depth-rest, depth-most}
use Rattle.tree.proofs.SoundLaws.{read-sound}
use Rattle.tree.proofs.CompleteLaws.{read-complete}
use Rattle.writer.specs.Finished.{has_room}
use Rattle.inputs.specs.Outcome.{done}
use Rattle.inputs.specs.Fields.{keep}
use Rattle.inputs.specs.Table.{Row, rows_in}
use Rattle.extraction_rules.specs.State.{State, first, second, Setting, start, set_top}
use Rattle.extraction_rules.specs.First.{stays}
use Rattle.extraction_rules.specs.Second.{finish}
use Rattle.extraction_rules.specs.Walk.{walk_all, walk_module, walk_again}
use Rattle.extraction_rules.specs.Call.{Lent, Lengths, Extracted, items_read, setting, module_with, extracted}
use Rattle.extraction_rules.proofs.OutcomeLaws.{After, after-bind, after-weaken, Of, of-done}
use Rattle.extraction_rules.proofs.StepLaws.{finish-keeps}
use Rattle.extraction_rules.proofs.RuleLaws.{only-step, rule-targets}
use Rattle.extraction_rules.proofs.ShapeLaws.{ShapedAll, formed-shaped-all, shaped-formed}
use Rattle.extraction_rules.proofs.WithinLaws.{walk_all-within}
use Rattle.extraction_rules.proofs.ExtractedLaws.{Made, call-made, run-both}
use Rattle.extraction_rules.proofs.ResultLaws.{Results, Widths, widths-common}

-- ---- A module's items

-- each item of a module, and the module's rule behind it
pub item-step : (t : ℕ) (q : Rule) → step_at (rule_of 0x01) t ≡ Some q → (holds_at Item t ≡ true) × (q ≡ rule_of 0x01)
unfolding rule_of within
item-step t q e = only-step Item t q e

-- items may be dropped
keep-shaped : (t : Field → Bool) (fs : Fields) → ShapedAll fs (rule_of 0x01) → ShapedAll (keep t fs) (rule_of 0x01)
unfolding keep
keep-shaped t none h = h
keep-shaped t (more f fs) h = go (t f) (keep-shaped t fs (subst (ShapedAll fs) (item-step (tag_of f) h.0 h.1).1 h.3))
  where
    go : (b : Bool) → ShapedAll (keep t fs) (rule_of 0x01) → ShapedAll (cond b (more f (keep t fs)) (keep t fs)) (rule_of 0x01)
    go true r = (rule_of 0x01, h.1 ∙ ap Some (item-step (tag_of f) h.0 h.1).1, h.2, r)
    go false r = r

keep-deep : (t : Field → Bool) (fs : Fields) (k : ℕ) → depths fs ≤ k → depths (keep t fs) ≤ k
unfolding keep
keep-deep t none k d = d
keep-deep t (more f fs) k d = go (t f) (keep-deep t fs k (let b = depth-rest f fs in omega arith))
  where
    go : (b : Bool) → depths (keep t fs) ≤ k → depths (cond b (more f (keep t fs)) (keep t fs)) ≤ k
    go true r = depth-most f (keep t fs) k (let a = depth-first f fs in omega arith) r
    go false r = r

keep-results : (t : Field → Bool) (fs gs : Fields) → Results fs gs (rule_of 0x01) → Results fs (keep t gs) (rule_of 0x01)
keep-results t fs gs r = record { shaped = keep-shaped t gs r.shaped; deep = λ k i d. keep-deep t gs k (r.deep k i d) }

-- ---- Both passes

module _ (e : Setting) where
  -- a pass leaves items within the grammar, as deep at most or, with an import's metadata, 3 deep
  pub module-results : (items : Fields) (s : State) → ShapedAll items (rule_of 0x01) → Widths s →
      After (walk_module e items s) (λ gs s'. Results items gs (rule_of 0x01) × Widths s')
  unfolding walk_module
  module-results items s h w =
      after-bind (walk_all items e false 3 (set_top true s)) _ (λ gs s'. Results items gs (rule_of 0x01) × Widths s')
      (λ gs s'. Results items gs (rule_of 0x01) × Widths s')
      (walk_all-within e items (rule_of 0x01) false 3 (set_top true s) (rule-targets 0x01 refl) h w) λ gs s a. (keep-results stays items gs a.0, a.1)

  pub again-results : (items : Fields) (s : State) → ShapedAll items (rule_of 0x01) → Widths s →
      After (walk_again e items s) (λ gs s'. Results items gs (rule_of 0x01) × Widths s')
  unfolding walk_again
  again-results items s h w =
      after-bind (walk_module e items s) _ (λ gs s'. Results items gs (rule_of 0x01) × Widths s')
      (λ gs s'. Results items gs (rule_of 0x01) × Widths s') (module-results items s h w) λ gs s a.
      after-bind (finish e s) _ (λ _ s'. Widths s') (λ gs s'. Results items gs (rule_of 0x01) × Widths s')
      (finish-keeps e Widths (widths-common e).requires (record { on_wrap = λ s n w. w; on_lose = λ s w. w }) s a.1) λ _ s w. (a.0, w)

-- items within the grammar, in a module at most 64 deep
pub record Items (fs : Fields) : Type 0 where
  pub shaped : ShapedAll fs (rule_of 0x01)
  pub deep : depths fs ≤ 63

results-items : (fs gs : Fields) → Items fs → Results fs gs (rule_of 0x01) → Items gs
results-items fs gs h r = record { shaped = r.shaped; deep = r.deep 63 (λ _. omega arith) h.deep }

-- ---- Reading

module-exact : Exact 0x01 []
unfolding fixed_at piece_at value_at pieces_of skip_at then_piece
module-exact = refl

module-root : holds_at Module 0x01 ≡ true
unfolding holds_at
module-root = refl

pub room-size : (n room : ℕ) → has_room n room ≡ true → n ≤ 65538
unfolding has_room
room-size n room h = let a = leb-true n (min 65538 room) h in let b = min-le_left 65538 room in omega arith

pub items-within : (gs : Fields) (room : ℕ) → Items gs → has_room (size (module_with gs)) room ≡ true → Within Module (module_with gs)
items-within gs room h r =
    let d = h.deep in
    let p = depth-parts 0x01 [] gs in
    (module-root, shaped-formed (module_with gs) (room-size (size (module_with gs)) room r) (module-exact, h.shaped), omega arith)

-- a module of such items that has room is read back
pub items-readable : (gs : Fields) (room : ℕ) → Items gs → has_room (size (module_with gs)) room ≡ true →
    read Module (encode (module_with gs)) ≡ fine (more (module_with gs) none)
items-readable gs room h r = read-complete Module (module_with gs) (items-within gs room h r)

-- ---- A run

pub start-widths : (ms : Modules) → Widths (start ms)
start-widths ms = (tt, tt)

-- both passes leave items within the grammar
pub run-within : (l : Lent) (rows : List Row) (own : ℕ) (ms : Modules) (items : Fields) → Items items →
    After (walk_module (setting first own l rows) items (start ms))
    (λ works s. Items works × After (walk_again (setting second own l rows) works s) (λ outs s'. Items outs))
run-within l rows own ms items h =
    let one = setting first own l rows in
    let two = setting second own l rows in
    after-weaken (walk_module one items (start ms)) (λ works s. Results items works (rule_of 0x01) × Widths s)
    (λ works s. Items works × After (walk_again two works s) (λ outs s'. Items outs))
    (λ works s a. let i = results-items items works h a.0 in (
      i,
      after-weaken (walk_again two works s) (λ outs s'. Results works outs (rule_of 0x01) × Widths s') (λ outs s'. Items outs)
          (λ outs s' b. results-items works outs i b.0) (again-results two works s i.shaped a.1),
    ))
    (module-results one items (start ms) h.shaped (start-widths ms))

-- *work* is read back, if it has room
pub work-readable : (l : Lent) (rows : List Row) (own : ℕ) (ms : Modules) (items : Fields) (room : ℕ) → Items items →
    After (walk_module (setting first own l rows) items (start ms))
    (λ works s. has_room (size (module_with works)) room ≡ true → read Module (encode (module_with works)) ≡ fine (more (module_with works) none))
work-readable l rows own ms items room h =
    after-weaken (walk_module (setting first own l rows) items (start ms))
    (λ works s. Items works × After (walk_again (setting second own l rows) works s) (λ outs s'. Items outs))
    (λ works s. has_room (size (module_with works)) room ≡ true → read Module (encode (module_with works)) ≡ fine (more (module_with works) none))
    (λ works s a r. items-readable works room a.0 r) (run-within l rows own ms items h)

-- and so is *out*
pub out-readable : (l : Lent) (rows : List Row) (own : ℕ) (ms : Modules) (items : Fields) (room : ℕ) → Items items →
    After (walk_module (setting first own l rows) items (start ms))
    (λ works s. After (walk_again (setting second own l rows) works s)
    (λ outs s'. has_room (size (module_with outs)) room ≡ true → read Module (encode (module_with outs)) ≡ fine (more (module_with outs) none)))
out-readable l rows own ms items room h =
    let two = setting second own l rows in
    after-weaken (walk_module (setting first own l rows) items (start ms))
    (λ works s. Items works × After (walk_again two works s) (λ outs s'. Items outs))
    (λ works s. After (walk_again two works s)
    (λ outs s'. has_room (size (module_with outs)) room ≡ true → read Module (encode (module_with outs)) ≡ fine (more (module_with outs) none)))
    (λ works s a. after-weaken (walk_again two works s) (λ outs s'. Items outs)
    (λ outs s'. has_room (size (module_with outs)) room ≡ true → read Module (encode (module_with outs)) ≡ fine (more (module_with outs) none))
    (λ outs s' b r. items-readable outs room b r) a.1)
    (run-within l rows own ms items h)

-- ---- The call

module-items : (f : Field) → Within Module f → Items (parts_of f)
unfolding holds_at
module-items (field t x cs) h =
    let d = h.2 in
    let p = depth-parts t x cs in
    record {
      shaped = subst (λ (k : ℕ). ShapedAll cs (rule_of k)) (eqb-true t 0x01 h.0)
          (formed-shaped-all cs (rule_of t) h.1.2);
      deep = omega arith;
    }

pub read-items : (s : List ℕ) → Bytes s → Of (items_read (read Module s)) Items
read-items s bs = go (read Module s) refl
  where
    go : (o : Reading Fields) → read Module s ≡ o → Of (items_read o) Items
    go (fine none) e = absurd (let w = read-sound Module s none bs e in let v = w.1 in let z : ◌≡◌ {A = ℕ} 0 1 = cc in omega arith)
    go (fine (more f fs)) e =
        let w = read-sound Module s (more f fs) bs e in
        let v = w.1 in
        let q : w.0 ≡ f = cc in
        subst (λ (g : Field). Items (parts_of g)) q (module-items w.0 w.2)
    go u e = tt

-- *work* and *out* of an accepted call can be read
abbrev pub Readable : Field → Type 0
Readable f = read Module (encode f) ≡ fine (more f none)

-- the items that an accepted call read are within the grammar
pub made-items : (l : Lent) {room : Lengths} (ms : Modules) (r : Extracted) → Bytes l.tree → (m : Made l room ms r) → Items m.items
made-items l ms r bs m = of-done (items_read (read Module l.tree)) Items m.items m.reads (read-items l.tree bs)

pub call-readable : (l : Lent) (room : Lengths) (ms : Modules) → Bytes l.tree → (r : Extracted) → extracted l room ms ≡ done r →
    Readable r.work × Readable r.out
call-readable l room ms bs r e =
    let m = call-made l room ms r e in
    let u = m.run in
    let rows = rows_in l.table in
    let w = run-both l rows m.own.0 m.items m.own.1 r u (λ works s. Items works) (λ outs s. Items outs) (run-within l rows m.own.0 m.own.1 m.items (made-items l ms r bs m)) in
    subst (λ (z : Extracted). Readable z.work × Readable z.out) u.given
    (items-readable u.works room.work w.0 u.work_room, items-readable u.outs room.out w.1 u.out_room)
