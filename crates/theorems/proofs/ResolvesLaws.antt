-- An accepted resolving: the source of every import that is not external resolves.
use Rattle.std.specs.Prelude.{Some}
use Prim.Native.Nat.{ℕ, zero, suc, ◌+◌}
use mathlib.Core.Path.{◌≡◌, refl, sym, ap, subst, ◌∙◌}
use mathlib.Core.Bool.{Bool, true, false, ◌||◌, true≢false}
use mathlib.Core.List.{List, [], ◌∷◌}
use native.Mathlib.Omega.{arith}
use lib.Dec.{leb}
use lib.ListN.{length}
use Rattle.scope.specs.Modules.{Modules}
use Rattle.tree.specs.Layout.{same, value_of}
use Rattle.tree.specs.Tree.{Field, field, Fields, none, more, size}
use Rattle.tree.proofs.LayoutLaws.{same-equal}
use Rattle.metadata.specs.Metadata.{append}
use Rattle.inputs.specs.Outcome.{done}
use Rattle.inputs.specs.Lists.{among, is_some}
use Rattle.inputs.specs.Table.{Row, file_of}
use Rattle.inputs.specs.Fields.{inside}
use Rattle.extraction_rules.specs.State.{Record, State, first, Setting, change, refuse, set_collected, set_top}
use Rattle.extraction_rules.specs.First.{external, module_for, collect_in, collect, note_specifiers, specifiers_in, import_first, forget}
use Rattle.extraction_rules.specs.Second.{specifiers_from, extend, lose_namespaces}
use Rattle.extraction_rules.specs.Walk.{walk, walk_all, walk_module, walk_again}
use Rattle.extraction_rules.specs.Records.{record_fields}
use Rattle.extraction_rules.proofs.OutcomeLaws.{After, after-bind, after-if}
use Rattle.extraction_rules.proofs.ValueLaws.{after-any, walk-first}
use Rattle.extraction_rules.proofs.FirstLaws.{source-cases, force-cases, sources_of, collect-stays, collect-among, extend-literal, lose-literal, map-sources}
use Rattle.extraction_rules.proofs.StepLaws.{EndSteps}
use Rattle.extraction_rules.proofs.WalkLaws.{Steps, walk_all-keeps, walk_again-keeps, imports-any-all}
use Rattle.resolving_rules.specs.Resolve.{resolved_all}
use Rattle.resolving_rules.proofs.ResolveLaws.{all-made}
use Rattle.placement.specs.Placed.{item_at}

module _ (a : List ℕ) where
  -- a is the source of a collected record
  abbrev pub Collected : State → Type 0
  Collected s = among a (sources_of s.collected) ≡ true

  abbrev Any : List ℕ → Type 0
  Any x = Unit {0}

  collected-steps : (e : Setting) → Steps e Any Collected
  unfolding forget
  collected-steps e =
      record {
        common =
            record {
              requires = record { on_request = λ s g m ms q h. h; on_cjs = λ s m h. h; on_lazy = λ s r b h. h };
              on_force = λ s i h. force-cases i s Collected h (λ r w. h);
              on_top = λ s b h. h;
            };
        one = λ _. record { on_note = λ s m h. h; on_usage = λ s u c w h. h; on_collect = λ s r b h. collect-stays a r s.collected h };
        two =
            λ _. record {
              on_extend = λ s x us q h. rw (map-sources (extend x (specifiers_from us)) s.collected (extend-literal x (specifiers_from us))) h;
              on_source = λ s x b q h. source-cases (value_of x) s Collected (λ _. h) h;
            };
      }

  collected-end : EndSteps Collected
  collected-end = record { on_wrap = λ s m h. h; on_lose = λ s h. rw (map-sources (lose_namespaces s.forced) s.collected (lose-literal s.forced)) h }

  -- the record of an import is collected
  import-collects : (e : Setting) (y : List ℕ) (ds : Fields) (p : ℕ) (s : State) → external e y ≡ false → value_of y ≡ a → After (import_first e y ds p s) (λ g t. Collected t)
  unfolding import_first collect
  import-collects e y ds p s d q =
      rw d
      (after-bind (module_for e (value_of y) p s) _ (λ m t. Unit {0}) (λ g t. Collected t) (after-any (module_for e (value_of y) p s)) λ m t _.
      after-bind (note_specifiers m (specifiers_in ds) (inside p y) t) _ (λ gs u. Unit {0}) (λ g t. Collected t) (after-any (note_specifiers m (specifiers_in ds) (inside p y) t)) λ gs u _.
      let r : Record = record { literal = y; specifiers = gs } in
      after-bind (collect r p u) _ (λ _ x. Collected x) (λ g t. Collected t)
      (after-if (leb (length (collect_in r u.collected)) 256) (change (set_collected (collect_in r u.collected))) (refuse 8 p) u (λ _ x. Collected x)
      (λ _. subst (λ (v : List ℕ). among v (sources_of (collect_in r u.collected)) ≡ true) q (collect-among r u.collected)) (λ _. tt)) λ _ x z. z)

  module _ (e : Setting) (one : e.pass ≡ first) where
    walk-collects : (x : List ℕ) (cs : Fields) (p : ℕ) (s : State) → external e x ≡ false → value_of x ≡ a → After (walk (field 0x10 x cs) e false p s) (λ g t. Collected t)
    walk-collects x cs p s d q = rw (walk-first e one (field 0x10 x cs) p s refl) (import-collects e x cs p s d q)

    items-collect : (k : ℕ) (fs : Fields) (x : List ℕ) (cs : Fields) (p : ℕ) (s : State) → item_at k fs ≡ Some (field 0x10 x cs) →
        external e x ≡ false → value_of x ≡ a → After (walk_all fs e false p s) (λ gs t. Collected t)
    unfolding walk
    items-collect k none x cs p s w d q = absurd (let z : ◌≡◌ {A = ℕ} 0 1 = cc in omega arith)
    items-collect zero (more f fs) x cs p s w d q =
        let r : field 0x10 x cs ≡ f = cc in
        after-bind (walk f e false p s) _ (λ g t. Collected t) (λ gs t. Collected t)
        (subst (λ (f : Field). After (walk f e false p s) (λ g t. Collected t)) r (walk-collects x cs p s d q)) λ g s h.
        after-bind (walk_all fs e false (p + size f) s) _ (λ gs t. Collected t) (λ gs t. Collected t)
        (walk_all-keeps e Any Collected (collected-steps e) fs false (p + size f) s (imports-any-all fs Any (λ _. tt)) h) λ gs s h. h
    items-collect (suc k) (more f fs) x cs p s w d q =
        after-bind (walk f e false p s) _ (λ g t. Unit {0}) (λ gs t. Collected t) (after-any (walk f e false p s)) λ g s _.
        after-bind (walk_all fs e false (p + size f) s) _ (λ gs t. Collected t) (λ gs t. Collected t) (items-collect k fs x cs (p + size f) s w d q) λ gs s h. h

    pub first-collects : (k : ℕ) (items : Fields) (x : List ℕ) (cs : Fields) (s : State) → item_at k items ≡ Some (field 0x10 x cs) →
        external e x ≡ false → value_of x ≡ a → After (walk_module e items s) (λ gs t. Collected t)
    unfolding walk_module
    first-collects k items x cs s w d q =
        after-bind (walk_all items e false 3 (set_top true s)) _ (λ gs t. Collected t) (λ gs t. Collected t)
        (items-collect k items x cs 3 (set_top true s) w d q) λ gs t h. h

  pub again-collects : (e : Setting) (works : Fields) (s : State) → Collected s → After (walk_again e works s) (λ gs t. Collected t)
  again-collects e works s h = walk_again-keeps e Any Collected (collected-steps e) collected-end works s (imports-any-all works Any (λ _. tt)) h

  -- a resolved list has no record whose source is unresolved
  pub collected-resolves : (rows : List Row) (forced : List (List ℕ)) (ms : Modules) (l : List Record) (rest : Fields) (p : ℕ) (gs : Fields) →
      among a (sources_of l) ≡ true → resolved_all rows forced ms (append (record_fields 0x80 l) rest) p ≡ done gs → is_some (file_of a rows) ≡ true
  unfolding among record_fields append
  collected-resolves rows forced ms [] rest p gs h e = absurd (true≢false (sym h))
  collected-resolves rows forced ms (r ∷ l) rest p gs h e =
      let f : Field = field 0x80 r.literal r.specifiers in
      let x = all-made rows forced ms f (append (record_fields 0x80 l) rest) p gs e in
      go (same a (value_of r.literal)) refl h (ap is_some x.3.resolves) (λ k. collected-resolves rows forced ms l rest (p + size f) x.1 k x.4)
    where
      go : (b : Bool) → same a (value_of r.literal) ≡ b → b || among a (sources_of l) ≡ true → is_some (file_of (value_of r.literal) rows) ≡ true →
          (among a (sources_of l) ≡ true → is_some (file_of a rows) ≡ true) → is_some (file_of a rows) ≡ true
      go true q h w ih = ap (λ (v : List ℕ). is_some (file_of v rows)) (same-equal a (value_of r.literal) q) ∙ w
      go false q h w ih = ih h
