-- The second pass: the walk, then the wrapping marks; and what the rules make of both.
use Rattle.std.specs.Prelude.{Ok, Err}
use Rattle.std.specs.Bool.{then_some}
use Rattle.std.specs.Option.{ok_or}
use Prim.Native.Nat.{ℕ, ◌≤◌}
use native.Mathlib.Omega.{arith}
use mathlib.Core.Path.{◌≡◌, refl, sym, ap, ap₂, subst, ◌∙◌}
use mathlib.Core.Bool.{Bool, true, false}
use mathlib.Core.List.{List, [], ◌∷◌, map}
use lib.ListN.{length, drop}
use Rattle.tree.specs.declared.grammar.Set.TheVariants.{Module}
use Rattle.tree.specs.Tree.{field, Fields, none, more, encode}
use Rattle.tree.specs.Read.{fine, read}
use Rattle.metadata.specs.Metadata.{append}
use Rattle.writer.specs.Finished.{Finished}
use Rattle.tree.proofs.WidthLaws.{read-module}
use Rattle.inputs.specs.Outcome.{Outcome, done, refused, onto, placeless}
use Rattle.extraction_rules.specs.State.{Record, State, Setting, set_collected}
use Rattle.extraction_rules.specs.Second.{wrap_all, lose_namespaces, finish}
use Rattle.extraction_rules.specs.Walk.{walk_module, walk_again}
use Rattle.extraction_rules.specs.Records.{records_of, record_fields, forced_fields}
use Rattle.extraction_rules.specs.Call.{module_with}
use Rattle.extraction_rules.proofs.FirstLaws.{lose-literal}
use Rattle.extraction_rules.proofs.WalkLaws.{ImportsAll}
use Rattle.extraction_rules.proofs.SanityLaws.{Known}
use Rattle.state.specs.Cells.{Env, Shows, sources_in}
use Rattle.state.specs.Does.{Resets, with_second}
use Rattle.steps.specs.Refusal.{Refusal}
use Rattle.steps.specs.Step.{Step, Steps, Effect, Effects}
use Rattle.steps.specs.Refusal.{refusal, refusal_of}
use Rattle.extraction.specs.declared.ExtractError.TheVariants.{Refused, NoRoom}
use Rattle.records.specs.Model.{specifiers_of, rebuilt}
use Rattle.records.specs.Writes.{Placing, items_in, records_in}
use Rattle.records.proofs.ToldLaws.{items-read, records-are}
use Rattle.extraction.specs.Passes.{ItemsRead, pass_act}
use Rattle.extraction.specs.Stages.{Anywhere, wrap_from, marking, Seconds}
use Rattle.extraction.proofs.HeldLaws.{refused-place, Walked, walked, walked-refused, pass-inside, pass-held, pass-long}
use Rattle.extraction.proofs.WrapLaws.{wrap-placeless}
use Rattle.extraction.proofs.ReadLaws.{reads-work}

-- ---- What the rules make of the walk and the marks

-- 'other records lose namespaces'
abbrev pub lost : State → State
lost s = set_collected (map (lose_namespaces s.forced) s.collected) s

abbrev lose : Unit {0} × State → Outcome (Unit {0} × State)
lose u = done (tt, lost u.1)

abbrev giving : Fields → Unit {0} × State → Outcome (Fields × State)
giving gs v = done (gs, v.1)

abbrev pub losing : Fields × State → Outcome (Fields × State)
losing r = done (r.0, lost r.1)

module _ (e : Setting) (works : Fields) (s : State) where
  again-marking : walk_again e works s ≡ onto (marking e works s) losing
  unfolding walk_again finish
  again-marking = go (walk_module e works s)
    where
      two : (gs : Fields) (o : Outcome (Unit {0} × State)) → onto (onto o lose) (giving gs) ≡ onto (onto o (giving gs)) losing
      two gs (done u) = refl
      two gs (refused n p) = refl

      go : (m : Outcome (Fields × State)) → onto m (λ r. onto (onto (wrap_all e r.1.forced r.1) lose) (giving r.0))
          ≡ onto (onto m (λ r. onto (wrap_from 0 e r.1) (giving r.0))) losing
      go (done r) = two r.0 (wrap_all e r.1.forced r.1)
      go (refused n p) = refl

  pub again-by : (m : Outcome (Fields × State)) → marking e works s ≡ m → walk_again e works s ≡ onto m losing
  again-by m q = again-marking ∙ ap (λ (z : Outcome (Fields × State)). onto z losing) q

  abbrev marks : Fields × State → Outcome (Fields × State)
  marks r = onto (wrap_from 0 e r.1) (giving r.0)

  marking-by : (m : Outcome (Fields × State)) → walk_module e works s ≡ m → marking e works s ≡ onto m marks
  marking-by m q = ap (λ (z : Outcome (Fields × State)). onto z marks) q

-- ---- The second pass

-- what the environment of a pass is in the second
abbrev again : Env → Setting
again x = (with_second x).setting

ready : {x : Env} (s : State) (tree work : List ℕ) (works : Fields) → Placing tree work x → read Module work ≡ fine (more (module_with works) none) →
    length work ≤ 65538 → ImportsAll works (Known x.setting.externals (sources_in s.collected)) → ItemsRead work 3 (length work) (with_second x) s
ready {x} s tree work works p r n b =
    record {
      inside = (read-module work (more (module_with works) none) r).room;
      row = (read-module work (more (module_with works) none) r).row;
      fits = omega arith;
      reads = reads-work tree work (with_second x) (record { bindings_placed = p.bindings_placed; literals_placed = p.literals_placed }) refl n;
      ready = subst (λ (fs : Fields). ImportsAll fs (Known x.setting.externals (sources_in s.collected))) (sym (items-read work works r).0) b;
    }

module _ {t t0 t1 work out out1 : List ℕ} {k : Step} (z : Resets with_second t t0)
    (m : Steps encode (ItemsRead work 3 (length work)) (λ x. pass_act x.setting work) t0 out 0 t1 out1 k) where
  pub again-refused : {v : Refusal} → k ≡ Err v → Seconds t work out t1 out1 (Err (Refused (refusal v.why 0)))
  again-refused {v} h =
      record {
        inside = tt;
        is = λ {x = x} s w tree p works r n b.
            let e = again x in
            let y = walked-refused e work s (refusal_of v.why) v.place (m.turned v h s (z.shows s w) (ready s tree work works p r n b)) in
            ap placeless (marking-by e works s (refused (refusal_of v.why) v.place) (ap (λ (fs : Fields). walk_module e fs s) (sym (items-read work works r).0) ∙ y));
      }

  module _ {n : ℕ} (h : k ≡ Ok n) where
    -- the walk was done
    went : {x : Env} (s : State) → Shows x t s → (tree : List ℕ) → Placing tree work x → (works : Fields) → read Module work ≡ fine (more (module_with works) none) →
        length work ≤ 65538 → ImportsAll works (Known x.setting.externals (sources_in s.collected)) →
        Walked (with_second x) (walk_module (again x) works s) out t1 out1 n
    went {x} s w tree p works r l b =
        let y = walked (again x) work s (m.made n h s (z.shows s w) (ready s tree work works p r l b)) in
        subst (λ (fs : Fields). Walked (with_second x) (walk_module (again x) fs s) out t1 out1 n) (items-read work works r).0 y

    module _ {t2 : List ℕ} {j : Effect} (u : Effects Anywhere (λ x. wrap_from 0 x.setting) t1 t2 j) where
      pub again-unmarked : {v : Refusal} → j ≡ Err v → Seconds t work out t2 out1 (Err (Refused v))
      again-unmarked {v} e =
          record {
            inside = tt;
            is = λ {x = x} s w tree p works r l b.
                let d = went s w tree p works r l b in
                let y = u.turned v e d.state d.shows tt in
                ap placeless (marking-by (again x) works s (done (d.items, d.state)) d.is ∙ ap (λ (o : Outcome (Unit {0} × State)). onto o (giving d.items)) y)
                ∙ ap (refused (refusal_of v.why))
                (refused-place (sym (ap placeless y) ∙ wrap-placeless (again x) (drop 0 d.state.forced) d.state ∙ y));
          }

      -- and the marks were set
      marked : j ≡ Ok tt → (x : Env) (s : State) (works : Fields) → Walked (with_second x) (walk_module (again x) works s) out t1 out1 n →
          Walked (with_second x) (placeless (marking (again x) works s)) out t2 out1 n
      marked e x s works d =
          let v = u.fine e d.state d.shows tt in
          record {
            items = d.items;
            state = v.state;
            is = ap placeless
                (marking-by (again x) works s (done (d.items, d.state)) d.is ∙ ap (λ (o : Outcome (Unit {0} × State)). onto o (giving d.items)) v.is);
            wrote = d.wrote;
            shows = v.shows;
          }

      module _ (e : j ≡ Ok tt) {out2 : List ℕ} where
        -- a tree that fits, or is too long
        pub again-held : (b : Bool) → Finished n out1 b out2 → Seconds t work out t2 out2 (ok_or (then_some b n) NoRoom)
        again-held true f =
            record {
              inside = pass-inside f out m.size refl;
              is = λ {x = x} s w tree p works r l b. pass-held f (marked e x s works (went s w tree p works r l b)) refl;
            }
        again-held false f =
            record {
              inside = tt;
              is = λ {x = x} s w tree p works r l b. pass-long f (marked e x s works (went s w tree p works r l b)) refl;
            }

-- ---- The records

-- what the trees tell of records does not look at their specifiers
lost-retold : (works outs : Fields) (forced : List (List ℕ)) (l : List Record) →
    map (rebuilt works outs forced) (map (lose_namespaces forced) l) ≡ map (rebuilt works outs forced) l
unfolding rebuilt
lost-retold works outs forced [] = refl
lost-retold works outs forced (r ∷ l) =
    ap₂ (λ (q : Record) (k : List Record). q ∷ k)
    (ap (λ (x : List ℕ). lose_namespaces forced (record { literal = x; specifiers = specifiers_of works outs x })) (lose-literal forced r))
    (lost-retold works outs forced l)

lost-records : (work out : List ℕ) (s : State) → records_in work out s ≡ records_in work out (lost s)
unfolding records_in
lost-records work out s =
    ap (λ (l : List Record). field 0x02 [] (append (record_fields 0x80 l) (append (record_fields 0x81 s.lazy) (forced_fields s.forced))))
    (sym (lost-retold (items_in work) (items_in out) s.forced s.collected))

pub told : (work out : List ℕ) (works outs : Fields) (s : State) → items_in work ≡ works → items_in out ≡ outs →
    (lost s).collected ≡ map (rebuilt works outs s.forced) (lost s).collected → records_in work out s ≡ records_of (lost s)
told work out works outs s p q h =
    lost-records work out s
    ∙ records-are work out (lost s) (h ∙ ap₂ (λ (ws gs : Fields). map (rebuilt ws gs s.forced) (lost s).collected) (sym p) (sym q))
