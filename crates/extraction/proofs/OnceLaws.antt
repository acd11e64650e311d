-- The own file's number, and the first pass.
use Rattle.std.specs.Prelude.{Option, None, Some, Result, Ok, Err}
use Rattle.std.specs.Bool.{then_some}
use Rattle.std.specs.Option.{ok_or}
use Prim.Native.Nat.{ℕ, ◌*◌, ◌≤◌}
use native.Mathlib.Omega.{arith}
use mathlib.Core.Path.{◌≡◌, refl, sym, ap, ap₂, subst, ◌∙◌}
use mathlib.Core.Bool.{Bool, true, false}
use mathlib.Core.List.{List}
use lib.ListN.{length}
use Rattle.scope.specs.Modules.{Modules, Generated, generated_by, gen, request}
use Rattle.scope.specs.Id.{module_id}
use Rattle.scope.specs.ScopeValue.{modules_of, numbers_by, file_refusal, generated}
use Rattle.scope.specs.declared.Gen.{Gen}
use Rattle.scope.specs.declared.id.FileName.{FileName}
use Rattle.scope.specs.declared.id.ModuleId.{ModuleId}
use Rattle.scope.proofs.Laws.{none-some}
use Rattle.tree.specs.Tree.{encode}
use Rattle.writer.specs.Finished.{Finished}
use Rattle.extraction_rules.specs.State.{State, Pass, first, start, set_top, set_modules}
use Rattle.state.specs.Cells.{Env, namespaces_in}
use Rattle.state.specs.Does.{Turns, Resets, with_own}
use Rattle.scope.specs.declared.Numbers.{Numbers}
use Rattle.scope.specs.declared.TooManyFiles.{TooManyFiles}
use Rattle.steps.specs.Refusal.{Refusal}
use Rattle.steps.specs.declared.Why.TheVariants.{TooManyFiles as NoNumber}
use Rattle.steps.specs.Step.{Step, Steps}
use Rattle.steps.specs.Refusal.{refusal, refusal_of}
use Rattle.extraction.specs.declared.ExtractError.TheVariants.{Refused, NoRoom}
use Rattle.records.specs.Writes.{Placing}
use Rattle.extraction.specs.Passes.{Ready, ItemsRead, pass_act}
use Rattle.extraction.specs.Stages.{Owned, Owns, ModuleRead, Firsts}
use Rattle.extraction.proofs.HeldLaws.{walked, walked-refused, pass-inside, pass-held, pass-long}
use Rattle.extraction.proofs.ReadLaws.{reads-tree}

-- ---- The own file

module _ (f : FileName) (ms : Modules) (g : Gen) (q : generated g ≡ gen f ms) where
  gen-by : (o : Option (ℕ × Modules)) → request f.0 ms ≡ o → generated g ≡ generated_by o ms
  unfolding gen
  gen-by o e = q ∙ ap (λ (o : Option (ℕ × Modules)). generated_by o ms) e

  pub own-given : {t t1 t' : List ℕ} {n : Numbers} → g.answer ≡ Ok n → Turns (set_modules (modules_of g.scope)) t t1 → Resets (with_own n.id.0) t1 t' → Owns f.0 ms t t' (Ok tt)
  own-given {t} {t1} {t'} {n} a u v = record { is = go (request f.0 ms) refl }
    where
      go : (o : Option (ℕ × Modules)) → request f.0 ms ≡ o → Owned f.0 ms t t'
      go None e = none-some (sym (ap file_refusal a) ∙ ap (λ (x : Generated). x.refusal) (gen-by None e))
      go (Some r) e =
          let h = gen-by (Some r) e in
          let i : n.id ≡ module_id r.0 = sym (ap (λ (z : Result Numbers TooManyFiles). (numbers_by z).id) a) ∙ ap (λ (x : Generated). x.id) h in
          record {
            own = n.id.0;
            modules = modules_of g.scope;
            is = e ∙ ap₂ (λ (m : ModuleId) (ms : Modules). Some (m.0, ms)) (sym i) (sym (ap (λ (x : Generated). x.modules) h));
            shows = λ s w. v.shows (set_modules (modules_of g.scope) s) (u.shows s w);
          }

  pub own-full : {t : List ℕ} {n : TooManyFiles} → g.answer ≡ Err n → Owns f.0 ms t t (Err (Refused (refusal NoNumber 0)))
  own-full a = record { is = (refl, go (request f.0 ms) refl) }
    where
      go : (o : Option (ℕ × Modules)) → request f.0 ms ≡ o → request f.0 ms ≡ None
      go None e = e
      go (Some r) e = none-some (sym (ap (λ (x : Generated). x.refusal) (gen-by (Some r) e)) ∙ ap file_refusal a)

-- ---- The first pass

ready-by : {p : Pass} (at end : ℕ) (u : State) (K : Type 0) → p ≡ first → (9 * namespaces_in u.collected ≤ at) × (end ≤ 32768) → Ready p at end u K
ready-by at end u K e h = subst (λ (q : Pass). Ready q at end u K) (sym e) h

ready : {x : Env} (tree work : List ℕ) (ms : Modules) → x.setting.pass ≡ first → Placing tree work x → ModuleRead tree →
    ItemsRead tree 3 (length tree) x (set_top false (start ms))
unfolding namespaces_in
ready {x} tree work ms e p r =
    record {
      inside = r.room;
      row = r.row;
      fits = omega arith;
      reads = reads-tree tree work x p e r.most;
      ready = ready-by 3 (length tree) (set_top false (start ms)) _ e (omega arith, r.most);
    }

module _ {tree t t1 work work1 : List ℕ} {k : Step} (m : Steps encode (ItemsRead tree 3 (length tree)) (λ x. pass_act x.setting tree) t work 0 t1 work1 k) where
  pub once-refused : {v : Refusal} → k ≡ Err v → Firsts tree t work t1 work1 (Err (Refused v))
  once-refused {v} h =
      record {
        inside = tt;
        is = λ {x = x} ms e w r ws p.
            let s = set_top false (start ms) in
            walked-refused x.setting tree s (refusal_of v.why) v.place (m.turned v h s w (ready tree ws ms e p r));
      }

  module _ {work2 : List ℕ} {n : ℕ} (h : k ≡ Ok n) where
    -- a tree that fits, or is too long
    pub once-held : (b : Bool) → Finished n work1 b work2 → Firsts tree t work t1 work2 (ok_or (then_some b n) NoRoom)
    once-held true f =
        record {
          inside = pass-inside f work m.size refl;
          is = λ {x = x} ms e w r ws p. let s = set_top false (start ms) in pass-held f (walked x.setting tree s (m.made n h s w (ready tree ws ms e p r))) refl;
        }
    once-held false f =
        record {
          inside = tt;
          is = λ {x = x} ms e w r ws p. let s = set_top false (start ms) in pass-long f (walked x.setting tree s (m.made n h s w (ready tree ws ms e p r))) refl;
        }
