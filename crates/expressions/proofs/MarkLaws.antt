-- The module of a required source is marked as the rules mark it: one law for each way through mark_required.
use Rattle.std.specs.Prelude.{Option, None, Some, Result, Ok, Err}
use Prim.Native.Nat.{ℕ}
use mathlib.Core.Path.{◌≡◌, ap, subst, ◌∙◌}
use mathlib.Core.List.{List}
use Rattle.scope.specs.declared.id.ModuleId.{ModuleId}
use Rattle.scope.specs.declared.TooManyFiles.{TooManyFiles}
use Rattle.scope.specs.declared.Mark.TheVariants.{Cjs}
use Rattle.scope.specs.Modules.{set_mark}
use Rattle.tree.specs.Layout.{two}
use Rattle.tree.specs.Tree.{Field}
use Rattle.inputs.specs.Outcome.{Outcome, onto}
use Rattle.extraction_rules.specs.State.{State, set_modules}
use Rattle.extraction_rules.specs.First.{module_for, mark_cjs, mark_required}
use Rattle.state.specs.Cells.{Env, literal_by, Valued}
use Rattle.state.specs.Does.{Gave, Turns, Resolves}
use Rattle.state.specs.declared.Literal.{Literal}
use Rattle.expressions.specs.Require.{called, Requires}

-- what a mark does to the state
abbrev pub marking : ModuleId → State → State
marking n s = set_modules (set_mark Cjs n.0 s.modules) s

same : {m k : Option ModuleId} → ◌≡◌ {A = Result (Option ModuleId) TooManyFiles} (Ok m) (Ok k) → m ≡ k
same e = cc

module _ (l : Literal) {t t1 : List ℕ} {r : Result (Option ModuleId) TooManyFiles} (w : Resolves (λ e. module_for e (two l.value.0)) t t1 r) where
  mark-is : (x : Env) (f : Field) (p : ℕ) (s : State) → Valued x l → (b : Outcome (Option ℕ × State)) → module_for x.setting (two l.value.0) p s ≡ b →
      mark_required x.setting (literal_by x l) f p s ≡ onto b (λ q. mark_cjs q.0 f q.1)
  unfolding mark_required
  mark-is x f p s y b h =
      ap (λ (v : List ℕ). onto (module_for x.setting v p s) (λ q. mark_cjs q.0 f q.1)) y
      ∙ ap (λ (b : Outcome (Option ℕ × State)). onto b (λ q. mark_cjs q.0 f q.1)) h

  pub mark-marked : {n : ModuleId} {t2 : List ℕ} → r ≡ Ok (Some n) → Turns (marking n) t1 t2 → Requires l t t2 (Ok (Some n))
  unfolding mark_cjs
  mark-marked {n} {t2} h m =
      record {
        marked = λ k o {x} f p s v y.
            subst (λ (j : Option ModuleId). Gave x (mark_required x.setting (literal_by x l) f p s) (called j f) t2) (same o)
            (let g = w.resolved (Some n) h s p v in
            record { state = marking n g.state; is = mark-is x f p s y _ g.is; shows = m.shows g.state g.shows });
        full = λ e o {x} f p s v y. absurd (cc);
      }

  pub mark-unresolved : r ≡ Ok None → Requires l t t1 (Ok None)
  unfolding mark_cjs
  mark-unresolved h =
      record {
        marked = λ k o {x} f p s v y.
            subst (λ (j : Option ModuleId). Gave x (mark_required x.setting (literal_by x l) f p s) (called j f) t1) (same o)
            (let g = w.resolved None h s p v in
            record { state = g.state; is = mark-is x f p s y _ g.is; shows = g.shows });
        full = λ e o {x} f p s v y. absurd (cc);
      }

  pub mark-full : {e : TooManyFiles} → r ≡ Err e → Requires l t t1 (Err e)
  mark-full {e} h =
      record {
        marked = λ k o {x} f p s v y. absurd (cc);
        full = λ d o {x} f p s v y. mark-is x f p s y _ (w.full e h s p v);
      }
