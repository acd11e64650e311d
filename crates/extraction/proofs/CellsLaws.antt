-- What a pass keeps of what its tables lean on: in the first pass an item that is no import brings no namespace; in the second the sources of the
-- collected records stay.
use Rattle.std.specs.Prelude.{Option, None, Some}
use Prim.Native.Nat.{ℕ, ◌+◌}
use mathlib.Core.Path.{◌≡◌, refl, ap, ◌∙◌}
use mathlib.Core.Bool.{Bool, true, false, cond}
use mathlib.Core.List.{List, [], ◌∷◌, ◌++◌}
use Rattle.tree.specs.Layout.{same, value_of}
use Rattle.tree.specs.Tree.{Field, Fields, none, more}
use Rattle.metadata.specs.Metadata.{append}
use Rattle.inputs.specs.Lists.{find, among}
use Rattle.extraction_rules.specs.State.{Record, State, first, second, Setting, set_forced}
use Rattle.extraction_rules.specs.First.{holds_namespace, force_source, force_holder, forget, force_id, collect_in}
use Rattle.extraction_rules.specs.Walk.{walk}
use Rattle.extraction_rules.proofs.StepLaws.{Keeps}
use Rattle.extraction_rules.proofs.AlikeLaws.{Regular}
use Rattle.extraction_rules.proofs.ItemsLaws.{ItemSteps, item-keeps}
use Rattle.extraction_rules.proofs.WalkLaws.{Steps, walk-keeps, imports-any}
use Rattle.extraction_rules.proofs.SanityLaws.{first-second}
use Rattle.inputs.specs.Fields.{has}
use Rattle.state.specs.Cells.{flag, count_namespaces, namespaces_in, sources_in}
use Rattle.state.proofs.SourcedLaws.{extend-sources}

-- ---- Forcing changes no record

source_kept : (a : List ℕ) (s : State) → (force_source a s).collected ≡ s.collected
unfolding force_source
source_kept a s = go (among a s.forced)
  where
    go : (b : Bool) → (cond b s (set_forced (s.forced ++ (a ∷ [])) s)).collected ≡ s.collected
    go true = refl
    go false = refl

force-kept : (i : List ℕ) (s : State) → (force_id i s).collected ≡ s.collected
unfolding force_id forget
force-kept i s = go (find (holds_namespace i) s.collected)
  where
    go : (o : Option Record) → (force_holder o (forget i s)).collected ≡ s.collected
    go None = refl
    go (Some r) = source_kept (value_of r.literal) (forget i s)

-- ---- The first pass

count-none : (fs : Fields) → count_namespaces (append fs none) ≡ count_namespaces fs
unfolding count_namespaces append
count-none none = refl
count-none (more f fs) = ap (λ (n : ℕ). flag (has 0x22 f) + n) (count-none fs)

empty-brings : (l : List ℕ) (c : List Record) → namespaces_in (collect_in (record { literal = l; specifiers = none }) c) ≡ namespaces_in c
unfolding namespaces_in collect_in count_namespaces
empty-brings l [] = refl
empty-brings l (q ∷ c) = go (same (value_of q.literal) (value_of l)) (empty-brings l c)
  where
    go : (b : Bool) → namespaces_in (collect_in (record { literal = l; specifiers = none }) c) ≡ namespaces_in c →
        namespaces_in
        (cond b (record { literal = q.literal; specifiers = append q.specifiers none } ∷ c)
        (q ∷ collect_in (record { literal = l; specifiers = none }) c)) ≡ count_namespaces q.specifiers + namespaces_in c
    go true h = ap (λ (n : ℕ). n + namespaces_in c) (count-none q.specifiers)
    go false h = ap (λ (n : ℕ). count_namespaces q.specifiers + n) h

abbrev Namespaces : ℕ → State → Type 0
Namespaces n s = namespaces_in s.collected ≡ n

few-steps : (e : Setting) (n : ℕ) → ItemSteps e (Namespaces n)
few-steps e n =
    record {
      common =
          record {
            requires = record { on_request = λ s f k ms q h. h; on_cjs = λ s k h. h; on_lazy = λ s r b h. h };
            on_force = λ s i h. ap namespaces_in (force-kept i s) ∙ h;
            on_top = λ s b h. h;
          };
      on_empty = λ s l b h. empty-brings l s.collected ∙ h;
      on_usage = λ s j p k r w v h. h;
    }

pub item-few : (e : Setting) → e.pass ≡ first → (f : Field) (object : Bool) (p : ℕ) (s : State) → Regular f →
    Keeps (λ u. namespaces_in u.collected ≡ namespaces_in s.collected) (walk f e object p s)
item-few e one f object p s w = item-keeps e (Namespaces (namespaces_in s.collected)) (few-steps e (namespaces_in s.collected)) one f object p s w refl

-- ---- The second pass

abbrev Sources : List (List ℕ) → State → Type 0
Sources l s = sources_in s.collected ≡ l

source-steps : (e : Setting) (l : List (List ℕ)) → e.pass ≡ second → Steps e (λ _. Unit {0}) (Sources l)
source-steps e l two =
    record {
      common =
          record {
            requires = record { on_request = λ s f k ms q h. h; on_cjs = λ s k h. h; on_lazy = λ s r b h. h };
            on_force = λ s i h. ap sources_in (force-kept i s) ∙ h;
            on_top = λ s b h. h;
          };
      one = λ k. first-second k two;
      two = λ k.
          record {
            on_extend = λ s x us p h. extend-sources x _ s.collected ∙ h;
            on_source = λ s x b p h. ap sources_in (source_kept (value_of x) s) ∙ h;
          };
    }

pub item-sources : (e : Setting) → e.pass ≡ second → (f : Field) (object : Bool) (p : ℕ) (s : State) →
    Keeps (λ u. sources_in u.collected ≡ sources_in s.collected) (walk f e object p s)
item-sources e two f object p s =
    walk-keeps e (λ _. Unit {0}) (Sources (sources_in s.collected)) (source-steps e (sources_in s.collected) two) f object p s (imports-any f (λ _. Unit {0}) (λ x. tt)) refl
