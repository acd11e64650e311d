-- What every elementary step of the rules keeps, every rule keeps: a predicate J of the state, and the rules of both passes one by one.
use Rattle.std.specs.Prelude.{Option, None, Some}
use Prim.Native.Nat.{ℕ, ◌+◌}
use mathlib.Core.Path.{◌≡◌, refl, sym, ap, ◌∙◌}
use mathlib.Core.Bool.{Bool, true, false, not, cond, ◌&&◌, ◌||◌}
use mathlib.Core.List.{List, [], ◌∷◌, ◌++◌, map}
use lib.Dec.{leb, eqb}
use lib.ListN.{length, get_or}
use Rattle.scope.specs.Id.{require_atom, export}
use Rattle.scope.specs.Modules.{Modules, request, set_mark}
use Rattle.scope.specs.declared.Mark.TheVariants.{Cjs, Wrapping}
use Rattle.scope.proofs.Laws.{none-some}
use Rattle.tree.specs.Layout.{same, two, four, id_at, value_of, name_of}
use Rattle.tree.specs.Tree.{Field, field, Fields, none, more, fixed_of, size}
use Rattle.inputs.specs.Outcome.{Outcome, onto}
use Rattle.inputs.specs.Lists.{among}
use Rattle.inputs.specs.Table.{file_of}
use Rattle.inputs.specs.Fields.{has, sole, inside}
use Rattle.extraction_rules.specs.State.{Record, Imported, Usage, State, Pass, first, second, Setting, give, change, refuse, room_for}
use Rattle.extraction_rules.specs.State.{set_modules, set_imported, set_usages, set_collected, set_lazy, set_top}
use Rattle.extraction_rules.specs.First.{external, id_from, requested, module_of, module_for, force_source, force_id, on_ident, imported_as}
use Rattle.extraction_rules.specs.First.{used_record, add_usage, use_property, use_from, use_imported, usage, argument, not_external, required}
use Rattle.extraction_rules.specs.First.{mark_cjs, mark_required, collect_in, collect, add_lazy, require, note_in, note_id, note_named, note_specifier}
use Rattle.extraction_rules.specs.First.{noted_context, note_all, note_specifiers, specifiers_in, import_first, export_specifier, bindings}
use Rattle.extraction_rules.specs.First.{require_lazily, declarator}
use Rattle.extraction_rules.specs.Second.{usages_of, specifiers_from, extend, take_apart, on_sole, import_second, wrap_module, wrap_all, lose_namespaces, finish}
use Rattle.extraction_rules.specs.Walk.{Rule, import, export as exporting, declare, express, nothing as plain, after_expression, after_import, after, enter}
use Rattle.extraction_rules.proofs.OutcomeLaws.{After, after-bind, after-if, after-both}
use Rattle.extraction_rules.proofs.TestLaws.{or-neither}

-- ---- The elementary steps

-- steps of require, in both passes: a file is requested, a module marked cjs, a lazy record added
pub record RequireSteps (e : Setting) (J : State → Type 0) : Type 0 where
  pub on_request : (s : State) (f n : ℕ) (ms : Modules) → request f s.modules ≡ Some (n, ms) → J s → J (set_modules ms s)
  pub on_cjs : (s : State) (n : ℕ) → J s → J (set_modules (set_mark Cjs n s.modules) s)
  pub on_lazy : (s : State) (r : Record) → external e r.literal ≡ false → J s → J (set_lazy (s.lazy ++ (r ∷ [])) s)

-- steps of both passes: besides, an id is forced, *top* changed
pub record CommonSteps (e : Setting) (J : State → Type 0) : Type 0 where
  pub requires : RequireSteps e J
  pub on_force : (s : State) (i : List ℕ) → J s → J (force_id i s)
  pub on_top : (s : State) (b : Bool) → J s → J (set_top b s)

-- what require asks in the first pass besides: a record without specifiers is collected
abbrev pub EmptyKeeps : Setting → (State → Type 0) → Type 0
EmptyKeeps e J = (s : State) (l : List ℕ) → external e l ≡ false → J s → J (set_collected (collect_in (record { literal = l; specifiers = none }) s.collected) s)

-- steps of the first pass: an imported id is noted, a usage of an imported id added, a record collected
pub record FirstSteps (e : Setting) (J : State → Type 0) : Type 0 where
  pub on_note : (s : State) (m : Imported) → J s → J (set_imported (note_in m s.imported) s)
  pub on_usage : (s : State) (u : Usage) (c : List ℕ) → imported_as u.id s.imported ≡ Some c → J s → J (set_usages (s.usages ++ (u ∷ [])) s)
  pub on_collect : (s : State) (r : Record) → external e r.literal ≡ false → J s → J (set_collected (collect_in r s.collected) s)

-- steps of the second pass: the records of the literal of an import of which P holds are extended, its source is forced
pub record SecondSteps (e : Setting) (P : List ℕ → Type 0) (J : State → Type 0) : Type 0 where
  pub on_extend : (s : State) (x : List ℕ) (us : List Usage) → P x → J s → J (set_collected (map (extend x (specifiers_from us)) s.collected) s)
  pub on_source : (s : State) (x : List ℕ) → external e x ≡ false → P x → J s → J (force_source (value_of x) s)

-- steps of the second pass's end: a module is marked for wrapping, records lose their namespaces
pub record EndSteps (J : State → Type 0) : Type 0 where
  pub on_wrap : (s : State) (n : ℕ) → J s → J (set_modules (set_mark Wrapping n s.modules) s)
  pub on_lose : (s : State) → J s → J (set_collected (map (lose_namespaces s.forced) s.collected) s)

-- ---- Not external: of every call that meets the require conditions

pub some-inj : {A : Type 0} {a b : A} → Some a ≡ Some b → a ≡ b
some-inj e = cc

not_external-own : (e : Setting) (o : Option (List ℕ)) (l : List ℕ) → not_external e o ≡ Some l → external e l ≡ false
unfolding not_external
not_external-own e None l q = none-some q
not_external-own e (Some k) l q = go (external e k) refl q
  where
    go : (b : Bool) → external e k ≡ b → cond b None (Some k) ≡ Some l → external e l ≡ false
    go true r q = none-some q
    go false r q = ap (external e) (sym (some-inj q)) ∙ r

pub required-own : (e : Setting) (f : Field) (l : List ℕ) → required e f ≡ Some l → external e l ≡ false
unfolding required
required-own e (field t x none) l q = none-some q
required-own e (field t x (more c gs)) l q = go (e.config.require && eqb t 0x65 && has 0x60 c && same (name_of (fixed_of c)) (two require_atom)) q
  where
    go : (b : Bool) → cond b (not_external e (argument (sole gs))) None ≡ Some l → external e l ≡ false
    go true q = not_external-own e (argument (sole gs)) l q
    go false q = none-some q

-- ---- The rules

-- J holds of the state after a step that is not refused
abbrev pub Keeps : {A : Type 0} → (State → Type 0) → Outcome (A × State) → Type 0
Keeps J m = After m (λ r s. J s)

pub then-keeps : {A B : Type 0} (J : State → Type 0) (m : Outcome (A × State)) (f : A × State → Outcome (B × State)) → Keeps J m →
    ((a : A) (s : State) → J s → Keeps J (f (a, s))) → Keeps J (onto m f)
then-keeps J m f h k = after-bind m f (λ r s. J s) (λ r s. J s) h k

pub enter-keeps : (J : State → Type 0) → ((s : State) (b : Bool) → J s → J (set_top b s)) → (t : ℕ) (s : State) → J s → J (enter t s)
enter-keeps J k t s h = go (eqb t 0x45)
  where
    go : (b : Bool) → J (cond b (set_top false s) s)
    go true = k s false h
    go false = h

-- the module of a source: only modules change
pub module_for-stays : (e : Setting) (a : List ℕ) (p : ℕ) (s : State) → After (module_for e a p s) (λ n t. t ≡ set_modules t.modules s)
unfolding module_for
module_for-stays e a p s = go (file_of a e.table)
  where
    ask : (r : Option (ℕ × Modules)) → After (requested r p s) (λ n t. t ≡ set_modules t.modules s)
    ask None = tt
    ask (Some r) = refl

    go : (o : Option ℕ) → After (module_of o p s) (λ n t. t ≡ set_modules t.modules s)
    go None = refl
    go (Some f) = ask (request f s.modules)

-- the tables, one by one
module _ (J : State → Type 0) where
  pub room-keeps : (n most p : ℕ) (f : State → State) (s : State) → J (f s) → Keeps J (room_for n most p f s)
  room-keeps n most p f s h = after-if (leb n most) (change f) (refuse 8 p) s (λ r s. J s) (λ _. h) (λ _. tt)

  pub add_usage-keeps : (u : Usage) (p : ℕ) (s : State) → J (set_usages (s.usages ++ (u ∷ [])) s) → Keeps J (add_usage u p s)
  unfolding add_usage
  add_usage-keeps u p s h = room-keeps (length (s.usages ++ (u ∷ []))) 2048 p (set_usages (s.usages ++ (u ∷ []))) s h

  pub collect-keeps : (r : Record) (p : ℕ) (s : State) → J (set_collected (collect_in r s.collected) s) → Keeps J (collect r p s)
  unfolding collect
  collect-keeps r p s h = room-keeps (length (collect_in r s.collected)) 256 p (set_collected (collect_in r s.collected)) s h

  pub note_id-keeps : (m : Imported) (p : ℕ) (s : State) → J (set_imported (note_in m s.imported) s) → Keeps J (note_id m p s)
  unfolding note_id
  note_id-keeps m p s h = room-keeps (length (note_in m s.imported)) 512 p (set_imported (note_in m s.imported)) s h

  note_specifier-keeps : ((s : State) (m : Imported) → J s → J (set_imported (note_in m s.imported) s)) →
      (n : ℕ) (f : Field) (p : ℕ) (s : State) → J s → Keeps J (note_specifier n f p s)
  unfolding note_specifier note_named
  note_specifier-keeps k n f p s h =
      after-if (has 0x20 f) (note_named n (fixed_of f) p) _ s (λ r s. J s)
      (λ _. after-if (eqb (get_or (fixed_of f) 6 0) 2) (refuse 6 p) _ s (λ r s. J s) (λ _. tt)
      (λ _. then-keeps J (note_id (record { id = id_at (fixed_of f) 0; context = four (export n) }) p s) _ (note_id-keeps _ p s (k s _ h)) λ _ s h. h))
      (λ _. then-keeps J (note_id (record { id = fixed_of f; context = noted_context n f }) p s) _ (note_id-keeps _ p s (k s _ h)) λ _ s h. h)

  note_all-keeps : ((s : State) (m : Imported) → J s → J (set_imported (note_in m s.imported) s)) →
      (n : ℕ) (fs : Fields) (p : ℕ) (s : State) → J s → Keeps J (note_all n fs p s)
  unfolding note_all
  note_all-keeps k n none p s h = h
  note_all-keeps k n (more f fs) p s h =
      then-keeps J (note_specifier n f p s) _ (note_specifier-keeps k n f p s h) λ g s h. then-keeps J (note_all n fs (p + size f) s) _
      (note_all-keeps k n fs (p + size f) s h) λ gs s h. h

  pub note_specifiers-keeps : ((s : State) (m : Imported) → J s → J (set_imported (note_in m s.imported) s)) →
      (o : Option ℕ) (fs : Fields) (p : ℕ) (s : State) → J s → Keeps J (note_specifiers o fs p s)
  note_specifiers-keeps k None fs p s h = h
  note_specifiers-keeps k (Some n) fs p s h = note_all-keeps k n fs p s h

module _ (e : Setting) (J : State → Type 0) (c : RequireSteps e J) where
  pub module_for-keeps : (a : List ℕ) (p : ℕ) (s : State) → J s → Keeps J (module_for e a p s)
  unfolding module_for
  module_for-keeps a p s h = go (file_of a e.table)
    where
      ask : (f : ℕ) (r : Option (ℕ × Modules)) → request f s.modules ≡ r → Keeps J (requested r p s)
      ask f None q = tt
      ask f (Some r) q = c.on_request s f r.0 r.1 q h

      go : (o : Option ℕ) → Keeps J (module_of o p s)
      go None = h
      go (Some f) = ask f (request f s.modules) refl

  add_lazy-keeps : (r : Record) (p : ℕ) (s : State) → external e r.literal ≡ false → J s → Keeps J (add_lazy r p s)
  unfolding add_lazy
  add_lazy-keeps r p s b h = room-keeps J (length (s.lazy ++ (r ∷ []))) 1024 p (set_lazy (s.lazy ++ (r ∷ []))) s (c.on_lazy s r b h)

  mark_cjs-keeps : (o : Option ℕ) (f : Field) (s : State) → J s → Keeps J (mark_cjs o f s)
  unfolding mark_cjs
  mark_cjs-keeps None f s h = h
  mark_cjs-keeps (Some n) f s h = c.on_cjs s n h

  mark_required-keeps : (l : List ℕ) (f : Field) (p : ℕ) (s : State) → J s → Keeps J (mark_required e l f p s)
  unfolding mark_required
  mark_required-keeps l f p s h = then-keeps J (module_for e (value_of l) p s) _ (module_for-keeps (value_of l) p s h) λ n s h. mark_cjs-keeps n f s h

  require_lazily-keeps : (o : Option (List ℕ)) (q i : Field) (p : ℕ) (s : State) → required e i ≡ o → J s → Keeps J (require_lazily o e q i p s)
  unfolding require_lazily
  require_lazily-keeps None q i p s w h = h
  require_lazily-keeps (Some l) q i p s w h =
      then-keeps J (mark_required e l i p s) _ (mark_required-keeps l i p s h) λ j s h.
      then-keeps J (add_lazy (record { literal = l; specifiers = bindings q }) p s) _ (add_lazy-keeps _ p s (required-own e i l w) h) λ _ s h. h

  pub declarator-keeps : (cs : Fields) (p : ℕ) (s : State) → J s → Keeps J (declarator e cs p s)
  unfolding declarator
  declarator-keeps none p s h = h
  declarator-keeps (more q none) p s h = h
  declarator-keeps (more q (more i rest)) p s h =
      then-keeps J (require_lazily (required e i) e q i p s) _ (require_lazily-keeps (required e i) q i p s refl h) λ j s h. h

  require-by : EmptyKeeps e J → (o : Option (List ℕ)) (f : Field) (p : ℕ) (s : State) → required e f ≡ o → J s → Keeps J (require o e f p s)
  unfolding require
  require-by k None f p s w h = h
  require-by k (Some l) f p s w h =
      let r : Record = record { literal = l; specifiers = none } in
      then-keeps J (mark_required e l f p s) _ (mark_required-keeps l f p s h) λ g s h.
      then-keeps J (cond s.top (collect r p) (add_lazy r p) s) _
      (after-if s.top (collect r p) (add_lazy r p) s (λ r s. J s) (λ _. collect-keeps J r p s (k s l (required-own e f l w) h))
      (λ _. add_lazy-keeps r p s (required-own e f l w) h)) λ _ s h. h

  pub require-keeps : EmptyKeeps e J → (f : Field) (p : ℕ) (s : State) → J s → Keeps J (require (required e f) e f p s)
  require-keeps k f p s h = require-by k (required e f) f p s refl h

  -- ---- '10, not external'

  import_first-keeps : FirstSteps e J → (x : List ℕ) (cs : Fields) (p : ℕ) (s : State) → J s → Keeps J (import_first e x cs p s)
  unfolding import_first
  import_first-keeps one x cs p s h =
      after-if (external e x) (give (field 0x10 x cs)) _ s (λ r s. J s) (λ _. h)
      (λ b. then-keeps J (module_for e (value_of x) p s) _ (module_for-keeps (value_of x) p s h) λ n s h.
      then-keeps J (note_specifiers n (specifiers_in cs) (inside p x) s) _ (note_specifiers-keeps J one.on_note n (specifiers_in cs) (inside p x) s h) λ fs s h.
      then-keeps J (collect (record { literal = x; specifiers = fs }) p s) _ (collect-keeps J _ p s (one.on_collect s _ b h)) λ _ s h. h)

  -- ---- The second pass

  take_apart-keeps : (P : List ℕ → Type 0) → SecondSteps e P J → (us : List Usage) (x : List ℕ) (cs : Fields) (s : State) →
      external e x ≡ false → P x → J s → Keeps J (take_apart us x cs s)
  unfolding take_apart
  take_apart-keeps P two [] x cs s b q h = two.on_source s x b q h
  take_apart-keeps P two (u ∷ us) x cs s b q h = two.on_extend s x (u ∷ us) q h

  on_sole-keeps : (P : List ℕ → Type 0) → SecondSteps e P J → (o : Option Field) (x : List ℕ) (cs : Fields) (s : State) →
      external e x ≡ false → P x → J s → Keeps J (on_sole o x cs s)
  unfolding on_sole
  on_sole-keeps P two None x cs s b q h = h
  on_sole-keeps P two (Some f) x cs s b q h =
      after-if (has 0x22 f) _ (give (field 0x10 x cs)) s (λ r s. J s)
      (λ _. take_apart-keeps P two (usages_of (fixed_of f) s.usages) x cs s b q h) (λ _. h)

  import_second-keeps : (P : List ℕ → Type 0) → SecondSteps e P J → (x : List ℕ) (cs : Fields) (s : State) → P x → J s →
      Keeps J (import_second e x cs s)
  unfolding import_second
  import_second-keeps P two x cs s q h =
      after-if (external e x || among (value_of x) s.forced) (give (field 0x10 x cs)) (on_sole (sole (specifiers_in cs)) x cs) s (λ r s. J s) (λ _. h)
      (λ b. on_sole-keeps P two (sole (specifiers_in cs)) x cs s (or-neither (external e x) (among (value_of x) s.forced) b).0 q h)

  -- ---- The end of the second pass

  wrap_module-keeps : EndSteps J → (o : Option ℕ) (s : State) → J s → Keeps J (wrap_module o s)
  unfolding wrap_module
  wrap_module-keeps end None s h = h
  wrap_module-keeps end (Some n) s h = end.on_wrap s n h

  wrap_all-keeps : EndSteps J → (l : List (List ℕ)) (s : State) → J s → Keeps J (wrap_all e l s)
  unfolding wrap_all
  wrap_all-keeps end [] s h = h
  wrap_all-keeps end (a ∷ l) s h =
      then-keeps J (module_for e a 0 s) _ (module_for-keeps a 0 s h) λ n s h. then-keeps J (wrap_module n s) _ (wrap_module-keeps end n s h) λ _ s h.
      wrap_all-keeps end l s h

  pub finish-keeps : EndSteps J → (s : State) → J s → Keeps J (finish e s)
  unfolding finish
  finish-keeps end s h = then-keeps J (wrap_all e s.forced s) _ (wrap_all-keeps end s.forced s h) λ _ s h. end.on_lose s h

-- ---- The rule of a field, once its parts are walked

module _ (e : Setting) (J : State → Type 0) (c : CommonSteps e J) where
  -- what is asked of the usage (property q, export context) of the id i
  abbrev pub UseKeeps : List ℕ → Field → Type 0
  UseKeeps i q =
      (s : State) (n : ℕ) (k : List ℕ) → imported_as i s.imported ≡ Some k → J s →
      J (set_usages (s.usages ++ (record { id = i; property = id_from (fixed_of q) (export n) } ∷ [])) s)

  use_property-keeps : (o : Option ℕ) (i : List ℕ) (q : Field) (at p : ℕ) (s : State) (k : List ℕ) → imported_as i s.imported ≡ Some k →
      (has 0x72 q ≡ false → UseKeeps i q) → J s → Keeps J (use_property o i q at p s)
  unfolding use_property
  use_property-keeps None i q at p s k w u h = h
  use_property-keeps (Some n) i q at p s k w u h =
      after-if (has 0x72 q) (refuse 7 at) _ s (λ r s. J s) (λ _. tt) (λ b. add_usage-keeps J _ p s (u b s n k w h))

  use_from-keeps : (o : Option Record) (i : List ℕ) (q : Field) (at p : ℕ) (s : State) (k : List ℕ) → imported_as i s.imported ≡ Some k →
      (has 0x72 q ≡ false → UseKeeps i q) → J s → Keeps J (use_from o e i q at p s)
  unfolding use_from
  use_from-keeps None i q at p s k w u h = h
  use_from-keeps (Some r) i q at p s k w u h =
      after-bind (module_for e (value_of r.literal) p s) _ (λ n t. J t × (t ≡ set_modules t.modules s)) (λ r s. J s)
      (after-both (module_for e (value_of r.literal) p s) (λ n t. J t) (λ n t. t ≡ set_modules t.modules s)
      (module_for-keeps e J c.requires (value_of r.literal) p s h) (module_for-stays e (value_of r.literal) p s)) λ n t j.
      use_property-keeps n i q at p t k (ap (λ (t : State). imported_as i t.imported) j.1 ∙ w) u j.0

  use_imported-keeps : (o : Option (List ℕ)) (i : List ℕ) (q : Field) (at p : ℕ) (s : State) → imported_as i s.imported ≡ o →
      (has 0x71 q ≡ false → has 0x72 q ≡ false → UseKeeps i q) → J s → Keeps J (use_imported o e i q at p s)
  unfolding use_imported
  use_imported-keeps None i q at p s w u h = h
  use_imported-keeps (Some k) i q at p s w u h =
      after-if (has 0x71 q) (change (force_id i)) _ s (λ r s. J s) (λ _. c.on_force s i h)
      (λ b. use_from-keeps (used_record e.own i s.collected) i q at p s k w (u b) h)

  pub usage-keeps : (m : Option (Field × Field)) (p : ℕ) (s : State) →
      ((o q : Field) → m ≡ Some (o, q) → has 0x71 q ≡ false → has 0x72 q ≡ false → UseKeeps (fixed_of o) q) → J s → Keeps J (usage m e p s)
  unfolding usage
  usage-keeps None p s u h = h
  usage-keeps (Some m) p s u h =
      use_imported-keeps (imported_as (fixed_of m.0) s.imported) (fixed_of m.0) m.1 (p + 3 + size m.0) p s refl (u m.0 m.1 refl) h

  pub export_specifier-keeps : (x : List ℕ) (p : ℕ) (s : State) → J s → Keeps J (export_specifier e x p s)
  unfolding export_specifier
  export_specifier-keeps x p s h =
      after-if (eqb (get_or x 0 0) 2 || eqb (get_or x 7 0) 2) (refuse 6 p) _ s (λ r s. J s) (λ _. tt) (λ _. c.on_force s (id_at x 1) h)

  pub expression-keeps : EmptyKeeps e J → (f : Field) →
      ((o q : Field) → on_ident f ≡ Some (o, q) → has 0x71 q ≡ false → has 0x72 q ≡ false → UseKeeps (fixed_of o) q) →
      (object : Bool) (p : ℕ) (s : State) → J s → Keeps J (after_expression first e f object p s)
  unfolding after_expression
  expression-keeps k f u object p s h =
      after-if (has 0x60 f && not object) _ _ s (λ r s. J s) (λ _. c.on_force s (fixed_of f) h)
      (λ _. then-keeps J (usage (on_ident f) e p s) _ (usage-keeps (on_ident f) p s u h) λ _ s h. require-keeps e J c.requires k f p s h)

  after_expression-keeps : (k : Pass) → (k ≡ first → FirstSteps e J) → (f : Field) (object : Bool) (p : ℕ) (s : State) → J s →
      Keeps J (after_expression k e f object p s)
  unfolding after_expression
  after_expression-keeps first one f object p s h =
      expression-keeps (λ s l b h. (one refl).on_collect s (record { literal = l; specifiers = none }) b h) f
      (λ o q w a b s n k v h. (one refl).on_usage s (record { id = fixed_of o; property = id_from (fixed_of q) (export n) }) k v h) object p s h
  after_expression-keeps second one f object p s h = h

  after_import-keeps : (P : List ℕ → Type 0) (k : Pass) → (k ≡ first → FirstSteps e J) → (k ≡ second → SecondSteps e P J) →
      (x : List ℕ) (cs : Fields) (p : ℕ) (s : State) → P x → J s →
      Keeps J (after_import k e x cs p s)
  unfolding after_import
  after_import-keeps P first one two x cs p s q h = import_first-keeps e J c.requires (one refl) x cs p s h
  after_import-keeps P second one two x cs p s q h = import_second-keeps e J c.requires P (two refl) x cs s q h

  pub after-keeps : (P : List ℕ → Type 0) → (e.pass ≡ first → FirstSteps e J) → (e.pass ≡ second → SecondSteps e P J) →
      (k : Rule) (t : ℕ) (x : List ℕ) (cs : Fields) (object : Bool) (p : ℕ) (s : State) → (k ≡ import → P x) → J s →
      Keeps J (after k e t x cs object p s)
  unfolding after
  after-keeps P one two import t x cs object p s q h = after_import-keeps P e.pass one two x cs p s (q refl) h
  after-keeps P one two exporting t x cs object p s q h = export_specifier-keeps x p s h
  after-keeps P one two declare t x cs object p s q h = then-keeps J (declarator e cs p s) _ (declarator-keeps e J c.requires cs p s h) λ ds s h. h
  after-keeps P one two express t x cs object p s q h = after_expression-keeps e.pass one (field t x cs) object p s h
  after-keeps P one two plain t x cs object p s q h = h
