-- The first pass leaves a tree whose imports are known: the source of each 10 that a walk comes to is external or collected.
use Rattle.std.specs.Prelude.{Some}
use Prim.Native.Nat.{ℕ, ◌+◌}
use mathlib.Core.Path.{◌≡◌, refl, sym, subst, ◌∙◌}
use mathlib.Core.Bool.{Bool, true, false, cond, ◌||◌, true≢false}
use mathlib.Core.List.{List}
use native.Mathlib.Omega.{arith}
use lib.Dec.{eqb, leb}
use lib.ListN.{get_or, length}
use Rattle.tree.specs.Layout.{value_of}
use Rattle.tree.specs.Tree.{Field, field, Fields, none, more, tag_of, parts_of, size}
use Rattle.metadata.specs.Metadata.{append}
use Rattle.inputs.specs.Lists.{among}
use Rattle.inputs.specs.Outcome.{onto}
use Rattle.inputs.specs.Fields.{keep, inside}
use Rattle.extraction_rules.specs.State.{Record, State, Pass, first, second, Setting, Act, give, change, refuse, set_top, set_collected}
use Rattle.extraction_rules.specs.First.{external, forget, with_context, module_for, required, with_callee, collect_in, collect, note_specifiers}
use Rattle.extraction_rules.specs.First.{specifiers_in, import_first, export_specifier, declarator, stays}
use Rattle.extraction_rules.specs.Walk.{Rule, import, export, declare, express, nothing as plain, rule_for, after_import, after, Parts, unwalked}
use Rattle.extraction_rules.specs.Walk.{member, super, assignment, children, parts_for, enter, walk, walk_all, walk_member, walk_assignment}
use Rattle.extraction_rules.specs.Walk.{walk_target, walk_module}
use Rattle.extraction_rules.proofs.OutcomeLaws.{After, after-bind, after-weaken, after-both, after-if}
use Rattle.extraction_rules.proofs.FirstLaws.{force-cases, sources_of, collect-stays, collect-among}
use Rattle.extraction_rules.proofs.StepLaws.{after-keeps}
use Rattle.extraction_rules.proofs.WalkLaws.{rule-tag, rule-not-import, parts-weaken, Imports, ImportsAll, ImportsAssignment, ImportsTarget}
use Rattle.extraction_rules.proofs.WalkLaws.{ImportsParts, walk_parts, imports-any-all, Steps, walk_all-keeps}
use Rattle.extraction_rules.proofs.SanityLaws.{Known, first-second}
use Rattle.extraction_rules.proofs.ValueLaws.{after-any, required-call, first-expression, declarator-value}

-- ---- Collected sources stay collected in the first pass

abbrev pub Grown : List (List ℕ) → State → Type 0
Grown sources s = (a : List ℕ) → among a sources ≡ true → among a (sources_of s.collected) ≡ true

pub grown-steps : (e : Setting) (P : List ℕ → Type 0) (sources : List (List ℕ)) → e.pass ≡ first → Steps e P (Grown sources)
unfolding forget
grown-steps e P sources k =
    record {
      common = record {
        requires = record { on_request = λ s g m ms q h. h; on_cjs = λ s m h. h; on_lazy = λ s r b h. h };
        on_force =
            λ s i h. force-cases i s (Grown sources) h (λ r w. h);
        on_top = λ s b h. h;
      };
      one = λ _. record { on_note = λ s m h. h; on_usage = λ s u c w h. h; on_collect = λ s r b h a w. collect-stays a r s.collected (h a w) };
      two = λ q. first-second k q;
    }

-- ---- Imports of a tree

mutual
  imports-weaken : (f : Field) (P Q : List ℕ → Type 0) → ((x : List ℕ) → P x → Q x) → Imports f P → Imports f Q
  imports-weaken (field t x cs) P Q k h =
      (λ q. k x (h.0 q), parts-weaken (parts_for t) cs P Q (λ i. imports-weaken-all cs P Q k i) (λ i. imports-weaken-assignment cs P Q k i) h.1)

  imports-weaken-all : (fs : Fields) (P Q : List ℕ → Type 0) → ((x : List ℕ) → P x → Q x) → ImportsAll fs P → ImportsAll fs Q
  imports-weaken-all none P Q k h = tt
  imports-weaken-all (more f fs) P Q k h = (imports-weaken f P Q k h.0, imports-weaken-all fs P Q k h.1)

  imports-weaken-assignment : (fs : Fields) (P Q : List ℕ → Type 0) → ((x : List ℕ) → P x → Q x) → ImportsAssignment fs P → ImportsAssignment fs Q
  imports-weaken-assignment none P Q k h = tt
  imports-weaken-assignment (more f fs) P Q k h = (imports-weaken-target f P Q k h.0, imports-weaken-all fs P Q k h.1)

  imports-weaken-target : (f : Field) (P Q : List ℕ → Type 0) → ((x : List ℕ) → P x → Q x) → ImportsTarget f P → ImportsTarget f Q
  imports-weaken-target (field t x cs) P Q k h = imports-weaken-all cs P Q k h

imports-keep : (t : Field → Bool) (fs : Fields) (P : List ℕ → Type 0) → ImportsAll fs P → ImportsAll (keep t fs) P
unfolding keep
imports-keep t none P h = tt
imports-keep t (more f fs) P h = go (t f) (imports-keep t fs P h.1)
  where
    go : (b : Bool) → ImportsAll (keep t fs) P → ImportsAll (cond b (more f (keep t fs)) (keep t fs)) P
    go true r = (h.0, r)
    go false r = r

-- another callee changes no import
callee-imports : (c : Field) (y : List ℕ) (P : List ℕ → Type 0) → tag_of c ≡ 0x60 → Imports c P → Imports (field (tag_of c) y (parts_of c)) P
callee-imports (field t x cs) y P q h = (λ r. absurd (omega arith), h.1)

call-imports : (c : Field) (gs : Fields) (x : List ℕ) (y : List ℕ) (P : List ℕ → Type 0) → tag_of c ≡ 0x60 →
    ImportsParts (parts_for 0x65) (more c gs) P →
    Imports (field 0x65 x (more (field (tag_of c) y (parts_of c)) gs)) P
unfolding parts_for
call-imports c gs x y P q h = (λ r. absurd (omega arith), (callee-imports c y P q h.0, h.1))

with_callee-imports : (e : Setting) (n t : ℕ) (x : List ℕ) (cs : Fields) (l : List ℕ) (P : List ℕ → Type 0) →
    required e (field t x cs) ≡ Some l → ImportsParts (parts_for t) cs P →
    Imports (with_callee n (field t x cs)) P
unfolding with_callee required
with_callee-imports e n t x none l P w h = absurd (let z : ◌≡◌ {A = ℕ} 0 1 = cc in omega arith)
with_callee-imports e n t x (more c gs) l P w h =
    let q = required-call e t x c gs l w in
    rw q.0 (call-imports c gs x _ P q.1 (rw q.0 at h))

-- ---- The first pass

module _ (e : Setting) (k : e.pass ≡ first) where
  -- known in a state
  abbrev KnownIn : State → List ℕ → Type 0
  KnownIn s x = Known e.externals (sources_of s.collected) x

  grow : (s s' : State) (x : List ℕ) → Grown (sources_of s.collected) s' → KnownIn s x → KnownIn s' x
  grow s s' x g h n = g (value_of x) (h n)

  collect-knows : (r : Record) (p : ℕ) (s : State) → After (collect r p s) (λ _ s'. KnownIn s' r.literal)
  unfolding collect
  collect-knows r p s =
      after-if (leb (length (collect_in r s.collected)) 256) (change (set_collected (collect_in r s.collected))) (refuse 8 p) s
      (λ _ s'. KnownIn s' r.literal)
      (λ _ _. collect-among r s.collected) (λ _. tt)

  import-known : (x : List ℕ) (cs : Fields) (s : State) → KnownIn s x → Imports (field 0x10 x cs) (KnownIn s)
  unfolding parts_for
  import-known x cs s h = (λ _. h, tt)

  import_first-known : (x : List ℕ) (cs : Fields) (p : ℕ) (s : State) → After (import_first e x cs p s) (λ g s'. Imports g (KnownIn s'))
  unfolding import_first external
  import_first-known x cs p s =
      after-if (external e x) (give (field 0x10 x cs)) _ s (λ g s'. Imports g (KnownIn s'))
      (λ b. import-known x cs s (λ n. absurd (true≢false (sym b ∙ n))))
      (λ _. after-bind (module_for e (value_of x) p s) _ (λ n s. Unit {0}) (λ g s'. Imports g (KnownIn s'))
      (after-any (module_for e (value_of x) p s)) λ n s _.
      after-bind (note_specifiers n (specifiers_in cs) (inside p x) s) _ (λ n s. Unit {0}) (λ g s'. Imports g (KnownIn s'))
      (after-any (note_specifiers n (specifiers_in cs) (inside p x) s)) λ fs s _.
      after-bind (collect (record { literal = x; specifiers = fs }) p s) _ (λ _ s'. KnownIn s' x) (λ g s'. Imports g (KnownIn s'))
      (collect-knows (record { literal = x; specifiers = fs }) p s) λ _ s h.
      import-known x (append fs (with_context n cs)) s h)

  after_import-known : (j : Pass) → j ≡ first → (x : List ℕ) (cs : Fields) (p : ℕ) (s : State) →
      After (after_import j e x cs p s) (λ g s'. Imports g (KnownIn s'))
  unfolding after_import
  after_import-known first q x cs p s = import_first-known x cs p s
  after_import-known second q x cs p s = first-second q refl

  exported-known : (x : List ℕ) (p : ℕ) (s : State) (P : List ℕ → Type 0) → After (export_specifier e x p s) (λ g s'. Imports g P)
  unfolding export_specifier parts_for
  exported-known x p s P = after-if (eqb (get_or x 0 0) 2 || eqb (get_or x 7 0) 2) (refuse 6 p) _ s (λ g s'. Imports g P) (λ _. tt)
      (λ _. (λ r. absurd (omega arith), tt))

  -- a field whose rule is no import's
  other-known : (t : ℕ) (x : List ℕ) (cs : Fields) (P : List ℕ → Type 0) (r : Rule) → rule_for t ≡ r → (r ≡ import → ⊥) →
      ImportsParts (parts_for t) cs P → Imports (field t x cs) P
  other-known t x cs P r w d h = (λ q. absurd (rule-not-import t r w d q), h)

  declared-known : (t : ℕ) (x : List ℕ) (cs : Fields) (p : ℕ) (s : State) (P : List ℕ → Type 0) → t ≡ 0x42 → ImportsParts (parts_for t) cs P →
      After (declarator e cs p s) (λ ds s'. Imports (field t x ds) P)
  unfolding parts_for
  declared-known t x cs p s P q h =
      rw q
      (declarator-value e (λ ds. Imports (field 0x42 x ds) P) cs p s (λ r. absurd (omega arith), rw q at h)
      (λ a i rest n l w v. (λ r. absurd (omega arith), initialised a i rest n l v (subst (λ (ds : Fields). ImportsAll ds P) w (rw q at h)))))
    where
      initial : (i : Field) (n : ℕ) (l : List ℕ) → required e i ≡ Some l → Imports i P → Imports (with_callee n i) P
      initial (field t x cs) n l v h = with_callee-imports e n t x cs l P v h.1

      initialised : (a i : Field) (rest : Fields) (n : ℕ) (l : List ℕ) → required e i ≡ Some l → ImportsAll (more a (more i rest)) P →
          ImportsAll (more a (more (with_callee n i) rest)) P
      initialised a i rest n l v h = (h.0, (initial i n l v h.1.0, h.1.1))

  -- a rule other than an import's adds no import
  rule-known : (r : Rule) (t : ℕ) (x : List ℕ) (cs : Fields) (object : Bool) (p : ℕ) (s : State) → rule_for t ≡ r → (r ≡ import → ⊥) →
      (P : List ℕ → Type 0) → ImportsParts (parts_for t) cs P →
      After (after r e t x cs object p s) (λ g s'. Imports g P)
  unfolding after
  rule-known import t x cs object p s w d P h = absurd (d refl)
  rule-known export t x cs object p s w d P h = exported-known x p s P
  rule-known declare t x cs object p s w d P h =
      after-bind (declarator e cs p s) _ (λ ds s'. Imports (field t x ds) P) (λ g s'. Imports g P)
      (declared-known t x cs p s P (rule-tag t declare w) h) λ ds s i. i
  rule-known express t x cs object p s w d P h =
      first-expression e (λ g. Imports g P) e.pass k (field t x cs) object p s
      (other-known t x cs P express w d h, λ n l v. with_callee-imports e n t x cs l P v h)
  rule-known plain t x cs object p s w d P h = other-known t x cs P plain w d h

  abbrev AnyLiteral : List ℕ → Type 0
  AnyLiteral x = Unit {0}

  rule-grows : (r : Rule) (t : ℕ) (x : List ℕ) (cs : Fields) (object : Bool) (p : ℕ) (s : State) →
      After (after r e t x cs object p s) (λ g s'. Grown (sources_of s.collected) s')
  rule-grows r t x cs object p s =
      let steps = grown-steps e AnyLiteral (sources_of s.collected) k in
      after-keeps e (Grown (sources_of s.collected)) steps.common AnyLiteral steps.one steps.two r t x cs object p s (λ q. tt) (λ a w. w)

  other-rule : (r : Rule) (t : ℕ) (x : List ℕ) (cs : Fields) (object : Bool) (p : ℕ) (s : State) → rule_for t ≡ r → (r ≡ import → ⊥) →
      ImportsParts (parts_for t) cs (KnownIn s) →
      After (after r e t x cs object p s) (λ g s'. Imports g (KnownIn s'))
  other-rule r t x cs object p s w d h =
      after-weaken (after r e t x cs object p s) (λ g s'. Imports g (KnownIn s) × Grown (sources_of s.collected) s')
      (λ g s'. Imports g (KnownIn s'))
      (λ g s' i. imports-weaken g (KnownIn s) (KnownIn s') (λ x. grow s s' x i.1) i.0)
      (after-both (after r e t x cs object p s) (λ g s'. Imports g (KnownIn s)) (λ g s'. Grown (sources_of s.collected) s')
      (rule-known r t x cs object p s w d (KnownIn s) h) (rule-grows r t x cs object p s))

  after-known : (r : Rule) (t : ℕ) (x : List ℕ) (cs : Fields) (object : Bool) (p : ℕ) (s : State) → rule_for t ≡ r →
      ImportsParts (parts_for t) cs (KnownIn s) →
      After (after r e t x cs object p s) (λ g s'. Imports g (KnownIn s'))
  unfolding after
  after-known import t x cs object p s w h = after_import-known e.pass k x cs p s
  after-known export t x cs object p s w h = other-rule export t x cs object p s w (λ q. let z : ◌≡◌ {A = ℕ} 0 1 = cc in omega arith) h
  after-known declare t x cs object p s w h = other-rule declare t x cs object p s w (λ q. let z : ◌≡◌ {A = ℕ} 0 1 = cc in omega arith) h
  after-known express t x cs object p s w h = other-rule express t x cs object p s w (λ q. let z : ◌≡◌ {A = ℕ} 0 1 = cc in omega arith) h
  after-known plain t x cs object p s w h = other-rule plain t x cs object p s w (λ q. let z : ◌≡◌ {A = ℕ} 0 1 = cc in omega arith) h

  -- one field, then the rest of a row
  row-known : (m : Act Field) (n : Act Fields) (s : State) (P : Field → (List ℕ → Type 0) → Type 0) (R : Fields → (List ℕ → Type 0) → Type 0) →
      ((g : Field) (gs : Fields) (A : List ℕ → Type 0) → P g A → ImportsAll gs A → R (more g gs) A) →
      ((g : Field) (A B : List ℕ → Type 0) → ((x : List ℕ) → A x → B x) → P g A → P g B) →
      After (m s) (λ g s'. P g (KnownIn s')) →
      ((s : State) → After (n s) (λ gs s'. ImportsAll gs (KnownIn s') × Grown (sources_of s.collected) s')) →
      After (onto (m s) (λ r. onto (n r.1) (λ q. give (more r.0 q.0) q.1))) (λ gs s'. R gs (KnownIn s'))
  row-known m n s P R join weak h i =
      after-bind (m s) _ (λ g s'. P g (KnownIn s')) (λ gs s'. R gs (KnownIn s')) h λ g s₁ a.
      after-bind (n s₁) _ (λ gs s'. ImportsAll gs (KnownIn s') × Grown (sources_of s₁.collected) s') (λ gs s'. R gs (KnownIn s')) (i s₁) λ gs s₂ b.
      join g gs (KnownIn s₂) (weak g (KnownIn s₁) (KnownIn s₂) (λ x. grow s₁ s₂ x b.1) a) b.0

  all-grows : (fs : Fields) (object : Bool) (p : ℕ) (s : State) → After (walk_all fs e object p s) (λ gs s'. Grown (sources_of s.collected) s')
  all-grows fs object p s =
      walk_all-keeps e AnyLiteral (Grown (sources_of s.collected)) (grown-steps e AnyLiteral (sources_of s.collected) k) fs object p s
      (imports-any-all fs AnyLiteral (λ x. tt)) (λ a w. w)

  rest-known : (fs : Fields) (object : Bool) (p : ℕ) (s : State) → After (walk_all fs e object p s) (λ gs s'. ImportsAll gs (KnownIn s')) →
      After (walk_all fs e object p s) (λ gs s'. ImportsAll gs (KnownIn s') × Grown (sources_of s.collected) s')
  rest-known fs object p s h = after-both (walk_all fs e object p s) (λ gs s'. ImportsAll gs (KnownIn s'))
      (λ gs s'. Grown (sources_of s.collected) s') h (all-grows fs object p s)

  parts-known : (v : Parts) (cs : Fields) (object : Bool) (p : ℕ) (s : State) →
      ((b : Bool) → After (walk_all cs e b p s) (λ gs s'. ImportsAll gs (KnownIn s'))) →
      After (walk_member cs e p s) (λ gs s'. ImportsAll gs (KnownIn s')) → After (walk_assignment cs e object p s)
      (λ gs s'. ImportsAssignment gs (KnownIn s')) →
      After (walk_parts v cs e object p s) (λ ds s'. ImportsParts v ds (KnownIn s'))
  parts-known unwalked cs object p s all mem asg = tt
  parts-known member cs object p s all mem asg = mem
  parts-known super cs object p s all mem asg = all false
  parts-known assignment cs object p s all mem asg = asg
  parts-known children cs object p s all mem asg = all object

  mutual
    unfolding walk

    pub walk-known : (f : Field) (object : Bool) (p : ℕ) (s : State) → After (walk f e object p s) (λ g s'. Imports g (KnownIn s'))
    walk-known (field t x cs) object p s =
        after-bind (walk_parts (parts_for t) cs e object (inside p x) (enter t s)) _ (λ ds s'. ImportsParts (parts_for t) ds (KnownIn s'))
        (λ g s'. Imports g (KnownIn s'))
        (parts-known (parts_for t) cs object (inside p x) (enter t s) (λ b. walk_all-known cs b (inside p x) (enter t s))
        (walk_member-known cs (inside p x) (enter t s)) (walk_assignment-known cs object (inside p x) (enter t s))) λ ds s h.
        after-known (rule_for t) t x ds object p s refl h

    pub walk_all-known : (fs : Fields) (object : Bool) (p : ℕ) (s : State) → After (walk_all fs e object p s) (λ gs s'. ImportsAll gs (KnownIn s'))
    walk_all-known none object p s = tt
    walk_all-known (more f fs) object p s =
        row-known (walk f e object p) (walk_all fs e object (p + size f)) s Imports ImportsAll (λ g gs A a b. (a, b))
        (λ g A B w a. imports-weaken g A B w a) (walk-known f object p s)
        (λ s. rest-known fs object (p + size f) s (walk_all-known fs object (p + size f) s))

    walk_member-known : (fs : Fields) (p : ℕ) (s : State) → After (walk_member fs e p s) (λ gs s'. ImportsAll gs (KnownIn s'))
    walk_member-known none p s = tt
    walk_member-known (more f fs) p s =
        row-known (walk f e true p) (walk_all fs e false (p + size f)) s Imports ImportsAll (λ g gs A a b. (a, b))
        (λ g A B w a. imports-weaken g A B w a) (walk-known f true p s)
        (λ s. rest-known fs false (p + size f) s (walk_all-known fs false (p + size f) s))

    walk_assignment-known : (fs : Fields) (object : Bool) (p : ℕ) (s : State) →
        After (walk_assignment fs e object p s) (λ gs s'. ImportsAssignment gs (KnownIn s'))
    walk_assignment-known none object p s = tt
    walk_assignment-known (more f fs) object p s =
        row-known (walk_target f e p) (walk_all fs e object (p + size f)) s ImportsTarget ImportsAssignment (λ g gs A a b. (a, b))
        (λ g A B w a. imports-weaken-target g A B w a) (walk_target-known f p s)
        (λ s. rest-known fs object (p + size f) s (walk_all-known fs object (p + size f) s))

    walk_target-known : (f : Field) (p : ℕ) (s : State) → After (walk_target f e p s) (λ g s'. ImportsTarget g (KnownIn s'))
    walk_target-known (field t x cs) p s =
        after-bind (walk_member cs e (inside p x) s) _ (λ gs s'. ImportsAll gs (KnownIn s')) (λ g s'. ImportsTarget g (KnownIn s'))
        (walk_member-known cs (inside p x) s) λ ds s h. h

  -- every import of the tree that the first pass leaves is external or has its source collected
  pub walk_module-known : (items : Fields) (s : State) →
      After (walk_module e items s) (λ gs s'. ImportsAll gs (Known e.externals (sources_of s'.collected)))
  unfolding walk_module
  walk_module-known items s =
      after-bind (walk_all items e false 3 (set_top true s)) _ (λ gs s'. ImportsAll gs (KnownIn s')) (λ gs s'. ImportsAll gs (KnownIn s'))
      (walk_all-known items false 3 (set_top true s)) λ gs s h.
      imports-keep stays gs (KnownIn s) h
