-- An import in the first pass: external, unresolved or resolved.
use Rattle.std.specs.Prelude.{Option, None, Some, Result, Ok, Err}
use Prim.Native.Nat.{ℕ, ◌+◌, ◌*◌, ◌≤◌}
use native.Mathlib.Omega.{arith}
use mathlib.Core.Path.{◌≡◌, refl, sym, ap, ap₂, subst, ◌∙◌}
use mathlib.Core.Bool.{Bool, true, false, cond}
use mathlib.Core.List.{List, ◌++◌, append-nil}
use lib.ListN.{length, length-set}
use lib.Seq.{slice, length-slice}
use Rattle.writer.specs.Bytes.{framed}
use Rattle.writer.specs.Wrote.{Wrote, closed}
use Rattle.writer.proofs.Wrote.{wrote-then, wrote-as, wrote-field}
use Rattle.scope.specs.Id.{export}
use Rattle.scope.specs.declared.id.ModuleId.{ModuleId}
use Rattle.tree.specs.Layout.{two, value_of}
use Rattle.tree.specs.Tree.{Field, field, Fields, none, more, fixed_of, parts_of, encode, encodes, size}
use Rattle.tree.specs.Grammar.{rule_of}
use Rattle.tree.specs.Rows.{tree_of}
use Rattle.tree.specs.declared.row.Part.{Part}
use Rattle.tree.proofs.PartLaws.{part_tag}
use Rattle.tree.specs.Standing.{row_at}
use Rattle.tree.specs.Within.{Formed}
use Rattle.tree.proofs.TreeLaws.{content-size}
use Rattle.metadata.specs.Metadata.{append, with_metadata}
use Rattle.metadata.proofs.EncodeLaws.{encodes-append, framed-field}
use Rattle.inputs.specs.Lists.{among, mapped}
use Rattle.inputs.specs.Fields.{has, keep, find_field, inside}
use Rattle.inputs.specs.Outcome.{Outcome, done, onto}
use Rattle.extraction_rules.specs.State.{State, Setting}
use Rattle.extraction_rules.specs.First.{external, module_for, note_all, note_specifiers, specifiers_in, attributes_in, attributes_of, with_context, collect, import_first}
use Rattle.extraction_rules.proofs.OutcomeLaws.{after-done}
use Rattle.extraction_rules.proofs.ShapeLaws.{ShapedAll, formed-shaped-all}
use Rattle.extraction_rules.proofs.KeepLaws.{keep-all, keep-meets, keep-specifiers}
use Rattle.state.specs.Cells.{Env, Shows, count_namespaces, namespaces_in}
use Rattle.state.specs.Does.{Says, Gave, Resolves}
use Rattle.scope.specs.declared.TooManyFiles.{TooManyFiles}
use Rattle.steps.specs.Step.{ReadAt, Reads, Step, Steps, Begun}
use Rattle.steps.specs.Refusal.{refusal}
use Rattle.steps.specs.Refusal.{Refusal}
use Rattle.steps.specs.declared.Why.TheVariants.{TooManyFiles as too-many}
use Rattle.steps.proofs.SoundLaws.{read-formed, read-size}
use Rattle.steps.proofs.StepsLaws.{steps-done, steps-refused}
use Rattle.imports.specs.Parts.{Ends, Behind, Attributes, Collected, import_on, import_with}
use Rattle.imports.proofs.HeadLaws.{Headed, head-external, head-in, head-fixed, head-parts, head-tree, head-row, head-copied, head-begun, head-stays}
use Rattle.imports.proofs.NoteAllLaws.{NotedAll}
use Rattle.imports.proofs.CountLaws.{namespaces-size, parts-again, SameAll, specifiers-same, module_for-collects}

-- ---- What is kept

keep-again : (p : Field → Bool) (fs : Fields) → keep p (keep p fs) ≡ keep p fs
keep-again p fs = keep-all p (keep p fs) (keep-meets p fs)

find-kept : (p : Field → Bool) (fs : Fields) → find_field p (keep p fs) ≡ find_field p fs
unfolding find_field keep
find-kept p none = refl
find-kept p (more f fs) = by (p f) refl (find-kept p fs)
  where
    by : (b : Bool) → p f ≡ b → find_field p (keep p fs) ≡ find_field p fs → find_field p (cond b (more f (keep p fs)) (keep p fs)) ≡ cond b (Some f) (find_field p fs)
    by true q h = ap (λ (c : Bool). cond c (Some f) (find_field p (keep p fs))) q
    by false q h = h

-- a field whose last part is one more
pub last-written : (x : List ℕ) (fs : Fields) (f : Field) → framed 0x10 (x ++ (encodes fs ++ encode f)) ≡ encode (field 0x10 x (append fs (more f none)))
unfolding encode
last-written x fs f =
    ap (λ (b : List ℕ). framed 0x10 (x ++ (encodes fs ++ b))) (sym (append-nil (encode f)))
    ∙ ap (λ (b : List ℕ). framed 0x10 (x ++ b)) (sym (encodes-append fs (more f none))) ∙ framed-field 0x10 x (append fs (more f none))

module _ {part : Part} {from : ℕ} (hd : Headed part from) where
  abbrev X : List ℕ
  X = fixed_of (tree_of part)

  abbrev CS : Fields
  CS = parts_of (tree_of part)

  abbrev Ready : Env → State → Type 0
  Ready x u = ReadAt part.bytes.now part.at part.stop × Reads x part.bytes.now × (9 * namespaces_in u.collected ≤ part.at) × (part.stop ≤ 32768)

  -- ---- The parts, and room for their namespaces

  shaped : ReadAt part.bytes.now part.at part.stop → ShapedAll CS (rule_of 0x10)
  shaped r = formed-shaped-all CS (rule_of 0x10) (subst Formed (head-tree hd) (read-formed r part.of_bytes)).2

  literal-length : length X ≡ 6
  literal-length =
      let i = head-in hd in
      let k = i.0 in
      ap length (head-fixed hd) ∙ length-slice (part.at + 3) from part.bytes.now i.2 ∙ omega arith

  inside-is : inside part.at X ≡ from
  inside-is = let l = literal-length in let k = (head-in hd).0 in omega arith

  room-left : (n : ℕ) → ReadAt part.bytes.now part.at part.stop → 9 * n ≤ part.at → part.stop ≤ 32768 → n + count_namespaces CS ≤ 3641
  room-left n r a b =
      let z = ap size (head-tree hd) ∙ content-size 0x10 X CS in
      let y = read-size r part.of_bytes in
      let l = literal-length in
      let m = namespaces-size CS (rule_of 0x10) (shaped r) in
      omega arith

  -- ---- What is noted and written

  abbrev noting_all : Option ℕ → State → Outcome (Fields × State)
  noting_all n u = note_specifiers n (specifiers_in CS) (inside part.at X) u

  -- the import is written with its specifiers
  abbrev Puts : Option ℕ → List ℕ → List ℕ → ℕ → List ℕ → List ℕ → Step → Type 0
  Puts n t out o t' out' k = Steps (import_with n X CS) (λ x u. ReadAt part.bytes.now part.at part.stop) (λ _. noting_all n) t out o t' out' k

  unresolved-bytes : ReadAt part.bytes.now part.at part.stop → encode (field 0x10 X CS) ≡ import_with None X CS (specifiers_in CS)
  unfolding with_context
  unresolved-bytes r = ap (λ (fs : Fields). encode (field 0x10 X fs)) (sym (parts-again CS (shaped r)))

  pub put-unresolved : {t out out' : List ℕ} {o p : ℕ} → Wrote out o (slice part.at part.stop part.bytes.now) out' p → Puts None t out o t out' (Ok p)
  put-unresolved w =
      steps-done w.size (λ x u v r. record {
        value = specifiers_in CS;
        state = u;
        is = refl;
        wrote = wrote-as (head-copied hd r w) (unresolved-bytes r);
        shows = v;
      })

  resolved-is : (n : ℕ) (u : State) → noting_all (Some n) u ≡ note_all n (specifiers_in (row_at part.bytes.now from part.stop)) from u
  resolved-is n u = ap₂ (λ (fs : Fields) (p : ℕ). note_all n (specifiers_in fs) p u) (head-parts hd) inside-is

  abbrev contextual : ℕ → Fields → Field
  contextual n old = with_metadata (record { injected = false; context = Some (export n) }) old

  context-is : (n : ℕ) → with_context (Some n) CS ≡ more (contextual n (attributes_of (find_field (has 0x2F) CS))) none
  unfolding with_context
  context-is n = refl

  module _ {a : ℕ} (v : Ends part.bytes.now from part.stop a) (r : ReadAt part.bytes.now part.at part.stop) where
    attributes-at : row_at part.bytes.now a part.stop ≡ attributes_in (row_at part.bytes.now from part.stop)
    attributes-at = sym (v.attributes (head-row hd r))

    behind-is : Behind part.bytes.now a part.stop
    behind-is =
        record {
          row = v.row (head-row hd r);
          only = ap attributes_in attributes-at ∙ keep-again (has 0x2F) (row_at part.bytes.now from part.stop) ∙ sym attributes-at;
        }

    old-same : attributes_of (find_field (has 0x2F) (row_at part.bytes.now a part.stop)) ≡ attributes_of (find_field (has 0x2F) CS)
    old-same =
        ap (λ (fs : Fields). attributes_of (find_field (has 0x2F) fs)) attributes-at ∙ ap attributes_of (find-kept (has 0x2F) (row_at part.bytes.now from part.stop))
        ∙ ap (λ (fs : Fields). attributes_of (find_field (has 0x2F) fs)) (sym (head-parts hd))

  module _ (n : ℕ) {t l k t' j : List ℕ} {o d : ℕ} {y : Step} (bg : Begun l o (part_tag part) (slice (part.at + 3) from part.bytes.now) k d)
      (nt : NotedAll n part.bytes.now from part.stop t k d y t' j) where
    begun-here : Begun l o 0x10 X k d
    begun-here = head-begun hd bg

    pub put-refused : {e : Refusal} → y ≡ Err e → Puts (Some n) t l o t' j (Err e)
    put-refused {e} f =
        steps-refused (nt.size ∙ begun-here.fixed.size ∙ ap length begun-here.opened.tag ∙ length-set l o 0x10) (λ x u b r.
        resolved-is n u ∙ nt.turned e f u b (head-row hd r))

    pub put-resolved : {q a p : ℕ} {h out' : List ℕ} → y ≡ Ok q → Ends part.bytes.now from part.stop a → Attributes part.bytes.now a part.stop (λ old. encode (contextual n old)) j q h p →
        out' ≡ closed h o p → length out' ≡ length l → Puts (Some n) t l o t' out' (Ok p)
    put-resolved {q} f v w cl sz =
        steps-done sz (λ x u b r.
        let m = nt.made q f u b (head-row hd r) in
        let old = attributes_of (find_field (has 0x2F) CS) in
        record {
          value = m.value;
          state = m.state;
          is = resolved-is n u ∙ m.is;
          wrote =
              wrote-as (wrote-field begun-here.opened
              (wrote-then begun-here.fixed
              (wrote-then m.wrote (wrote-as (w.is (behind-is v r)) (ap (λ (x : Fields). encode (contextual n x)) (old-same v r))))) cl)
              (last-written X m.value (contextual n old) ∙ ap (λ (x : Fields). encode (field 0x10 X (append m.value x))) (sym (context-is n)));
          shows = m.shows;
        })

  -- ---- And then collected

  abbrev onward : Option ℕ → Fields → Outcome (Unit {0} × State) → Outcome (Field × State)
  onward n fs m = onto m (λ r. done (field 0x10 X (append fs (with_context n CS)), r.1))

  abbrev rest_of : Option ℕ → Outcome (Fields × State) → Outcome (Field × State)
  rest_of n m = onto m (λ r. onward n r.0 (collect (record { literal = X; specifiers = r.0 }) part.at r.1))

  on-is : (n : Option ℕ) (u : State) → import_on n X CS part.at u ≡ rest_of n (noting_all n u)
  unfolding import_on
  on-is n u = refl

  module _ (n : Option ℕ) {t out t1 out1 : List ℕ} {o : ℕ} where
    pub put-turned : {e : Refusal} → Puts n t out o t1 out1 (Err e) → Steps encode Ready (λ _. import_on n X CS part.at) t out o t1 out1 (Err e)
    put-turned {e} w = steps-refused w.size (λ x u b r. on-is n u ∙ ap (rest_of n) (w.turned e refl u b r.0))

    pub put-collected : {p : ℕ} {t2 : List ℕ} {z : Step} → Puts n t out o t1 out1 (Ok p) → Collected part.bytes.now X CS part.at t1 t2 p z →
        Steps encode Ready (λ _. import_on n X CS part.at) t out o t2 out1 z
    put-collected {p} w g =
        record {
          size = w.size;
          made = λ i d u b r.
              let m = w.made p refl u b r.0 in
              let same = after-done (noting_all n u) (SameAll u (specifiers_in CS)) (m.value, m.state) m.is (specifiers-same n (specifiers_in CS) (inside part.at X) u) in
              let e₁ : keep (has 0x22) m.value ≡ keep (has 0x22) CS = same.0 ∙ keep-specifiers CS in
              let e₂ : namespaces_in m.state.collected ≡ namespaces_in u.collected = ap namespaces_in same.1 in
              let most = room-left (namespaces_in u.collected) r.0 r.2 r.3 in
              let did = g.made i d m.state m.value e₁ (omega arith) m.shows r.1 in
              record {
                value = field 0x10 X (append m.value (with_context n CS));
                state = did.state;
                is = on-is n u ∙ ap (rest_of n) m.is ∙ ap (onward n m.value) did.is;
                wrote = subst (λ (x : ℕ). Wrote out o (import_with n X CS m.value) out1 x) (sym (g.place i d)) m.wrote;
                shows = did.shows;
              };
          turned = λ e d u b r.
              let m = w.made p refl u b r.0 in
              on-is n u ∙ ap (rest_of n) m.is ∙ ap (onward n m.value) (g.turned e d m.state m.value m.shows r.1);
        }

  -- ---- By its module

  abbrev then-on : Outcome (Option ℕ × State) → Outcome (Field × State)
  then-on m = onto m (λ r. import_on r.0 X CS part.at r.1)

  external-is : (E : Setting) (u : State) → external E X ≡ true → import_first E X CS part.at u ≡ done (field 0x10 X CS, u)
  unfolding import_first
  external-is E u q = rw q refl

  module-is : (E : Setting) (u : State) (n : ℕ) → two n ≡ value_of X → external E X ≡ false → import_first E X CS part.at u ≡ then-on (module_for E (two n) part.at u)
  unfolding import_first import_on
  module-is E u n c q = rw q (ap (λ (l : List ℕ). then-on (module_for E l part.at u)) (sym c))

  module _ (n : ℕ) (source : two n ≡ value_of X) {a : Bool} {t : List ℕ} (ext : Says (λ y. among (two n) y.externals) t a) where
    outside : (b : Bool) {x : Env} (u : State) → Shows x t u → a ≡ b → external x.setting X ≡ b
    outside b {x} u k q = head-external hd x.setting n source (ext.is u k) q

    pub first-external : {out out' : List ℕ} {o p : ℕ} → a ≡ true → Wrote out o (slice part.at part.stop part.bytes.now) out' p →
        Steps encode Ready (λ x. import_first x.setting X CS part.at) t out o t out' (Ok p)
    first-external q w = head-stays hd w (λ x u h. h.0) (λ x u k h. external-is x.setting u (outside true u k q))

    module _ (own : a ≡ false) where
      on-given : (i : Option ℕ) {m t' out out' : List ℕ} {o : ℕ} {k : Step} → ((x : Env) (u : State) → Shows x t u → Gave x (module_for x.setting (two n) part.at u) i m) →
          Steps encode Ready (λ _. import_on i X CS part.at) m out o t' out' k → Steps encode Ready (λ x. import_first x.setting X CS part.at) t out o t' out' k
      on-given i {m} f w =
          record {
            size = w.size;
            made = λ p d {x} u b r.
                let g = f x u b in
                let v = w.made p d g.state g.shows (still x u g.state g.is r) in
                record {
                  value = v.value;
                  state = v.state;
                  is = module-is x.setting u n source (outside false u b own) ∙ ap then-on g.is ∙ v.is;
                  wrote = v.wrote;
                  shows = v.shows;
                };
            turned = λ e d {x} u b r.
                let g = f x u b in
                module-is x.setting u n source (outside false u b own) ∙ ap then-on g.is ∙ w.turned e d g.state g.shows (still x u g.state g.is r);
          }
        where
          still : (x : Env) (u v : State) → module_for x.setting (two n) part.at u ≡ done (i, v) → Ready x u → Ready x v
          still x u v q r =
              let z = ap namespaces_in (after-done (module_for x.setting (two n) part.at u) (λ _ s'. s'.collected ≡ u.collected) (i, v) q (module_for-collects x.setting (two n) part.at u)) in
              let b = r.2 in
              (r.0, r.1, omega arith, r.3)

      module _ {m : List ℕ} {y : Result (Option ModuleId) TooManyFiles} (c : Resolves (λ E. module_for E (two n)) t m y) where
        pub first-module : (i : Option ModuleId) {t' out out' : List ℕ} {o : ℕ} {k : Step} → y ≡ Ok i →
            Steps encode Ready (λ _. import_on (mapped (λ j. j.0) i) X CS part.at) m out o t' out' k → Steps encode Ready (λ x. import_first x.setting X CS part.at) t out o t' out' k
        first-module i q w = on-given (mapped (λ j. j.0) i) (λ x u b. c.resolved i q u part.at b) w

        pub first-many : {e : TooManyFiles} {out : List ℕ} {o : ℕ} → y ≡ Err e → Steps encode Ready (λ x. import_first x.setting X CS part.at) t out o m out (Err (refusal too-many part.at))
        first-many {e} q =
            steps-refused refl (λ x u b r.
            module-is x.setting u n source (outside false u b own) ∙ ap then-on (c.full e q u part.at b))
