-- The items one after the other, and the pass that they are.
use Rattle.std.specs.Prelude.{None, Some, Ok, Err}
use Prim.Native.Nat.{ℕ, ◌+◌, ◌*◌, ◌≤◌, ◌<◌}
use native.Mathlib.Omega.{arith}
use mathlib.Core.Path.{◌≡◌, refl, sym, ap, subst, subst₂, ◌∙◌}
use mathlib.Core.Bool.{Bool, true, false, cond}
use mathlib.Core.List.{List}
use lib.Dec.{eqb}
use lib.ListN.{length, get_or}
use borrow.Author.Tests.{eqb-true, eqb-false}
use Rattle.tree.specs.Layout.{Bytes}
use Rattle.tree.specs.Grammar.{rule_of}
use Rattle.tree.specs.Tree.{Field, field, Fields, none, more, tag_of, fixed_of, parts_of, encode, encodes, size, sizes}
use Rattle.tree.specs.Access.{extent_at}
use Rattle.tree.specs.Standing.{tree_at, row_at, Row}
use Rattle.tree.specs.Rows.{GivesPart}
use Rattle.tree.specs.declared.row.Part.{Part}
use Rattle.tree.specs.declared.row.Row.{Row as PartRow}
use Rattle.tree.proofs.AccessLaws.{extent-upto}
use Rattle.tree.proofs.StandingLaws.{row-more, row-none}
use Rattle.tree.proofs.TreeLaws.{content-size}
use Rattle.writer.specs.Wrote.{Opened}
use Rattle.writer.proofs.Wrote.{wrote-none}
use Rattle.metadata.specs.Metadata.{append}
use Rattle.metadata.proofs.EncodeLaws.{encodes-append}
use Rattle.inputs.specs.Outcome.{Outcome, done, refused, onto}
use Rattle.inputs.specs.Fields.{keep}
use Rattle.inputs.proofs.AcceptedLaws.{done-inj, onto-done}
use Rattle.extraction_rules.specs.State.{State, Pass, first, second, Setting, Act, set_top}
use Rattle.extraction_rules.specs.First.{stays, import_first}
use Rattle.extraction_rules.specs.Walk.{after_import, walk, walk_all, walk_module}
use Rattle.extraction_rules.proofs.OutcomeLaws.{After, after-done, after-weaken}
use Rattle.extraction_rules.proofs.ShapeLaws.{Shaped, ShapedAll}
use Rattle.extraction_rules.proofs.ReadableLaws.{item-step}
use Rattle.extraction_rules.proofs.WalkLaws.{ImportsAll}
use Rattle.extraction_rules.proofs.SanityLaws.{Known}
use Rattle.state.specs.Cells.{Env, namespaces_in, sources_in}
use Rattle.state.specs.Does.{Turns}
use Rattle.imports.proofs.CountLaws.{import-brings}
use Rattle.steps.specs.Refusal.{Refusal}
use Rattle.steps.specs.Step.{Step, Steps, Ended}
use Rattle.steps.proofs.SoundLaws.{read-size, row-read, read-tag}
use Rattle.steps.proofs.StepsLaws.{steps-is, steps-give, steps-as, steps-never, steps-changed, steps-field, begun, pair_of, steps-pair, steps-turned}
use Rattle.walking.proofs.RowLaws.{all-more, all-none}
use Rattle.extraction.specs.Passes.{Ready, ItemRead, ItemsRead, item_act, items_act, pass_act}
use Rattle.extraction.proofs.CellsLaws.{item-few, item-sources}
use Rattle.extraction.proofs.ItemLaws.{one-item, import-first, ready-first, ready-second, item-shaped, item-regular, import-walk}

-- ---- The items one after the other

ready-part : (p : Pass) (at end stop : ℕ) (u : State) (K L : Type 0) → stop ≤ end → (K → L) → Ready p at end u K → Ready p at stop u L
ready-part first at end stop u K L h f r = (r.0, let z = r.1 in omega arith)
ready-part second at end stop u K L h f r = f r

field-size : (f : Field) → size f ≡ 3 + (length (fixed_of f) + sizes (parts_of f))
field-size (field t x cs) = content-size t x cs

import-shaped : (f : Field) → tag_of f ≡ 0x10 → Shaped f → ShapedAll (parts_of f) (rule_of 0x10)
import-shaped (field t x cs) q h = subst (λ (n : ℕ). ShapedAll cs (rule_of n)) q h.1

same-state : {b a : Fields} {u v : State} → ◌≡◌ {A = Outcome (Fields × State)} (done (b, u)) (done (a, v)) → u ≡ v
same-state z = ap (λ (p : Fields × State). p.1) (done-inj z)

keep-more : (g : Field) (gs : Fields) → keep stays (more g gs) ≡ append (one-item g) (keep stays gs)
unfolding keep append
keep-more g gs = go (stays g)
  where
    go : (b : Bool) → cond b (more g (keep stays gs)) (keep stays gs) ≡ append (cond b (more g none) none) (keep stays gs)
    go true = refl
    go false = refl

module _ (s : List ℕ) (bytes : Bytes s) (at end : ℕ) (le : at ≤ end) where
  pub items-over : {t out : List ℕ} {o : ℕ} → extent_at s at end ≡ None → Steps encodes (ItemsRead s at end) (λ x. items_act x.setting s at end) t out o t out (Ok o)
  unfolding encode keep
  items-over x =
      steps-give encodes (ItemsRead s at end) (λ x. items_act x.setting s at end) none refl
      (λ y u w. ap (λ (fs : Fields). onto (walk_all fs y.setting false at u) (λ r. done (keep stays r.0, r.1))) (row-none s at end le x)
      ∙ ap (λ (m : Outcome (Fields × State)). onto m (λ r. done (keep stays r.0, r.1))) (all-none false y.setting at u))

  module _ (stop : ℕ) (x : extent_at s at end ≡ Some stop) where
    inside-here : (at + 3 ≤ stop) × (stop ≤ end)
    inside-here = extent-upto s at end le x

    -- the first item
    item-here : {y : Env} {u : State} → ItemsRead s at end y u → ItemRead s at stop y u
    item-here {y} {u} w =
        let r = row-read (rule_of 0x01) le w.fits w.row x in
        let q = (item-step (get_or s at 0) r.1.0 r.1.1).1 in
        record {
          read = r.0;
          tag = r.1.1 ∙ ap Some q;
          reads = w.reads;
          ready =
              ready-part y.setting.pass at end stop u _ _ inside-here.1
              (λ k. (subst (λ (fs : Fields). ImportsAll fs (Known y.setting.externals (sources_in u.collected))) (row-more s at end stop le x) k).0) w.ready;
        }

    -- what the first pass brings
    brought : (e : Setting) (u : State) → e.pass ≡ first → {y : Env} → ItemRead s at stop y u → 9 * namespaces_in u.collected ≤ at →
        After (walk (tree_at s at stop) e false at u) (λ g v. 9 * namespaces_in v.collected ≤ stop)
    brought e u one w k = go (eqb (get_or s at 0) 0x10) refl
      where
        by-import : get_or s at 0 ≡ 0x10 → After (import_first e (fixed_of (tree_at s at stop)) (parts_of (tree_at s at stop)) at u) (λ g v. 9 * namespaces_in v.collected ≤ stop)
        by-import q =
            let n = read-size w.read bytes in
            let i = inside-here.0 in
            let f = tree_at s at stop in
            let m = field-size f in
            after-weaken (import_first e (fixed_of f) (parts_of f) at u) _ (λ g v. 9 * namespaces_in v.collected ≤ stop)
            (λ g v b. let z : 9 * namespaces_in v.collected ≤ stop = omega arith in z)
            (import-brings e (fixed_of f) (parts_of f) at u (import-shaped f (read-tag w.read ∙ q) (item-shaped s bytes at stop w.read)))

        go : (b : Bool) → eqb (get_or s at 0) 0x10 ≡ b → After (walk (tree_at s at stop) e false at u) (λ g v. 9 * namespaces_in v.collected ≤ stop)
        go true q =
            let t = eqb-true (get_or s at 0) 0x10 q in
            subst (λ (m : Outcome (Field × State)). After m (λ g v. 9 * namespaces_in v.collected ≤ stop))
            (sym (import-walk s bytes at stop e w.read t u
            ∙ ap (λ (b : Pass). after_import b e (fixed_of (tree_at s at stop)) (parts_of (tree_at s at stop)) at u) one ∙ import-first e _ _ at u))
            (by-import t)
        go false q =
            let i = inside-here.0 in
            after-weaken (walk (tree_at s at stop) e false at u) _ (λ g v. 9 * namespaces_in v.collected ≤ stop) (λ g v b. let z : 9 * namespaces_in v.collected ≤ stop = omega arith in z)
            (item-few e one (tree_at s at stop) false at u (item-regular s bytes at stop w (eqb-false (get_or s at 0) 0x10 q)))

    -- the others, in the state that the first one leaves
    items-rest : {y : Env} {u v : State} {g : Field} → ItemsRead s at end y u →
        walk (tree_at s at stop) y.setting false at u ≡ done (g, v) → ItemsRead s stop end y v
    items-rest {y} {u} {v} {g} w z =
        let r = row-read (rule_of 0x01) le w.fits w.row x in
        let q = (item-step (get_or s at 0) r.1.0 r.1.1).1 in
        record { inside = inside-here.1; row = subst (Row s stop end) q r.1.2; fits = w.fits; reads = w.reads; ready = here y.setting.pass refl }
      where
        here : (p : Pass) → y.setting.pass ≡ p → Ready y.setting.pass stop end v (ImportsAll (row_at s stop end) (Known y.setting.externals (sources_in v.collected)))
        here first d =
            let k = ready-first at end u (ImportsAll (row_at s at end) (Known y.setting.externals (sources_in u.collected))) d w.ready in
            subst (λ (p : Pass). Ready p stop end v (ImportsAll (row_at s stop end) (Known y.setting.externals (sources_in v.collected)))) (sym d)
            (after-done (walk (tree_at s at stop) y.setting false at u) _ (g, v) z (brought y.setting u d (item-here w) k.0), k.1)
        here second d =
            let k = ready-second at end u (ImportsAll (row_at s at end) (Known y.setting.externals (sources_in u.collected))) d w.ready in
            let n = after-done (walk (tree_at s at stop) y.setting false at u) _ (g, v) z (item-sources y.setting d (tree_at s at stop) false at u) in
            subst (λ (p : Pass). Ready p stop end v (ImportsAll (row_at s stop end) (Known y.setting.externals (sources_in v.collected)))) (sym d)
            (subst (λ (l : List (List ℕ)). ImportsAll (row_at s stop end) (Known y.setting.externals l)) (sym n)
            (subst (λ (fs : Fields). ImportsAll fs (Known y.setting.externals (sources_in u.collected))) (row-more s at end stop le x) k).1)

    -- the row is the first item and the others
    split-items : {y : Env} {u : State} → ItemsRead s at end y u →
        items_act y.setting s at end u ≡ pair_of append (λ x. item_act x.setting s at stop) (λ _ x. items_act x.setting s stop end) y u
    split-items {y} {u} w =
        let r = (item-here w).read in
        let n = read-size r bytes in
        let i = inside-here.0 in
        let z : at + size (tree_at s at stop) ≡ stop = omega arith in
        ap (λ (fs : Fields). onto (walk_all fs y.setting false at u) (λ r. done (keep stays r.0, r.1))) (row-more s at end stop le x)
        ∙ ap (λ (m : Outcome (Fields × State)). onto m (λ r. done (keep stays r.0, r.1))) (all-more false y (tree_at s at stop) (row_at s stop end) at u)
        ∙ ap (λ (p : ℕ). onto (pair_of more (λ x. walk (tree_at s at stop) x.setting false at) (λ _ x. walk_all (row_at s stop end) x.setting false p) y u)
        (λ r. done (keep stays r.0, r.1))) z
        ∙ go (walk (tree_at s at stop) y.setting false at u)
      where
        two : (g : Field) (m : Outcome (Fields × State)) → onto {B = Fields × State} (onto {B = Fields × State} m (λ b. done (more g b.0, b.1))) (λ r. done (keep stays r.0, r.1)) ≡
            onto (onto {B = Fields × State} m (λ r. done (keep stays r.0, r.1))) (λ b. done (append (one-item g) b.0, b.1))
        two g (done b) = ap (λ (fs : Fields). done (fs, b.1)) (keep-more g b.0)
        two g (refused n k) = refl

        go : (m : Outcome (Field × State)) →
            onto {B = Fields × State}
            (onto {B = Fields × State} m (λ a. onto (walk_all (row_at s stop end) y.setting false stop a.1) (λ b. done (more a.0 b.0, b.1))))
            (λ r. done (keep stays r.0, r.1)) ≡
            onto (onto {B = Fields × State} m (λ r. done (one-item r.0, r.1))) (λ a. onto (items_act y.setting s stop end a.1) (λ b. done (append a.0 b.0, b.1)))
        go (done a) = two a.0 (walk_all (row_at s stop end) y.setting false stop a.1)
        go (refused n k) = refl

    pub items-then : {t out t1 out1 t2 out2 : List ℕ} {o p : ℕ} {k : Step} →
        Steps encodes (ItemRead s at stop) (λ x. item_act x.setting s at stop) t out o t1 out1 (Ok p) →
        Steps encodes (ItemsRead s stop end) (λ x. items_act x.setting s stop end) t1 out1 p t2 out2 k →
        Steps encodes (ItemsRead s at end) (λ x. items_act x.setting s at end) t out o t2 out2 k
    items-then one rest =
        steps-as (λ x. items_act x.setting s at end)
        (steps-pair encodes encodes encodes append encodes-append (ItemsRead s at end) (λ _ x. items_act x.setting s stop end) one (λ _. rest) none (λ y u w. item-here w)
        (λ y u w a v z. let d = onto-done (walk (tree_at s at stop) y.setting false at u) _ (a, v) z in items-rest w (d.1 ∙ ap (λ (b : State). done (d.0.0, b)) (same-state d.2))))
        (λ y u w. (w, split-items w))

    pub items-turned : {t out t1 out1 : List ℕ} {o : ℕ} {v : Refusal} → Steps encodes (ItemRead s at stop) (λ x. item_act x.setting s at stop) t out o t1 out1 (Err v) →
        Steps encodes (ItemsRead s at end) (λ x. items_act x.setting s at end) t out o t1 out1 (Err v)
    items-turned one =
        steps-as (λ x. items_act x.setting s at end)
        (steps-turned encodes encodes encodes append encodes-append (ItemsRead s at end) (λ _ x. items_act x.setting s stop end) one (λ y u w. item-here w))
        (λ y u w. (w, split-items w))

-- ---- In a loop, and the whole pass

abbrev pub Passes : PartRow → List ℕ → List ℕ → ℕ → List ℕ → List ℕ → Step → Type 0
Passes r = Steps encodes (ItemsRead r.bytes.now r.at r.end) (λ x. items_act x.setting r.bytes.now r.at r.end)

-- the items before those of r are walked, and what is left makes the whole
pub record Passing (row : PartRow) (t₀ out₀ : List ℕ) (o : ℕ) (t out : List ℕ) (r : PartRow) (to : ℕ) : Type 0 where
  pub size : length out ≡ length out₀
  pub rest : (t' out' : List ℕ) (k : Step) → Passes r t out to t' out' k → Passes row t₀ out₀ o t' out' k

pub passing-start : (row : PartRow) {t out : List ℕ} {o : ℕ} → Passing row t out o t out row o
passing-start row = record { size = refl; rest = λ t' out' k m. m }

module _ {row : PartRow} {t₀ out₀ t out : List ℕ} {o to : ℕ} (r r' : PartRow) (l : Passing row t₀ out₀ o t out r to) where
  pub passing-over : GivesPart r None r' → Passes row t₀ out₀ o t out (Ok to)
  passing-over g = l.rest t out (Ok to) (items-over r.bytes.now r.of_bytes r.at r.end r.inside.0 g.0)

  module _ (p : Part) (g : GivesPart r (Some p) r') {t1 out1 : List ℕ} {k : Step}
      (m : Steps encodes (ItemRead p.bytes.now p.at p.stop) (λ x. item_act x.setting p.bytes.now p.at p.stop) t out to t1 out1 k) where
    given : Steps encodes (ItemRead r.bytes.now r.at p.stop) (λ x. item_act x.setting r.bytes.now r.at p.stop) t out to t1 out1 k
    given = subst₂ (λ (s : List ℕ) (n : ℕ). Steps encodes (ItemRead s n p.stop) (λ x. item_act x.setting s n p.stop) t out to t1 out1 k) g.5 g.1 m

    others : {t' out' : List ℕ} {n : ℕ} {j : Step} → Passes r' t1 out1 n t' out' j →
        Steps encodes (ItemsRead r.bytes.now p.stop r.end) (λ x. items_act x.setting r.bytes.now p.stop r.end) t1 out1 n t' out' j
    others {t' = t'} {out' = out'} {n = n} {j = j} h =
        subst (λ (e : ℕ). Steps encodes (ItemsRead r.bytes.now p.stop e) (λ x. items_act x.setting r.bytes.now p.stop e) t1 out1 n t' out' j) g.4
        (subst₂ (λ (s : List ℕ) (a : ℕ). Steps encodes (ItemsRead s a r'.end) (λ x. items_act x.setting s a r'.end) t1 out1 n t' out' j) g.2 g.3 h)

    pub passing-more : {n : ℕ} → k ≡ Ok n → Passing row t₀ out₀ o t1 out1 r' n
    passing-more z =
        record {
          size = m.size ∙ l.size;
          rest = λ t' out' j h. l.rest t' out' j (items-then r.bytes.now r.of_bytes r.at r.end r.inside.0 p.stop g.0 (steps-is given z) (others h));
        }

    pub passing-turned : {v : Refusal} → k ≡ Err v → Passes row t₀ out₀ o t1 out1 (Err v)
    passing-turned z = l.rest t1 out1 _ (items-turned r.bytes.now r.of_bytes r.at r.end r.inside.0 p.stop g.0 (steps-is given z))

-- bytes that are no module cannot have been read
pub pass-short : (act : Env → Act Field) {s : List ℕ} {t out : List ℕ} {o : ℕ} (k : Step) → length s < 3 →
    Steps encode (ItemsRead s 3 (length s)) act t out o t out k
pass-short act {s} k h = steps-never encode (ItemsRead s 3 (length s)) act k (λ x u w. let i = w.inside in omega arith)

ready-top : (p : Pass) (at end : ℕ) (u : State) (K : Type 0) → Ready p at end u K → Ready p at end (set_top true u) K
ready-top first at end u K r = r
ready-top second at end u K r = r

-- the items, written into a module
pub pass-made : {s : List ℕ} {t t1 t2 out out1 out2 out3 : List ℕ} {p : ℕ} (r : Step) {k : Step} →
    Turns (set_top true) t t1 → Opened out 0 0x01 out1 p →
    Steps encodes (ItemsRead s 3 (length s)) (λ x. items_act x.setting s 3 (length s)) t1 out1 p t2 out2 r → Ended 0 r out2 out3 k →
    Steps encode (ItemsRead s 3 (length s)) (λ x. pass_act x.setting s) t out 0 t2 out3 k
unfolding walk_module
pass-made {s} r g b m n =
    steps-as (λ x. pass_act x.setting s)
    (steps-changed (set_top true) g (steps-field r (begun b wrote-none) m n)
    (λ x u w. record
    { inside = w.inside; row = w.row; fits = w.fits; reads = w.reads; ready = ready-top x.setting.pass 3 (length s) u _ w.ready }))
    (λ x u w. (w, refl))
