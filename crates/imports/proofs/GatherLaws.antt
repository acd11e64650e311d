-- A record gets the specifiers of an import: of these the array shows the namespaces alone, so only they are gathered.
use Rattle.std.specs.Prelude.{Option, None, Some, Result, Ok, Err}
use Prim.Native.Nat.{ℕ, ◌+◌, ◌≤◌, ◌<◌}
use native.Mathlib.Omega.{arith}
use mathlib.Core.Path.{◌≡◌, refl, sym, ap, subst, ◌∙◌}
use mathlib.Core.Bool.{Bool, true, false, cond}
use mathlib.Core.List.{List, [], ◌∷◌}
use lib.ListN.{length}
use lib.Dec.{leb}
use Rattle.tree.specs.Tree.{Field, Fields, none, more, fixed_of}
use Rattle.tree.specs.Rows.{GivesPart, tree_of, fields_of}
use Rattle.tree.specs.declared.row.Part.{Part}
use Rattle.tree.specs.declared.row.Row.{Row}
use Rattle.tree.proofs.PartLaws.{fields-none, fields-more}
use Rattle.scope.specs.declared.id.Id.{Id}
use Rattle.metadata.specs.Metadata.{append}
use Rattle.inputs.specs.Fields.{has, keep}
use Rattle.inputs.specs.Outcome.{Outcome, done, refused}
use Rattle.inputs.proofs.AcceptedLaws.{done-refused as not_done}
use Rattle.tree.specs.Layout.{two, id_at, same, value_of}
use Rattle.extraction_rules.specs.State.{Record, State, set_collected, change, refuse}
use Rattle.extraction_rules.specs.First.{collect_in, collect}
use Rattle.extraction_rules.proofs.KeepLaws.{keep-none, keep-yes, keep-no}
use Rattle.state.specs.Cells.{Env, records, held, Shows, id_by, literal_by, Valued, flag, count_namespaces, namespaces_in}
use Rattle.state.specs.Does.{Says, Did, place_in, extend_at, Extends, Collects}
use Rattle.state.specs.declared.Literal.{Literal}
use Rattle.state.proofs.CollectLaws.{length-extend}
use Rattle.state.proofs.ExtendLaws.{extended-other}
use Rattle.state.proofs.NamespaceLaws.{namespaces-extended, extend-more, extend-none}
use Rattle.state.proofs.RecordLaws.{held-shown}
use Rattle.state.specs.declared.TableFull.{TableFull}
use Rattle.steps.specs.Step.{ident_by, Reads}
use Rattle.steps.specs.Refusal.{refusal}
use Rattle.steps.specs.declared.Why.TheVariants.{TableFull as no-room}
use Rattle.steps.proofs.StepsLaws.{done-refused, done-same, refused-as}
use Rattle.imports.specs.Parts.{namespace_in, Gathers, Extending, Gathering, Collected}

-- ---- Specifiers that are no namespaces

pub count-more : (f : Field) (fs : Fields) → count_namespaces (more f fs) ≡ flag (has 0x22 f) + count_namespaces fs
unfolding count_namespaces
count-more f fs = refl

no-more : {A : Type 0} {f : Field} {fs : Fields} → more f fs ≡ none → A
no-more e = absurd (let z : ◌≡◌ {A = ℕ} 0 1 = cc in omega arith)

-- one more of them, and then the others
extend-then : {y : Env} {t : List ℕ} (i : ℕ) (f : Field) (fs : Fields) (s : State) → Shows y t (set_collected (extend_at i fs (extend_at i (more f none) s.collected)) s) →
    Shows y t (set_collected (extend_at i (more f fs) s.collected) s)
extend-then {y} {t} i f fs s w = subst (λ (l : List Record). Shows y t (set_collected l s)) (sym (extend-more i f fs s.collected)) w

others-shown : {y : Env} {t : List ℕ} (i : ℕ) (fs : Fields) (s : State) → keep (has 0x22) fs ≡ none → i < length s.collected → Shows y t s →
    Shows y t (set_collected (extend_at i fs s.collected) s)
others-shown {y} {t} i none s e b w = subst (λ (l : List Record). Shows y t (set_collected l s)) (sym (extend-none i s.collected)) w
others-shown {y} {t} i (more f fs) s e b w = by (has 0x22 f) refl (λ u. others-shown i fs u)
  where
    by : (c : Bool) → has 0x22 f ≡ c →
        ((u : State) → keep (has 0x22) fs ≡ none → i < length u.collected → Shows y t u →
        Shows y t (set_collected (extend_at i fs u.collected) u)) →
        Shows y t (set_collected (extend_at i (more f fs) s.collected) s)
    by true q h = no-more (sym (keep-yes (has 0x22) f fs q) ∙ e)
    by false q h =
        let l = length-extend i (more f none) s.collected in
        extend-then i f fs s
        (h (set_collected (extend_at i (more f none) s.collected) s) (sym (keep-no (has 0x22) f fs q) ∙ e) (omega arith) (extended-other i f q w b))

pub gathers-none : (i : ℕ) {t : List ℕ} → Gathers i none t t
gathers-none i = record { kept = refl; shows = λ s fs e b m w. others-shown i fs s (e ∙ keep-none (has 0x22)) b w }

gathers-other : (i : ℕ) (f : Field) (cs : Fields) {t t' : List ℕ} → has 0x22 f ≡ false → Gathers i cs t t' → Gathers i (more f cs) t t'
gathers-other i f cs q g =
    record {
      kept = g.kept;
      shows = λ s fs e b m w.
          let c = count-more f cs in
          let z : flag (has 0x22 f) ≡ 0 = ap flag q in
          g.shows s fs (e ∙ keep-no (has 0x22) f cs q) b (omega arith) w;
    }

-- ---- A namespace

module _ (i : ℕ) (f : Field) (cs : Fields) {t m t' : List ℕ} (q : has 0x22 f ≡ true) (x : Extends i (fixed_of f) t m) (g : Gathers i cs m t') where
  namespace-then : {y : Env} (g₀ : Field) (gs : Fields) (s : State) → has 0x22 g₀ ≡ true → more g₀ (keep (has 0x22) gs) ≡ more f (keep (has 0x22) cs) → i < length s.collected →
      namespaces_in s.collected + (1 + count_namespaces cs) ≤ 3641 → Shows y t s → Shows y t' (set_collected (extend_at i (more g₀ gs) s.collected) s)
  namespace-then g₀ gs s p e b n w =
      let z : g₀ ≡ f = cc in
      let k : keep (has 0x22) gs ≡ keep (has 0x22) cs = cc in
      let l = length-extend i (more g₀ none) s.collected in
      let c = namespaces-extended i g₀ s.collected b in
      let o : flag (has 0x22 g₀) ≡ 1 = ap flag p in
      extend-then i g₀ gs s
      (g.shows (set_collected (extend_at i (more g₀ none) s.collected) s) gs k (omega arith) (omega arith) (x.shows s g₀ p (ap fixed_of z) (omega arith) w))

  namespace-shown : {y : Env} (fs : Fields) (s : State) → keep (has 0x22) fs ≡ more f (keep (has 0x22) cs) → i < length s.collected →
      namespaces_in s.collected + (1 + count_namespaces cs) ≤ 3641 → Shows y t s → Shows y t' (set_collected (extend_at i fs s.collected) s)
  namespace-shown none s e b n w = no-more (sym e ∙ keep-none (has 0x22))
  namespace-shown {y} (more h fs) s e b n w = by (has 0x22 h) refl (λ u. namespace-shown fs u)
    where
      by : (c : Bool) → has 0x22 h ≡ c → ((u : State) → keep (has 0x22) fs ≡ more f (keep (has 0x22) cs) → i < length u.collected →
          namespaces_in u.collected + (1 + count_namespaces cs) ≤ 3641 → Shows y t u → Shows y t' (set_collected (extend_at i fs u.collected) u)) →
          Shows y t' (set_collected (extend_at i (more h fs) s.collected) s)
      by true p r = namespace-then h fs s p (sym (keep-yes (has 0x22) h fs p) ∙ e) b n w
      by false p r =
          let l = length-extend i (more h none) s.collected in
          let c = namespaces-extended i h s.collected b in
          let o : flag (has 0x22 h) ≡ 0 = ap flag p in
          extend-then i h fs s
          (r (set_collected (extend_at i (more h none) s.collected) s) (sym (keep-no (has 0x22) h fs p) ∙ e) (omega arith) (omega arith) (extended-other i h p w b))

  gathers-more : Gathers i (more f cs) t t'
  gathers-more =
      record {
        kept = g.kept ∙ x.kept;
        shows = λ s fs e b n w.
            let c = count-more f cs in
            let o : flag (has 0x22 f) ≡ 1 = ap flag q in
            namespace-shown fs s (e ∙ keep-yes (has 0x22) f cs q) b (omega arith) w;
      }

-- ---- The field at a place

named-is : (f : Field) (x : List ℕ) → Some x ≡ namespace_in f → (has 0x22 f ≡ true) × (x ≡ fixed_of f)
named-is f x e = by (has 0x22 f) refl e
  where
    by : (c : Bool) → has 0x22 f ≡ c → Some x ≡ cond c (Some (fixed_of f)) None → (has 0x22 f ≡ true) × (x ≡ fixed_of f)
    by true q e = (q, cc)
    by false q e = absurd (let z : ◌≡◌ {A = ℕ} 0 1 = cc in omega arith)

named-other : (f : Field) → None ≡ namespace_in f → has 0x22 f ≡ false
named-other f e = by (has 0x22 f) refl e
  where
    by : (c : Bool) → has 0x22 f ≡ c → None ≡ cond c (Some (fixed_of f)) None → has 0x22 f ≡ false
    by true q e = absurd (let z : ◌≡◌ {A = ℕ} 0 1 = cc in omega arith)
    by false q e = q

module _ (i : ℕ) (f : Field) (r : Option Id) (e : ident_by r ≡ namespace_in f) {t : List ℕ} where
  pub extending-is : (id : Id) {t' : List ℕ} → r ≡ Some id → Extends i (id_by id) t t' → Extending i f t t'
  extending-is id {t'} q x =
      let w = named-is f (id_by id) (sym (ap ident_by q) ∙ e) in
      record {
        kept = x.kept;
        next = λ {t''} {cs} g. gathers-more i f cs w.0 (subst (λ (y : List ℕ). Extends i y t t') w.1 x) g;
      }

  pub extending-other : r ≡ None → Extending i f t t
  extending-other q = record { kept = refl; next = λ {t''} {cs} h. gathers-other i f cs (named-other f (sym (ap ident_by q) ∙ e)) h }

-- ---- All fields

-- what is left of a row makes the whole
pub record Filling (i : ℕ) (cs : Fields) (t₀ t : List ℕ) (ds : Fields) : Type 0 where
  pub below : i < held records t
  pub rest : (t' : List ℕ) → Gathers i ds t t' → Gathers i cs t₀ t'

pub filling-start : (i : ℕ) (cs : Fields) {t : List ℕ} → i < held records t → Filling i cs t t cs
filling-start i cs b = record { below = b; rest = λ t' w. w }

module _ (i : ℕ) {cs : Fields} {t₀ t : List ℕ} (r r' : Row) (g : Filling i cs t₀ t (fields_of r)) where
  pub filling-more : (p : Part) {t' : List ℕ} → GivesPart r (Some p) r' → Extending i (tree_of p) t t' → Filling i cs t₀ t' (fields_of r')
  filling-more p {t'} v x =
      let k = x.kept in
      let b = g.below in
      record {
        below = subst (λ (n : ℕ). i < n) (sym k) b;
        rest = λ t'' w. g.rest t'' (subst (λ (fs : Fields). Gathers i fs t t'') (sym (fields-more r p r' v)) (x.next w));
      }

  pub filling-end : GivesPart r None r' → Gathers i cs t₀ t
  filling-end v = g.rest t (subst (λ (fs : Fields). Gathers i fs t t) (sym (fields-none r r' v)) (gathers-none i))

-- ---- A record is collected

count-append : (a b : Fields) → count_namespaces (append a b) ≡ count_namespaces a + count_namespaces b
unfolding count_namespaces append
count-append none b = omega arith
count-append (more f a) b = let e = count-append a b in omega arith

pub collect-count : (r : Record) (l : List Record) → namespaces_in (collect_in r l) ≡ namespaces_in l + count_namespaces r.specifiers
unfolding collect_in namespaces_in
collect-count r [] = omega arith
collect-count r (q ∷ l) = by (same (value_of q.literal) (value_of r.literal)) (collect-count r l)
  where
    by : (b : Bool) → namespaces_in (collect_in r l) ≡ namespaces_in l + count_namespaces r.specifiers →
        namespaces_in (cond b (record { literal = q.literal; specifiers = append q.specifiers r.specifiers } ∷ l) (q ∷ collect_in r l)) ≡
        count_namespaces q.specifiers + namespaces_in l + count_namespaces r.specifiers
    by true h = let c = count-append q.specifiers r.specifiers in omega arith
    by false h = omega arith

abbrev state_of : State → Outcome (Unit {0} × State) → State
state_of u (done r) = r.1
state_of u (refused n p) = u

done-state : {u v : State} → ◌≡◌ {A = Outcome (Unit {0} × State)} (done (tt, u)) (done (tt, v)) → u ≡ v
done-state {u} e = ap (state_of u) e

-- collecting a record without specifiers brings no namespace
gathered-count : (x : List ℕ) (l : List Record) (s : State) → collect (record { literal = x; specifiers = none }) 0 s ≡ done (tt, set_collected l s) →
    namespaces_in l ≡ namespaces_in s.collected
unfolding collect count_namespaces
gathered-count x l s e = by (leb (length (collect_in (record { literal = x; specifiers = none }) s.collected)) 256) e
  where
    by : (b : Bool) → cond b (change (set_collected (collect_in (record { literal = x; specifiers = none }) s.collected))) (refuse 8 0) s ≡ done (tt, set_collected l s) →
        namespaces_in l ≡ namespaces_in s.collected
    by true e =
        let c = collect-count (record { literal = x; specifiers = none }) s.collected in
        let z : collect_in (record { literal = x; specifiers = none }) s.collected ≡ l = ap (λ (u : State). u.collected) (done-state e) in
        ap namespaces_in (sym z) ∙ c ∙ omega arith
    by false e = not_done e

module _ (l : Literal) (cs : Fields) {t m : List ℕ} {r : Result ℕ TableFull} (c : Collects l t m r) where
  pub gathering-made : (i : ℕ) {t' : List ℕ} → r ≡ Ok i → Gathers i cs m t' → Gathering l cs t t' (Ok tt)
  gathering-made i e g =
      record {
        made = λ _ {y} s fs p k n w v.
            let d = c.made i e s w v in
            let z = gathered-count (literal_by y l) d.list s (d.is none 0 ∙ ap (λ (q : List Record). done (tt, set_collected q s)) (extend-none i d.list)) in
            let h = held-shown d.shows in
            let b = c.below i e in
            record {
              state = set_collected (extend_at i fs d.list) s;
              is = d.is fs p;
              shows = g.shows (set_collected d.list s) fs k (omega arith) (omega arith) d.shows;
            };
        full = λ _ q s fs p w v. done-refused refl q;
      }

  pub gathering-full : {e : TableFull} → r ≡ Err e → Gathering l cs t m (Err e)
  gathering-full {e} h =
      record {
        made = λ q s fs p k n w v. done-refused q refl;
        full = λ _ q s fs p w v. c.full e h s w v fs p;
      }

-- ---- As a step

abbrev collecting : Fields → ℕ → State → List ℕ → Outcome (Unit {0} × State)
collecting fs at u z = collect (record { literal = z; specifiers = fs }) at u

-- the literal that stands at `at` of the tree that is walked
module _ {s x : List ℕ} {cs ds : Fields} (at p : ℕ) {l : Literal} {n : ℕ} {t t' : List ℕ} {r : Result Unit TableFull} (fits : at + 3 + 6 ≤ length s) (a : id_at s (at + 3) ≡ x) (b : ds ≡ cs)
    (place : Says (λ e. place_in e.pass (at + 3)) t n) (read : (value_of (id_at s (at + 3)) ≡ two l.value.0) × (l.place ≡ n)) (g : Gathering l cs t t' r) where
  literal-is : {y : Env} {u : State} → Shows y t u → Reads y s → literal_by y l ≡ id_at s (at + 3)
  literal-is {y} {u} k d = ap y.literal (read.1 ∙ place.is u k) ∙ d.literals (at + 3) fits

  valued : {y : Env} {u : State} → Shows y t u → Reads y s → Valued y l
  valued k d = ap value_of (literal-is k d) ∙ read.0

  pub collected-made : r ≡ Ok tt → Collected s x ds at t t' p (Ok p)
  collected-made e =
      record {
        place = λ q d. sym (done-same d);
        made = λ q d {y} u fs k m w h.
            let f : keep (has 0x22) fs ≡ keep (has 0x22) cs = k ∙ ap (keep (has 0x22)) b in
            let c = ap count_namespaces b in
            subst (λ (z : List ℕ). Did y (collecting fs at u z) t') (literal-is w h ∙ a) (g.made e u fs at f (omega arith) w (valued w h));
        turned = λ _ d u fs k h. done-refused refl d;
      }

  pub collected-full : {e : TableFull} → r ≡ Err e → Collected s x ds at t t' p (Err (refusal no-room at))
  collected-full {e} f =
      record {
        place = λ q d. done-refused d refl;
        made = λ q d u fs k m w h. done-refused d refl;
        turned = λ _ d u fs k h. refused-as (sym (ap (collecting fs at u) (literal-is k h ∙ a)) ∙ g.full e f u fs at k (valued k h)) d;
      }
