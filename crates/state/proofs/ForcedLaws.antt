-- Forced sources: the search, the array after one is forced, and the room that there always is, since they are sources of records, each once.
use Rattle.std.specs.Prelude.{Option, None, Some, is_some}
use Prim.Native.Nat.{ℕ, zero, suc, ◌≤◌, ◌<◌}
use native.Mathlib.Omega.{arith}
use mathlib.Core.Path.{◌≡◌, refl, sym, ap, subst, ◌∙◌}
use mathlib.Core.Bool.{Bool, true, false, cond, ◌||◌}
use mathlib.Core.List.{List, [], ◌∷◌, ◌++◌, map, map-append}
use lib.ListN.{length, length-map}
use Rattle.tables.specs.Rows.{Row, rows, next, between, first_in}
use Rattle.tables.specs.Only.{Only}
use Rattle.tree.specs.Layout.{two, same, value_of}
use Rattle.tree.proofs.LayoutLaws.{same-refl, same-equal, same-two}
use Rattle.tree.proofs.FixedLaws.{or-right}
use Rattle.inputs.specs.Lists.{find, among}
use Rattle.extraction_rules.specs.State.{Record, State, set_forced}
use Rattle.extraction_rules.specs.First.{holds_namespace, force_source, force_holder, forget, force_id}
use Rattle.state.specs.Cells.{imports, uses, hint_at, import_hint, namespace_hint, use_hint}
use Rattle.state.specs.Cells.{Env, id_limit, id_of, records, forces, table_of, Below, held, Good, atom_of, sources_in, Once, Sourced, Shows}
use Rattle.state.specs.Does.{Tells, Turns, Forces, source_of}
use Rattle.state.proofs.IdLaws.{between-one, eqb-swap}
use Rattle.state.proofs.ListLaws.{below-append, length-more}
use Rattle.state.proofs.FrameLaws.{others-kept, good-kept, room-for, shows-forced}
use Rattle.state.proofs.RecordLaws.{held-shown, holder-told}
use Rattle.state.proofs.HintLaws.{none-least}
use Rattle.state.proofs.ChangeLaws.{absent, not-imported, not-used, not_held}
use Rattle.state.proofs.UsageLaws.{forgotten}
use Rattle.state.proofs.SourcedLaws.{find-among, sourced-force}

-- ---- The search

same-atom : (a n : ℕ) → a < 65536 → n < 65536 → same (two a) (two n) ≡ between a a n
same-atom a n h k = same-two a n h k ∙ eqb-swap a n ∙ sym (between-one a n)

pub among-rows : (a v : ℕ) (l : List Row) → a < 65536 → Below 65536 v l → among (two a) (map atom_of l) ≡ is_some (first_in a a l)
unfolding among first_in Below
among-rows a v [] h b = refl
among-rows a v (r ∷ l) h b = ap (λ (x : Bool). x || among (two a) (map atom_of l)) (same-atom a r.0 h b.0) ∙ by (between a a r.0) (first_in a a l) (among-rows a v l h b.2)
  where
    by : (x : Bool) (o : Option ℕ) → among (two a) (map atom_of l) ≡ is_some o → (x || among (two a) (map atom_of l)) ≡ is_some (cond x (Some zero) (next o))
    by true o e = refl
    by false None e = e
    by false (Some i) e = e

pub forced-told : {t : List ℕ} {a : ℕ} {o : Option ℕ} {b : Bool} → Good t → a < 65536 → b ≡ is_some o → o ≡ first_in a a (rows (table_of forces) t) →
    Tells (λ s. among (two a) s.forced) t b
forced-told {t} {a} {o} g h f e =
    record {
      is = λ s w.
          f ∙ ap (λ (x : Option ℕ). is_some x) e ∙ sym (among-rows a _ (rows (table_of forces) t) h (g.below forces)) ∙ ap (among (two a)) w.forced;
    }

-- ---- The room

remove : List ℕ → List (List ℕ) → List (List ℕ)
remove a [] = []
remove a (b ∷ m) = cond (same a b) m (b ∷ remove a m)

length-remove : (a : List ℕ) (m : List (List ℕ)) → among a m ≡ true → length m ≡ suc (length (remove a m))
unfolding among remove
length-remove a [] e = absurd (cc)
length-remove a (b ∷ m) e = by (same a b) (length-remove a m) e
  where
    by : (x : Bool) → (among a m ≡ true → length m ≡ suc (length (remove a m))) → (x || among a m) ≡ true → suc (length m) ≡ suc (length (cond x m (b ∷ remove a m)))
    by true h f = refl
    by false h f = ap suc (h f)

among-remove : (a b : List ℕ) (m : List (List ℕ)) → same b a ≡ false → among b m ≡ true → among b (remove a m) ≡ true
unfolding among remove
among-remove a b [] n e = e
among-remove a b (c ∷ m) n e = by (same a c) refl (same b c) refl (among-remove a b m n) e
  where
    by : (x : Bool) → same a c ≡ x → (y : Bool) → same b c ≡ y → (among b m ≡ true → among b (remove a m) ≡ true) → (y || among b m) ≡ true →
        among b (cond x m (c ∷ remove a m)) ≡ true
    by true p true q h f =
        absurd
        (let z : b ≡ a = same-equal b c q ∙ sym (same-equal a c p) in let u : true ≡ false = sym (same-refl a) ∙ ap (λ (k : List ℕ). same k a) (sym z)
        ∙ n in cc)
    by true p false q h f = f
    by false p true q h f = ap (λ (k : Bool). k || among b (remove a m)) q
    by false p false q h f = ap (λ (k : Bool). k || among b (remove a m)) q ∙ h f

-- of sources that stand once each there are no more than there are of those among which they stand
once-fits : (l m : List (List ℕ)) → Once l → ((a : List ℕ) → among a l ≡ true → among a m ≡ true) → length l ≤ length m
unfolding among Once
once-fits [] m o h = omega arith
once-fits (a ∷ l) m o h =
    let here = h a (ap (λ (x : Bool). x || among a l) (same-refl a)) in
    let n = length-remove a m here in
    let r = once-fits l (remove a m) o.1 (λ b e. among-remove a b m (apart b e) (h b (or-right (same b a) (among b l) e))) in
    omega arith
  where
    apart : (b : List ℕ) → among b l ≡ true → same b a ≡ false
    apart b e = by (same b a) refl
      where
        by : (x : Bool) → same b a ≡ x → x ≡ false
        by true p = let u : true ≡ false = sym e ∙ ap (λ (k : List ℕ). among k l) (same-equal b a p) ∙ o.0 in absurd (cc)
        by false p = refl

-- so there is room for one more
room-to-force : {y : Env} {t : List ℕ} {s : State} (a : List ℕ) → Good t → Shows y t s → among a (sources_in s.collected) ≡ true → among a s.forced ≡ false →
    held forces t < 256
unfolding Once among
room-to-force {t = t} {s} a g w f n =
    let r = room-for records g in
    let c = held-shown w in
    let k = length-map s.collected (λ (q : Record). value_of q.literal) in
    let j : held forces t ≡ length s.forced = sym (length-map (rows (table_of forces) t) atom_of) ∙ ap length w.forced in
    let fit = once-fits (a ∷ s.forced) (sources_in s.collected) (n, w.sourced.once) (λ b e. by b (same b a) refl e) in
    omega arith
  where
    by : (b : List ℕ) (x : Bool) → same b a ≡ x → (x || among b s.forced) ≡ true → among b (sources_in s.collected) ≡ true
    by b true p e = ap (λ (y : List ℕ). among y (sources_in s.collected)) (same-equal b a p) ∙ f
    by b false p e = w.sourced.from b e

-- ---- A source is forced

module _ {t : List ℕ} (a : ℕ) (g : Good t) where
  pub force-again : Tells (λ s. among (two a) s.forced) t true → Forces (two a) t t
  unfolding force_source
  force-again n =
      record { shows = λ {x = y} s f w. subst (λ (b : Bool). Shows y t (cond b s (set_forced (s.forced ++ (two a ∷ [])) s))) (n.is s w) w }

  pub forced-good : {t' : List ℕ} → a < 65536 → held forces t < 256 →
      rows (table_of forces) t' ≡ rows (table_of forces) t ++ ((a, 0) ∷ []) → Only (table_of forces) t t' → Good t'
  forced-good h k e o =
      let m = length-more (rows (table_of forces) t) (a, 0) in
      good-kept forces g o e (omega arith) (below-append _ _ (rows (table_of forces) t) (a, 0) (g.below forces) h (omega arith)) tt

  pub force-new : {t' : List ℕ} → Tells (λ s. among (two a) s.forced) t false →
      rows (table_of forces) t' ≡ rows (table_of forces) t ++ ((a, 0) ∷ []) → Only (table_of forces) t t' → Forces (two a) t t'
  unfolding force_source
  force-new {t'} n e o =
      record {
        shows = λ {x = y} s f w.
            subst (λ (b : Bool). Shows y t' (cond b s (set_forced (s.forced ++ (two a ∷ [])) s))) (n.is s w)
            (shows-forced w (others-kept forces g o)
            (ap (map atom_of) e ∙ map-append atom_of (rows (table_of forces) t) ((a, 0) ∷ []) ∙ ap (λ (l : List (List ℕ)). l ++ (two a ∷ [])) w.forced)
            (subst (λ (b : Bool). Sourced (cond b s (set_forced (s.forced ++ (two a ∷ [])) s))) (sym (n.is s w)) (sourced-force (two a) w.sourced f)));
      }

  pub force-full : Tells (λ s. among (two a) s.forced) t false → 256 ≤ held forces t → Forces (two a) t t
  force-full n k = record { shows = λ s f w. absurd (let r = room-to-force (two a) g w f (sym (n.is s w)) in omega arith) }

-- ---- An id is forced

holder-none : (o : Option Record) (s : State) → None ≡ source_of o → force_holder o s ≡ s
holder-none None s e = refl
holder-none (Some r) s e = absurd (cc)

holder-some : (o : Option Record) (s : State) (x : List ℕ) → Some x ≡ source_of o → force_holder o s ≡ force_source x s
holder-some None s x e = absurd (cc)
holder-some (Some r) s x e = let z : value_of r.literal ≡ x = cc in ap (λ (y : List ℕ). force_source y s) z

module _ {t m : List ℕ} (i : List ℕ) (u : Turns (forget i) t m) where
  pub forced-none : Tells (λ s. source_of (find (holds_namespace i) s.collected)) m None → Turns (force_id i) t m
  unfolding force_id forget
  forced-none n =
      record {
        shows = λ s w.
            let v = u.shows s w in
            subst (Shows _ m) (sym (holder-none (find (holds_namespace i) s.collected) (forget i s) (n.is (forget i s) v))) v;
      }

  pub forced-some : {t' x : List ℕ} → Tells (λ s. source_of (find (holds_namespace i) s.collected)) m (Some x) → Forces x m t' → Turns (force_id i) t t'
  unfolding force_id forget
  forced-some {t'} {x} n f =
      record {
        shows = λ s w.
            let v = u.shows s w in
            let e = n.is (forget i s) v in
            subst (Shows _ t') (sym (holder-some (find (holds_namespace i) s.collected) (forget i s) x e))
            (f.shows (forget i s) (find-among (holds_namespace i) s.collected x e) v);
      }

-- an id that no hint names is nowhere
pub forced-nowhere : {t x : List ℕ} (id : ℕ) → Good t → id_of id ≡ x → id < id_limit → hint_at t id ≡ 0 → Turns (force_id x) t t
forced-nowhere id g n h e =
    forced-none _
    (forgotten g n h (absent uses id (not-used id g (ap use_hint e))) (absent imports id (not-imported id g (ap import_hint e))))
    (holder-told n h (sym (none-least id _ (not_held id g (ap namespace_hint e)))))
