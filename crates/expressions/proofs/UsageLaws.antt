-- The usage of a 63 that was read: one law for each way through usage.
use Rattle.std.specs.Prelude.{Option, None, Some, Ok}
use Prim.Native.Nat.{ℕ, ◌+◌}
use mathlib.Core.Path.{◌≡◌, refl, sym, ap, subst, subst₂, ◌∙◌}
use mathlib.Core.Logic.{◌⊎◌, inl, inr, ⊎_elim}
use mathlib.Core.Bool.{Bool, true, false, cond}
use mathlib.Core.List.{List, []}
use native.Mathlib.Omega.{arith}
use lib.Dec.{eqb}
use borrow.Author.Tests.{eq-eqb, ne_eqb, eqb-true}
use Rattle.scope.specs.declared.id.SyntaxContext.{SyntaxContext}
use Rattle.scope.specs.declared.id.Id.{Id}
use Rattle.tree.specs.Tree.{Field, field, Fields, none, more, tag_of, fixed_of, size}
use Rattle.tree.specs.Rows.{GivesPart, tree_of, fields_of}
use Rattle.tree.specs.declared.row.Part.{Part}
use Rattle.tree.specs.declared.row.Row.{Row}
use Rattle.tree.proofs.PartLaws.{fields-none, fields-more, part_tag}
use Rattle.tree.proofs.StandingLaws.{whole-tag}
use Rattle.tree.proofs.WidthLaws.{bare-upto}
use Rattle.inputs.specs.Outcome.{done}
use Rattle.extraction_rules.specs.State.{State, first, Setting}
use Rattle.extraction_rules.specs.First.{force_id, on_ident, imported_as, used_record, use_from, use_imported, usage}
use Rattle.extraction_rules.proofs.AlikeLaws.{Two, Regular}
use Rattle.state.specs.Cells.{Env, id_by, Shows}
use Rattle.state.specs.Does.{Tells, Turns, context_by}
use Rattle.steps.specs.Step.{ident_by, Sound, SoundAll, Effect, Effects}
use Rattle.steps.proofs.SoundLaws.{read-size, sound-parts, sound_all-first, sound_all-rest}
use Rattle.expressions.specs.After.{ident_after, member_after}
use Rattle.expressions.specs.Usage.{Named}
use Rattle.expressions.proofs.BareLaws.{bare-part}
use Rattle.expressions.proofs.AfterLaws.{first-none}
use Rattle.expressions.proofs.EffectLaws.{effects-skip, effects-turn, effects-as}

-- ---- The object

-- in the first pass just a 60 has an id, which is its own
ident-is : (t : ℕ) (x : List ℕ) (cs : Fields) (u : State) → ident_after (field t x cs) first u ≡ cond (eqb t 0x60) (Some x) None
unfolding ident_after
ident-is t x cs u = go (eqb t 0x63) refl
  where
    go : (b : Bool) → eqb t 0x63 ≡ b → cond b (member_after cs first u) (cond (eqb t 0x60) (Some x) None) ≡ cond (eqb t 0x60) (Some x) None
    go true h = first-none cs u ∙ ap (λ (b : Bool). cond b (Some x) None) (sym (ne_eqb t 0x60 (λ z. let w = eqb-true t 0x63 h in omega arith)))
    go false h = refl

no-ident : (o : Field) (r : Fields) (u : State) → None ≡ ident_after o first u → on_ident (field 0x63 [] (more o r)) ≡ None
unfolding on_ident
no-ident o none u h = refl
no-ident (field t x cs) (more q qs) u h = go (eqb t 0x60) (h ∙ ident-is t x cs u)
  where
    go : (b : Bool) → None ≡ cond b (Some x) None → cond {A = Option (Field × Field)} b (Some (field t x cs, q)) None ≡ None
    go true e = absurd (let z : ◌≡◌ {A = ℕ} 0 1 = cc in omega arith)
    go false e = refl

an-ident : (o q : Field) (qs : Fields) (u : State) (i : List ℕ) → Some i ≡ ident_after o first u →
    (on_ident (field 0x63 [] (more o (more q qs))) ≡ Some (o, q)) × (fixed_of o ≡ i)
unfolding on_ident
an-ident (field t x cs) q qs u i h = go (eqb t 0x60) (h ∙ ident-is t x cs u)
  where
    go : (b : Bool) → Some i ≡ cond b (Some x) None → (cond {A = Option (Field × Field)} b (Some (field t x cs, q)) None ≡ Some (field t x cs, q)) × (x ≡ i)
    go true e = (refl, let z : x ≡ i = cc in z)
    go false e = absurd (let z : ◌≡◌ {A = ℕ} 0 1 = cc in omega arith)

-- ---- The rule

pass-over : (e : Setting) (p : ℕ) (u : State) (m : Option (Field × Field)) → m ≡ None → usage m e p u ≡ done (tt, u)
unfolding usage
pass-over e p u m h = ap (λ (k : Option (Field × Field)). usage k e p u) h

usage-is : (e : Setting) (p : ℕ) (u : State) (m : Option (Field × Field)) (o q : Field) (i : List ℕ) → m ≡ Some (o, q) → fixed_of o ≡ i →
    usage m e p u ≡ use_imported (imported_as i u.imported) e i q (p + 3 + size o) p u
unfolding usage
usage-is e p u m o q i h k =
    ap (λ (k : Option (Field × Field)). usage k e p u) h ∙ ap (λ (j : List ℕ). use_imported (imported_as j u.imported) e j q (p + 3 + size o) p u) k

not-imported : (e : Setting) (i : List ℕ) (q : Field) (at p : ℕ) (u : State) (c : Option (List ℕ)) → None ≡ c → use_imported c e i q at p u ≡ done (tt, u)
unfolding use_imported
not-imported e i q at p u c h = ap (λ (k : Option (List ℕ)). use_imported k e i q at p u) (sym h)

computed : (e : Setting) (i : List ℕ) (q : Field) (at p : ℕ) (u : State) (c : Option (List ℕ)) (d : List ℕ) → Some d ≡ c → tag_of q ≡ 0x71 →
    use_imported c e i q at p u ≡ done (tt, force_id i u)
unfolding use_imported
computed e i q at p u c d h k =
    ap (λ (k : Option (List ℕ)). use_imported k e i q at p u) (sym h) ∙ rw (eq-eqb (tag_of q) 0x71 k)

used : (e : Setting) (i : List ℕ) (q : Field) (at p : ℕ) (u : State) (c : Option (List ℕ)) (d : List ℕ) → Some d ≡ c → (tag_of q ≡ 0x71 → ⊥) →
    use_imported c e i q at p u ≡ use_from (used_record e.own i u.collected) e i q at p u
unfolding use_imported
used e i q at p u c d h k =
    ap (λ (k : Option (List ℕ)). use_imported k e i q at p u) (sym h) ∙ rw (ne_eqb (tag_of q) 0x71 k)

-- ---- A 63 that was read

module _ (p : Part) (tag : part_tag p ≡ 0x63) (row : Row) (m : (row.bytes.now ≡ p.bytes.now) × (row.at ≡ p.at + 3) × (row.end ≡ p.stop)) where
  abbrev Uses : List ℕ → List ℕ → Effect → Type 0
  Uses t t' a = Effects (λ x u. Sound p.bytes.now p.at p.stop) (λ x. usage (on_ident (tree_of p)) x.setting p.at) t t' a

  -- its parts
  whole-parts : Sound p.bytes.now p.at p.stop → SoundAll row.bytes.now row.at row.end
  whole-parts w =
      subst₂ (λ (s : List ℕ) (n : ℕ). SoundAll s row.at n) (sym m.0) (sym m.2)
      (subst (λ (n : ℕ). SoundAll p.bytes.now n p.stop) (sym m.1)
      (sound-parts w (bare-upto 0x63 refl p.bytes.now (part_tag p) (p.at + 3) p.stop tag p.whole.0)))

  pub usage-bare : (row' : Row) {t : List ℕ} → GivesPart row None row' → Uses t t (Ok tt)
  unfolding on_ident
  usage-bare row' g =
      effects-skip (λ y u v w. pass-over y.setting p.at u (on_ident (tree_of p))
      (ap on_ident (bare-part 0x63 refl p row tag m ∙ ap (field 0x63 []) (fields-none row row' g))))

  module _ (o : Part) (qs : Row) (g : GivesPart row (Some o) qs) where
    with-object : tree_of p ≡ field 0x63 [] (more (tree_of o) (fields_of qs))
    with-object = bare-part 0x63 refl p row tag m ∙ ap (field 0x63 []) (fields-more row o qs g)

    pub usage-other : {t : List ℕ} {r : Option Id} → r ≡ None → Tells (ident_after (tree_of o) first) t (ident_by r) → Uses t t (Ok tt)
    usage-other h k =
        effects-skip (λ y u v w. pass-over y.setting p.at u (on_ident (tree_of p))
        (ap on_ident with-object ∙ no-ident (tree_of o) (fields_of qs) u (ap ident_by (sym h) ∙ k.is u v)))

    pub usage-alone : (qs' : Row) {t : List ℕ} → GivesPart qs None qs' → Uses t t (Ok tt)
    unfolding on_ident
    usage-alone qs' z =
        effects-skip (λ y u v w. pass-over y.setting p.at u (on_ident (tree_of p))
        (ap on_ident (with-object ∙ ap (λ (r : Fields). field 0x63 [] (more (tree_of o) r)) (fields-none qs qs' z))))

    module _ (q : Part) (rest : Row) (z : GivesPart qs (Some q) rest) where
      with-member : tree_of p ≡ field 0x63 [] (more (tree_of o) (more (tree_of q) (fields_of rest)))
      with-member = with-object ∙ ap (λ (r : Fields). field 0x63 [] (more (tree_of o) r)) (fields-more qs q rest z)

      -- the object was read, and the member
      object-sound : Sound p.bytes.now p.at p.stop → Sound o.bytes.now o.at o.stop
      object-sound w =
          subst₂ (λ (s : List ℕ) (n : ℕ). Sound s n o.stop) (sym g.5) (sym g.1) (sound_all-first row.inside.0 (whole-parts w) g.0)

      member-sound : Sound p.bytes.now p.at p.stop → Sound q.bytes.now q.at q.stop
      member-sound w =
          let r : SoundAll qs.bytes.now qs.at qs.end =
          subst₂ (λ (s : List ℕ) (n : ℕ). SoundAll s qs.at n) (sym g.2) (sym g.4)
          (subst (λ (n : ℕ). SoundAll row.bytes.now n row.end) (sym g.3) (sound_all-rest row.inside.0 (whole-parts w) g.0)) in
          subst₂ (λ (s : List ℕ) (n : ℕ). Sound s n q.stop) (sym z.5) (sym z.1) (sound_all-first qs.inside.0 r z.0)

      -- the object ends where the member starts
      place-is : Sound p.bytes.now p.at p.stop → p.at + 3 + size (tree_of o) ≡ q.at
      place-is w =
          let e = read-size (object-sound w).read o.of_bytes in
          let i = o.whole.0 in
          let a = g.1 ∙ m.1 in
          let b = z.1 ∙ g.3 in
          omega arith

      -- the member has the tag that stands at its place, and is a 70, a 71 or a 72
      member-tag : Sound p.bytes.now p.at p.stop → tag_of (tree_of q) ≡ part_tag q
      member-tag w = whole-tag q.bytes.now q.at q.stop (member-sound w).read.whole

      member-kind : Sound p.bytes.now p.at p.stop → (tag_of (tree_of q) ≡ 0x70) ⊎ ((tag_of (tree_of q) ≡ 0x71) ⊎ (tag_of (tree_of q) ≡ 0x72))
      member-kind w =
          go ((subst Regular with-member w.regular).0.member_two refl)
        where
          second-of : {o q o' q' : Field} {r r' : Fields} → more o (more q r) ≡ more o' (more q' r') → q' ≡ q
          second-of e = cc

          go : Two (more (tree_of o) (more (tree_of q) (fields_of rest))) →
              (tag_of (tree_of q) ≡ 0x70) ⊎ ((tag_of (tree_of q) ≡ 0x71) ⊎ (tag_of (tree_of q) ≡ 0x72))
          go n =
              subst (λ (q : Field). (tag_of q ≡ 0x70) ⊎ ((tag_of q ≡ 0x71) ⊎ (tag_of q ≡ 0x72))) (second-of n.2) n.3

      module _ {t : List ℕ} {r : Option Id} {n : Id} (h : r ≡ Some n) (k : Tells (ident_after (tree_of o) first) t (ident_by r)) where
        rule-is : {y : Env} (u : State) → Shows y t u →
            usage (on_ident (tree_of p)) y.setting p.at u
            ≡ use_imported (imported_as (id_by n) u.imported) y.setting (id_by n) (tree_of q) (p.at + 3 + size (tree_of o)) p.at u
        rule-is {y} u v =
            let i = an-ident (tree_of o) (tree_of q) (fields_of rest) u (id_by n) (ap ident_by (sym h) ∙ k.is u v) in
            usage-is y.setting p.at u (on_ident (tree_of p)) (tree_of o) (tree_of q) (id_by n) (ap on_ident with-member ∙ i.0) i.1

        pub usage-unknown : {c : Option SyntaxContext} → c ≡ None → Tells (λ u. imported_as (id_by n) u.imported) t (context_by c) → Uses t t (Ok tt)
        usage-unknown i f =
            effects-skip (λ y u v w. rule-is u v
            ∙ not-imported y.setting (id_by n) (tree_of q) (p.at + 3 + size (tree_of o)) p.at u (imported_as (id_by n) u.imported) (ap context_by (sym i) ∙ f.is u v))

        module _ {c : Option SyntaxContext} {d : SyntaxContext} (i : c ≡ Some d) (f : Tells (λ u. imported_as (id_by n) u.imported) t (context_by c)) where
          pub usage-computed : {t' : List ℕ} → part_tag q ≡ 0x71 → Turns (force_id (id_by n)) t t' → Uses t t' (Ok tt)
          usage-computed a b =
              effects-turn (force_id (id_by n)) b (λ y u v w. rule-is u v
              ∙ computed y.setting (id_by n) (tree_of q) (p.at + 3 + size (tree_of o)) p.at u (imported_as (id_by n) u.imported) _
              (ap context_by (sym i) ∙ f.is u v) (member-tag w ∙ a))

          pub usage-from : {t' : List ℕ} {a : Effect} → (part_tag q ≡ 0x71 → ⊥) →
              Effects (λ x u. Named (tree_of q)) (λ x u. use_from (used_record x.setting.own (id_by n) u.collected) x.setting (id_by n) (tree_of q) q.at p.at u) t t' a →
              Uses t t' a
          usage-from a b =
              effects-as b (λ y u v w. (
                ⊎_elim (λ i. inl i) (λ i. ⊎_elim (λ j. absurd (a (sym (member-tag w) ∙ j))) (λ j. inr j) i) (member-kind w),
                rule-is u v
                    ∙ used y.setting (id_by n) (tree_of q) (p.at + 3 + size (tree_of o)) p.at u (imported_as (id_by n) u.imported) _
                    (ap context_by (sym i) ∙ f.is u v) (λ j. a (sym (member-tag w) ∙ j))
                    ∙ ap (λ (l : ℕ). use_from (used_record y.setting.own (id_by n) u.collected) y.setting (id_by n) (tree_of q) l p.at u) (place-is w),
              ))
