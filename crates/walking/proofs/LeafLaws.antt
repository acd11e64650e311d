-- Fields that the walk leaves as they are, so that they are copied: those without parts, and names of identifiers.
use Rattle.std.specs.Prelude.{Option, None, Some, Ok}
use Prim.Native.Nat.{ℕ, ◌+◌, ◌≤◌}
use native.Mathlib.Omega.{arith}
use mathlib.Core.Path.{◌≡◌, refl, sym, ap, subst, ◌∙◌}
use mathlib.Core.Logic.{⊎_elim}
use mathlib.Core.Bool.{true, false}
use mathlib.Core.List.{List, []}
use lib.ListN.{get_or}
use lib.Seq.{slice}
use Rattle.tree.specs.declared.grammar.Rule.{Rule}
use Rattle.tree.specs.declared.grammar.Value.TheVariants.{Atom as atom-value, Id as id-value}
use Rattle.tree.specs.Layout.{Bytes, atom_at, id_at}
use Rattle.tree.specs.Tree.{Field, field, Fields, none, more, tag_of, parts_of, size}
use Rattle.tree.specs.Grammar.{within, parts0, rule_of, step_at}
use Rattle.tree.specs.Access.{fixed_at, extent_at}
use Rattle.tree.specs.Standing.{tree_at, row_at}
use Rattle.tree.proofs.AccessLaws.{extent-upto, upto-in}
use Rattle.tree.proofs.GrammarLaws.{no-step}
use Rattle.tree.proofs.StandingLaws.{row-more, row-none, tree-upto, row-cases}
use Rattle.tree.proofs.WidthLaws.{plain-ends, bare-upto, tree-bare}
use Rattle.writer.specs.Wrote.{Wrote}
use Rattle.writer.proofs.Wrote.{wrote-as}
use Rattle.inputs.specs.Outcome.{Outcome, done, onto}
use Rattle.inputs.specs.Fields.{inside}
use Rattle.extraction_rules.specs.State.{State, Pass, first, second, Setting, Act}
use Rattle.extraction_rules.specs.Walk.{walk, walk_member}
use Rattle.extraction_rules.proofs.AlikeLaws.{Two, Regular}
use Rattle.expressions.proofs.IdentLaws.{walk-70}
use Rattle.state.specs.Cells.{Env, Shows}
use Rattle.steps.specs.Step.{Sound, SoundAll}
use Rattle.steps.proofs.SoundLaws.{read-short, read-inside, read-parts, read-bytes, sound-parts, sound_all-first, sound_all-rest}
use Rattle.steps.proofs.StepsLaws.{steps-done}
use Rattle.walking.specs.declared.Way.{Way}
use Rattle.walking.specs.declared.Way.TheVariants.{Member}
use Rattle.walking.specs.Walking.{FieldSteps, row_by, node_by, NameIs, forced_by}
use Rattle.walking.proofs.TagLaws.{walk-60, ident-by}
use Rattle.walking.proofs.RowLaws.{by-none}
use Rattle.walking.proofs.NodeLaws.{none-left}
use Rattle.walking.proofs.ExpressionLaws.{ident-tree}

-- a field that a rule leaves as it is, with the state
pub as-stands : (rule : Env → Act Field) {s : List ℕ} {at stop : ℕ} (bytes : Bytes s) {t out out' : List ℕ} {o p : ℕ} → Wrote out o (slice at stop s) out' p →
    ((y : Env) (u : State) → Shows y t u → Sound s at stop → rule y u ≡ done (tree_at s at stop, u)) → FieldSteps s at stop rule t out o t out' (Ok p)
as-stands rule {s} {at} {stop} bytes v h =
    steps-done v.size (λ y u w k. record {
      value = tree_at s at stop;
      state = u;
      is = h y u w k.0;
      wrote = wrote-as v (sym (read-bytes k.0.read bytes));
      shows = w;
    })

-- ---- Without parts

node-none : (way : Way) (e : Setting) (p : ℕ) (u : State) (f : Field) → parts_of f ≡ none → node_by way f e p u ≡ done (f, u)
unfolding node_by
node-none way e p u (field n x cs) z =
    ap (λ (ds : Fields). onto (row_by way ds e (inside p x) u) (λ r. done (field n x r.0, r.1))) z
    ∙ ap (λ (m : Outcome (Fields × State)). onto m (λ r. done (field n x r.0, r.1))) (by-none way e (inside p x) u)
    ∙ ap (λ (ds : Fields). done (field n x ds, u)) (sym z)

pub node-leaf : (way : Way) (s : List ℕ) (bytes : Bytes s) (at from stop : ℕ) {t out out' : List ℕ} {o p : ℕ} → fixed_at s (get_or s at 0) (at + 3) stop ≡ Some from → from ≡ stop →
    Wrote out o (slice at stop s) out' p → FieldSteps s at stop (λ y. node_by way (tree_at s at stop) y.setting at) t out o t out' (Ok p)
node-leaf way s bytes at from stop x z v =
    as-stands (λ y. node_by way (tree_at s at stop) y.setting at) bytes v (λ y u _ w.
    node-none way y.setting at u (tree_at s at stop)
    (ap parts_of (tree-upto s at stop from x) ∙ ap (λ (n : ℕ). row_at s n stop) z ∙ row-none s stop stop (omega arith) (none-left s stop)))

-- ---- A name of an identifier

object-stays : (k : Pass) (x : List ℕ) (u : State) → forced_by k true x u ≡ u
unfolding forced_by
object-stays first x u = refl
object-stays second x u = refl

ident-stays : (e : Setting) (o : Field) (p : ℕ) (u : State) → Regular o → tag_of o ≡ 0x60 → walk o e true p u ≡ done (o, u)
ident-stays e (field t x cs) p u w k =
    let z : field t x cs ≡ field 0x60 x none = cc (k, w.0.ident_bare k) in
    ap (λ (f : Field). walk f e true p u) z ∙ walk-60 e x true p u ∙ ident-by e.pass e x true p u
    ∙ ap (λ (v : State). done (field 0x60 x none, v)) (object-stays e.pass x u) ∙ ap (λ (f : Field). done (f, u)) (sym z)

name-stays : (e : Setting) (q : Field) (p : ℕ) (u : State) → Regular q → tag_of q ≡ 0x70 → walk q e false p u ≡ done (q, u)
name-stays e (field t x cs) p u w k =
    let z : field t x cs ≡ field 0x70 x none = cc (k, w.0.name_bare k) in
    ap (λ (f : Field). walk f e false p u) z ∙ walk-70 e x false p u ∙ ap (λ (f : Field). done (f, u)) (sym z)

pub both-stay : (e : Setting) (o q : Field) (p : ℕ) (u : State) → Regular o → Regular q → tag_of o ≡ 0x60 → tag_of q ≡ 0x70 →
    walk_member (more o (more q none)) e p u ≡ done (more o (more q none), u)
unfolding walk
both-stay e o q p u a b i j = rw (ident-stays e o p u a i, name-stays e q (p + size o) u b j) refl

ident-rule : rule_of 0x60 ≡ parts0
unfolding rule_of within
ident-rule = refl

-- a 60 that was read has nine bytes
ident-ends : (s : List ℕ) (at stop : ℕ) → Sound s at stop → get_or s at 0 ≡ 0x60 → at + 9 ≡ stop
ident-ends s at stop w q = go (fixed_at s (get_or s at 0) (at + 3) stop) refl
  where
    go : (r : Option ℕ) → fixed_at s (get_or s at 0) (at + 3) stop ≡ r → at + 9 ≡ stop
    go None e = read-short w.read e
    go (Some b) e =
        let z = plain-ends 0x60 id-value refl s (get_or s at 0) (at + 3) stop b q e in
        let i = upto-in s (get_or s at 0) (at + 3) stop (read-inside w.read).0 e in
        ⊎_elim (λ d. let n = d.0 in omega arith)
        (λ f. absurd (no-step (get_or s b 0) (subst (λ (r : Rule). step_at r (get_or s b 0) ≡ Some f.0) (ap rule_of q ∙ ident-rule) f.2)))
        (row-cases s b stop (rule_of (get_or s at 0)) i.1 (read-parts w.read e))

ident_whole : (s : List ℕ) (at stop : ℕ) → Sound s at stop → get_or s at 0 ≡ 0x60 → tree_at s at stop ≡ field 0x60 (id_at s (at + 3)) none
ident_whole s at stop w q = go (fixed_at s (get_or s at 0) (at + 3) stop) refl
  where
    go : (r : Option ℕ) → fixed_at s (get_or s at 0) (at + 3) stop ≡ r → tree_at s at stop ≡ field 0x60 (id_at s (at + 3)) none
    go None e = read-short w.read e
    go (Some b) e = ident-tree s at b stop e q w

name-whole : (s : List ℕ) (at stop : ℕ) → Sound s at stop → get_or s at 0 ≡ 0x70 → tree_at s at stop ≡ field 0x70 (atom_at s (at + 3)) none
name-whole s at stop w q = go (fixed_at s (get_or s at 0) (at + 3) stop) refl
  where
    go : (r : Option ℕ) → fixed_at s (get_or s at 0) (at + 3) stop ≡ r → tree_at s at stop ≡ field 0x70 (atom_at s (at + 3)) none
    go None e = read-short w.read e
    go (Some b) e =
        let z = tree-upto s at stop b e in
        let r = subst Regular z w.regular in
        let d : b ≡ at + 3 + 2 = plain-ends 0x70 atom-value refl s (get_or s at 0) (at + 3) stop b q e in
        z ∙ ap (λ (n : ℕ). field n (slice (at + 3) b s) (row_at s b stop)) q
        ∙ ap (λ (fs : Fields). field 0x70 (slice (at + 3) b s) fs) (r.0.name_bare q) ∙ ap (λ (n : ℕ). field 0x70 (slice (at + 3) n s) none) d

-- its parts
pub record Named (s : List ℕ) (at stop : ℕ) : Type 0 where
  pub object : Field
  pub name : Field
  pub row : row_at s (at + 3) stop ≡ more object (more name none)
  pub object_regular : Regular object
  pub name_regular : Regular name
  pub object_is : object ≡ field 0x60 (id_at s (at + 6)) none
  pub name_is : name ≡ field 0x70 (atom_at s (at + 15)) none

pub named : (s : List ℕ) (at stop : ℕ) → at + 3 ≤ stop → Sound s at stop → NameIs s at true → Named s at stop
named s at stop h w (a, b, c, _) = go (extent_at s (at + 3) stop) refl
  where
    two : Two (row_at s (at + 3) stop)
    two = (subst Regular (tree-bare 0x63 refl s at stop h a) w.regular).0.member_two refl

    all : SoundAll s (at + 3) stop
    all = sound-parts w (bare-upto 0x63 refl s (get_or s at 0) (at + 3) stop a h)

    second-at : (m : ℕ) → extent_at s (at + 3) stop ≡ Some m → (r : Option ℕ) → extent_at s m stop ≡ r → Named s at stop
    second-at m e None e2 =
        let i = extent-upto s (at + 3) stop h e in
        let x = two.2 in
        let y = row-more s (at + 3) stop m h e in
        let z = row-none s m stop i.1 e2 in
        absurd (let n : ◌≡◌ {A = ℕ} 0 1 = cc in omega arith)
    second-at m e (Some k) e2 =
        let i = extent-upto s (at + 3) stop h e in
        let f = sound_all-first h all e in
        let g = sound_all-first i.1 (sound_all-rest h all e) e2 in
        let n = ident-ends s (at + 3) m f b in
        let l : m ≡ at + 12 = omega arith in
        let x = two.2 in
        let y = row-more s (at + 3) stop m h e in
        let z = row-more s m stop k i.1 e2 in
        let r : row_at s k stop ≡ none = cc in
        record {
          object = tree_at s (at + 3) m;
          name = tree_at s m k;
          row = y ∙ ap (more (tree_at s (at + 3) m)) (z ∙ ap (more (tree_at s m k)) r);
          object_regular = f.regular;
          name_regular = g.regular;
          object_is = let j : at + 3 + 3 ≡ at + 6 = omega arith in ident_whole s (at + 3) m f b ∙ ap (λ (d : ℕ). field 0x60 (id_at s d) none) j;
          name_is =
              let j : m + 3 ≡ at + 15 = omega arith in
              name-whole s m k g (ap (λ (d : ℕ). get_or s d 0) l ∙ c) ∙ ap (λ (d : ℕ). field 0x70 (atom_at s d) none) j;
        }

    go : (r : Option ℕ) → extent_at s (at + 3) stop ≡ r → Named s at stop
    go None e =
        let x = two.2 in
        let y = row-none s (at + 3) stop h e in
        absurd (let n : ◌≡◌ {A = ℕ} 0 1 = cc in omega arith)
    go (Some m) e = second-at m e (extent_at s m stop) refl

member-stays : (e : Setting) (s : List ℕ) (at stop : ℕ) (u : State) → at + 3 ≤ stop → get_or s at 0 ≡ 0x63 → Named s at stop →
    node_by Member (tree_at s at stop) e at u ≡ done (tree_at s at stop, u)
unfolding node_by row_by
member-stays e s at stop u h a d =
    let z = tree-bare 0x63 refl s at stop h a ∙ ap (field 0x63 []) d.row in
    ap (λ (f : Field). node_by Member f e at u) z
    ∙ ap (λ (m : Outcome (Fields × State)). onto m (λ r. done (field 0x63 [] r.0, r.1)))
    (both-stay e d.object d.name (inside at []) u d.object_regular d.name_regular (ap tag_of d.object_is) (ap tag_of d.name_is))
    ∙ ap (λ (f : Field). done (f, u)) (sym z)

pub node-name : (s : List ℕ) (bytes : Bytes s) (at stop : ℕ) {t out out' : List ℕ} {o p : ℕ} → at + 3 ≤ stop → NameIs s at true → Wrote out o (slice at stop s) out' p →
    FieldSteps s at stop (λ y. node_by Member (tree_at s at stop) y.setting at) t out o t out' (Ok p)
node-name s bytes at stop h n v =
    as-stands (λ y. node_by Member (tree_at s at stop) y.setting at) bytes v (λ y u _ w. member-stays y.setting s at stop u h n.0 (named s at stop h w n))
