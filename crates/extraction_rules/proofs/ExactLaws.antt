-- The fixed bytes of the fields that the rules read and write: how long they are, and that what is written is whole.
use Rattle.std.specs.Prelude.{Option, None, Some}
use Prim.Native.Nat.{ℕ, ◌+◌, ◌-◌, ◌≤◌, ◌<◌}
use mathlib.Core.Path.{◌≡◌, refl, ap, subst, ◌∙◌}
use mathlib.Core.Bool.{Bool, true, false, cond}
use mathlib.Core.List.{List, [], ◌∷◌, ◌++◌}
use native.Mathlib.Omega.{arith}
use lib.Dec.{ltb, eqb}
use lib.ListN.{get_or-append, length, get_or, take, length-append}
use lib.Seq.{length-slice, length-take-le, get_or_at, get_or-take}
use borrow.Author.Tests.{ltb-true, le-leb, le-ltb, eqb-true}
use Rattle.scope.specs.Id.{export}
use Rattle.tree.specs.declared.grammar.Value.TheVariants.{Id, Atom}
use Rattle.tree.specs.declared.grammar.Piece.TheVariants.{Outside, Original}
use Rattle.tree.specs.Layout.{skip_at, four, id_at, atom_at, name_of}
use Rattle.tree.specs.Grammar.{pieces_of}
use Rattle.tree.specs.Access.{value_at, kinds, choice_of, on_choice, kind_at, key_at, piece_at, then_piece, fixed_at}
use Rattle.tree.specs.Within.{Exact}
use Rattle.tree.specs.Tree.{fixed_of}
use Rattle.tree.proofs.FixedLaws.{no-upto}
use Rattle.tree.proofs.WidthLaws.{skip-ends, plain-width, plain-exact}
use Rattle.metadata.specs.Decimal.{decimal}
use Rattle.metadata.specs.Metadata.{context_key, header, context_attribute}
use Rattle.extraction_rules.specs.First.{id_from, outside_name, exported_name}

-- ---- Names inside and outside

outside-is : (x : List ℕ) (b stop : ℕ) → kind_at x Outside b stop ≡ Some stop → (b < stop) × (get_or x b 0 ≡ 1 → stop ≡ b + 7)
unfolding kind_at choice_of kinds on_choice value_at
outside-is x b stop e = go (ltb b stop) refl e
  where
    go : (c : Bool) → ltb b stop ≡ c → cond c (on_choice (choice_of Outside (get_or x b 0)) (b + 1) stop) None ≡ Some stop →
        (b < stop) × (get_or x b 0 ≡ 1 → stop ≡ b + 7)
    go true w e = (ltb-true b stop w, λ q. let z = skip-ends (b + 1) 6 stop stop (rw q at e) in omega arith)
    go false w e = absurd (no-upto e)

then-outside : (x : List ℕ) (n : ℕ) (r : Option ℕ) → skip_at 0 n (length x) ≡ r → then_piece r x Outside (length x) ≡ Some (length x) →
    (n < length x) × (get_or x n 0 ≡ 1 → length x ≡ n + 7)
unfolding then_piece piece_at
then-outside x n None w e = absurd (no-upto e)
then-outside x n (Some b) w e =
    let q : b ≡ n = skip-ends 0 n (length x) b w ∙ omega arith in
    subst (λ (k : ℕ). (k < length x) × (get_or x k 0 ≡ 1 → length x ≡ k + 7)) q (outside-is x b (length x) e)

pub width-20 : (x : List ℕ) → Exact 0x20 x → (6 < length x) × (get_or x 6 0 ≡ 1 → length x ≡ 13)
unfolding fixed_at piece_at value_at pieces_of
width-20 x h = then-outside x 6 (skip_at 0 6 (length x)) refl h

pub exact-20-id : (x : List ℕ) → length x ≡ 13 → get_or x 6 0 ≡ 1 → Exact 0x20 x
unfolding fixed_at piece_at value_at pieces_of skip_at then_piece kind_at choice_of kinds on_choice
exact-20-id x e k = rw (e, k)

pub exact-20-none : (x : List ℕ) → length x ≡ 7 → get_or x 6 0 ≡ 0 → Exact 0x20 x
unfolding fixed_at piece_at value_at pieces_of skip_at then_piece kind_at choice_of kinds on_choice
exact-20-none x e k = rw (e, k)

pub exact-23 : (x : List ℕ) → length x ≡ 14 → get_or x 0 0 ≡ 1 → get_or x 7 0 ≡ 1 → Exact 0x23 x
unfolding fixed_at piece_at value_at pieces_of skip_at then_piece kind_at choice_of kinds on_choice
exact-23 x e k j = rw (e, k, j)

original-is : (x : List ℕ) (stop b : ℕ) → kind_at x Original 0 stop ≡ Some b → eqb (get_or x 0 0) 2 ≡ false → (get_or x 0 0 ≡ 1) × (b ≡ 7)
unfolding kind_at choice_of kinds on_choice value_at
original-is x stop b e n = go (ltb 0 stop) e
  where
    kind : (c d : Bool) → eqb (get_or x 0 0) 1 ≡ c → d ≡ false → on_choice (cond c (Some Id) (cond d (Some Atom) None)) (0 + 1) stop ≡ Some b →
        (get_or x 0 0 ≡ 1) × (b ≡ 7)
    kind true d w q e = (eqb-true (get_or x 0 0) 1 w, let z = skip-ends 1 6 stop b e in omega arith)
    kind false false w q e = absurd (no-upto e)
    kind false true w q e = absurd (let z : ◌≡◌ {A = ℕ} 0 1 = cc in omega arith)

    go : (c : Bool) → cond c (on_choice (choice_of Original (get_or x 0 0)) (0 + 1) stop) None ≡ Some b → (get_or x 0 0 ≡ 1) × (b ≡ 7)
    go true e = kind (eqb (get_or x 0 0) 1) (eqb (get_or x 0 0) 2) refl n e
    go false e = absurd (no-upto e)

exported-is : (x : List ℕ) (r : Option ℕ) → kind_at x Original 0 (length x) ≡ r → eqb (get_or x 0 0) 2 ≡ false →
    then_piece r x Outside (length x) ≡ Some (length x) →
    (get_or x 0 0 ≡ 1) × (7 < length x) × (get_or x 7 0 ≡ 1 → length x ≡ 14)
unfolding then_piece piece_at
exported-is x None w n e = absurd (no-upto e)
exported-is x (Some b) w n e =
    let o = original-is x (length x) b w n in
    let q = subst (λ (k : ℕ). (k < length x) × (get_or x k 0 ≡ 1 → length x ≡ k + 7)) o.1 (outside-is x b (length x) e) in
    (o.0, q.0, q.1)

pub width-23 : (x : List ℕ) → Exact 0x23 x → eqb (get_or x 0 0) 2 ≡ false → (get_or x 0 0 ≡ 1) × (7 < length x) × (get_or x 7 0 ≡ 1 → length x ≡ 14)
unfolding fixed_at piece_at pieces_of
width-23 x h n = exported-is x (kind_at x Original 0 (length x)) refl n h

-- ---- What the rules write

pub rewritten-exact : (a c : List ℕ) → length a ≡ 2 → length c ≡ 4 → Exact 0x60 (a ++ c)
rewritten-exact a c p q = let l = length-append a c in plain-exact 0x60 Id refl (a ++ c) (omega arith)

pub id-width : (a : List ℕ) (c : ℕ) → length a ≡ 2 → length (id_from a c) ≡ 6
id-width a c p = let l = length-append a (four c) in omega arith

pub callee-exact : (x : List ℕ) (n : ℕ) → Exact 0x60 x → Exact 0x60 (id_from (name_of x) (export n))
callee-exact x n h = let w = plain-width 0x60 Id refl x refl h in
    plain-exact 0x60 Id refl (id_from (name_of x) (export n)) (id-width (name_of x) (export n) (length-take-le 2 x (omega arith)))

pub property-exact : (p : List ℕ) → length p ≡ 6 → Exact 0x20 (p ++ 0 ∷ [])
property-exact p w = let l = length-append p (0 ∷ []) in exact-20-none (p ++ 0 ∷ []) (omega arith) (get_or_at p 0 [] 0 6 w)

outside-width : (x : List ℕ) → Exact 0x20 x → length (outside_name x) ≡ 2
unfolding outside_name
outside-width x h = go (eqb (get_or x 6 0) 1) refl
  where
    go : (b : Bool) → eqb (get_or x 6 0) 1 ≡ b → length (cond b (atom_at x 7) (name_of x)) ≡ 2
    go true e = let w = (width-20 x h).1 (eqb-true (get_or x 6 0) 1 e) in length-slice 7 9 x (omega arith)
    go false e = let w = (width-20 x h).0 in length-take-le 2 x (omega arith)

pub named-exact : (x : List ℕ) (n : ℕ) → Exact 0x20 x → Exact 0x20 (id_at x 0 ++ 1 ∷ id_from (outside_name x) (export n))
named-exact x n h =
    let w = (width-20 x h).0 in
    let a : length (id_at x 0) ≡ 6 = length-slice 0 6 x (omega arith) in
    let b = id-width (outside_name x) (export n) (outside-width x h) in
    let l = length-append (id_at x 0) (1 ∷ id_from (outside_name x) (export n)) in
    exact-20-id (id_at x 0 ++ 1 ∷ id_from (outside_name x) (export n)) (omega arith) (get_or_at (id_at x 0) 1 (id_from (outside_name x) (export n)) 0 6 a)

exported-width : (x : List ℕ) → 7 < length x → (get_or x 7 0 ≡ 1 → length x ≡ 14) → length (exported_name x) ≡ 2
unfolding exported_name
exported-width x h k = go (eqb (get_or x 7 0) 1) refl
  where
    go : (b : Bool) → eqb (get_or x 7 0) 1 ≡ b → length (cond b (atom_at x 8) (atom_at x 1)) ≡ 2
    go true e = let w = k (eqb-true (get_or x 7 0) 1 e) in length-slice 8 10 x (omega arith)
    go false e = length-slice 1 3 x (omega arith)

pub exported-exact : (x : List ℕ) (c : ℕ) → Exact 0x23 x → eqb (get_or x 0 0) 2 ≡ false → Exact 0x23 (take 7 x ++ 1 ∷ id_from (exported_name x) c)
exported-exact x c h n =
    let w = width-23 x h n in
    let long = w.1 in
    let a : length (take 7 x) ≡ 7 = length-take-le 7 x (omega arith) in
    let b = id-width (exported_name x) c (exported-width x long w.2) in
    let l = length-append (take 7 x) (1 ∷ id_from (exported_name x) c) in
    exact-23 (take 7 x ++ 1 ∷ id_from (exported_name x) c) (omega arith)
    (get_or-append (take 7 x) (1 ∷ id_from (exported_name x) c) 0 0 (omega arith) ∙ get_or-take 7 x 0 0 (omega arith) ∙ w.0)
    (get_or_at (take 7 x) 1 (id_from (exported_name x) c) 0 7 a)

key-exact : (x : List ℕ) → 3 ≤ length x → get_or x 0 0 ≤ 1 → get_or x 1 0 ≤ 1 → get_or x 2 0 ≤ length x - 3 → Exact 0x30 x
unfolding fixed_at piece_at value_at pieces_of skip_at then_piece key_at
key-exact x a b c d =
    let a' : 3 ≤ length x - 0 = omega arith in
    let z : length x + 0 ≡ length x = omega arith in
    rw (le-ltb (length x - 0) 3 a', le-ltb 1 (get_or x 0 0) b, le-ltb 1 (get_or x 1 0) c, le-leb (get_or x 2 0) (length x - 3) d)
    (ap (λ (b : Bool). cond b (Some (length x + 0)) None) (le-leb 0 (length x - length x) (omega arith)) ∙ ap Some z)

pub attribute-exact : (c : ℕ) → Exact 0x30 (fixed_of (context_attribute c))
unfolding context_attribute
attribute-exact c = let l = length-append (header context_key) (decimal c) in
    key-exact (header context_key ++ decimal c) (omega arith) (omega arith) (omega arith) (omega arith)
