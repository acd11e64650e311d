-- Lists of ways to stand: which of them are uses, whether these are all plain, their properties, and whether one is misplaced.
use Prim.Native.Nat.{ℕ}
use mathlib.Core.Path.{◌≡◌, refl, sym, ap, ◌∙◌}
use mathlib.Core.Bool.{Bool, true, false, cond, ◌&&◌, true≢false, and_assoc, not}
use mathlib.Core.List.{List, [], ◌∷◌, ◌++◌, append-nil}
use lib.Dec.{eqb}
use lib.ListN.{get_or}
use Rattle.tree.specs.Layout.{same, id_at}
use Rattle.tree.specs.Tree.{field, Fields, none, more, fixed_of}
use Rattle.tree.proofs.Table.{both-true}
use Rattle.inputs.specs.Lists.{filter}
use Rattle.inputs.specs.Fields.{has}
use Rattle.extraction_rules.specs.Walk.{parts_for}
use Rattle.extraction_rules.proofs.ListLaws.{All}
use Rattle.extraction_rules.proofs.TagLaws.{find-any}
use Rattle.extraction_rules.proofs.SeekLaws.{filter-append}
use Rattle.extraction_rules.proofs.KeepLaws.{Each}
use Rattle.placement.specs.Stands.{How, plain, computed, bare, original, imported, otherwise, first_id, named_ids, original_ids, ids_in, is_use, is_plain, properties}
use Rattle.placement.specs.Stands.{object_ids, is_misplaced}
use Rattle.placement.specs.Placed.{all}
use Rattle.placement.proofs.WaysLaws.{met, ways, ways_all}

-- every use is a plain property
abbrev pub all_plain : List How → Bool
all_plain us = all is_plain (filter is_use us)

pub all-append : {A : Type 0} (t : A → Bool) (l m : List A) → all t (l ++ m) ≡ all t l && all t m
unfolding all
all-append t [] m = refl
all-append t (a ∷ l) m = rw (all-append t l m) (sym (and_assoc (t a) (all t l) (all t m)))

pub plain-append : (l m : List How) → all_plain (l ++ m) ≡ all_plain l && all_plain m
plain-append l m = ap (all is_plain) (filter-append is_use l m) ∙ all-append is_plain (filter is_use l) (filter is_use m)

pub properties-append : (l m : List How) → properties (l ++ m) ≡ properties l ++ properties m
unfolding properties
properties-append [] m = refl
properties-append (plain p ∷ l) m = rw (properties-append l m)
properties-append (computed ∷ l) m = properties-append l m
properties-append (bare ∷ l) m = properties-append l m
properties-append (original ∷ l) m = properties-append l m
properties-append (imported ∷ l) m = properties-append l m
properties-append (otherwise ∷ l) m = properties-append l m

-- a way that is not plain has no property
pub properties-skip : (h : How) (l : List How) → is_plain h ≡ false → properties (h ∷ l) ≡ properties l
unfolding properties
properties-skip (plain p) l q = absurd (true≢false q)
properties-skip computed l q = refl
properties-skip bare l q = refl
properties-skip original l q = refl
properties-skip imported l q = refl
properties-skip otherwise l q = refl

pub not-use : (h : How) → is_use h ≡ false → is_plain h ≡ false
not-use (plain p) q = absurd (true≢false q)
not-use computed q = refl
not-use bare q = refl
not-use original q = refl
not-use imported q = refl
not-use otherwise q = refl

-- no uses among them
abbrev pub Neutral : List How → Type 0
Neutral l = (filter is_use l ≡ []) × (properties l ≡ [])

-- the ids of a field that stand in no use
abbrev pub Unused : List (How × List ℕ) → Type 0
Unused l = All (λ h. is_use h.0 ≡ false) l

pub unused-neutral : (l : List (How × List ℕ)) (i : List ℕ) → Unused l → Neutral (met l i)
unfolding met filter properties
unused-neutral [] i h = (refl, refl)
unused-neutral (w ∷ l) i h = go (same w.1 i) (unused-neutral l i h.1)
  where
    go : (b : Bool) → Neutral (met l i) → Neutral (cond b (w.0 ∷ met l i) (met l i))
    go true k = (rw h.0 k.0, properties-skip w.0 (met l i) (not-use w.0 h.0) ∙ k.1)
    go false k = k

pub unused-append : (l m : List (How × List ℕ)) → Unused l → Unused m → Unused (l ++ m)
unused-append [] m h k = k
unused-append (w ∷ l) m h k = (h.0, unused-append l m h.1 k)

pub object-unused : (cs : Fields) → Unused (object_ids false cs)
unfolding object_ids
object-unused none = tt
object-unused (more o ps) = go (has 0x60 o)
  where
    go : (b : Bool) → Unused (cond b ((otherwise, fixed_of o) ∷ []) [])
    go true = (refl, tt)
    go false = tt

abbrev Unplain : List (How × List ℕ) → Type 0
Unplain l = All (λ h. is_plain h.0 ≡ false) l

unplain-properties : (l : List (How × List ℕ)) (i : List ℕ) → Unplain l → properties (met l i) ≡ []
unfolding met properties
unplain-properties [] i h = refl
unplain-properties (w ∷ l) i h = go (same w.1 i) (unplain-properties l i h.1)
  where
    go : (b : Bool) → properties (met l i) ≡ [] → properties (cond b (w.0 ∷ met l i) (met l i)) ≡ []
    go true k = properties-skip w.0 (met l i) h.0 ∙ k
    go false k = k

-- the table of ids, as in Stands
abbrev pub id_table : List ℕ → Bool → List (ℕ × List (How × List ℕ))
id_table x object =
    (0x20, named_ids x) ∷ (0x21, first_id imported x) ∷ (0x22, first_id imported x) ∷ (0x23, original_ids x) ∷ (0x24, first_id otherwise x) ∷
    (0x43, first_id otherwise x) ∷ (0x50, first_id otherwise x) ∷
    (0x54, first_id otherwise x) ∷ (0x60, first_id (cond object otherwise bare) x) ∷ (0x77, first_id otherwise x) ∷ []

named-unused : (x : List ℕ) → Unused (named_ids x)
named-unused x = (refl, go (eqb (get_or x 6 0) 1))
  where
    go : (b : Bool) → Unused (cond b ((otherwise, id_at x 7) ∷ []) [])
    go true = (refl, tt)
    go false = tt

-- but for 23, and 60 where *object* is clear, a field's own ids stand in no use
pub ids-unused : (t : ℕ) (x : List ℕ) (object : Bool) → eqb t 0x23 ≡ false → (eqb t 0x60 ≡ true → object ≡ true) → Unused (ids_in t x object)
unfolding ids_in
ids-unused t x object n k =
    find-any Unused t (id_table x object) [] (
      (λ _. named-unused x),
      (
        (λ _. (refl, tt)),
        (
          (λ _. (refl, tt)),
          (
            (λ q. absurd (true≢false (sym q ∙ n))),
            ((λ _. (refl, tt)), ((λ _. (refl, tt)), ((λ _. (refl, tt)), ((λ _. (refl, tt)), ((λ q. rw (k q) (refl, tt)), ((λ _. (refl, tt)), tt)))))),
          ),
        ),
      ),
    )
    tt

-- no field's own id is a plain property
pub ids-properties : (t : ℕ) (x : List ℕ) (object : Bool) (i : List ℕ) → properties (met (ids_in t x object) i) ≡ []
unfolding ids_in
ids-properties t x object i =
    unplain-properties (ids_in t x object) i
    (find-any Unplain t (id_table x object) [] (
      (λ _. (refl, named (eqb (get_or x 6 0) 1))),
      (
        (λ _. (refl, tt)),
        (
          (λ _. (refl, tt)),
          (
            (λ _. originals (eqb (get_or x 0 0) 1)),
            ((λ _. (refl, tt)), ((λ _. (refl, tt)), ((λ _. (refl, tt)), ((λ _. (refl, tt)), ((λ _. (ident object, tt)), ((λ _. (refl, tt)), tt)))))),
          ),
        ),
      ),
    )
    tt)
  where
    named : (b : Bool) → Unplain (cond b ((otherwise, id_at x 7) ∷ []) [])
    named true = (refl, tt)
    named false = tt

    originals : (b : Bool) → Unplain (cond b ((original, id_at x 1) ∷ []) [])
    originals true = (refl, tt)
    originals false = tt

    ident : (b : Bool) → is_plain (cond b otherwise bare) ≡ false
    ident true = refl
    ident false = refl

-- a 60 that is a 63's object stands in no use by itself
pub ident-neutral : (i : List ℕ) (t : ℕ) (x : List ℕ) (cs : Fields) → t ≡ 0x60 → cs ≡ none → Neutral (ways (field t x cs) i true)
unfolding ways parts_for
ident-neutral i t x cs q k =
    rw (q, k) (rw (append-nil (met (ids_in 0x60 x true) i)) (unused-neutral (ids_in 0x60 x true) i (ids-unused 0x60 x true refl (λ _. refl))))

-- ---- Fit ways

-- none is misplaced
abbrev pub fits : List How → Bool
fits l = all (λ h. not (is_misplaced h)) l

pub fits-append : (l m : List How) → fits (l ++ m) ≡ true → (fits l ≡ true) × (fits m ≡ true)
fits-append l m h = both-true (fits l) (fits m) (sym (all-append (λ h. not (is_misplaced h)) l m) ∙ h)

pub fits-each : (fs : Fields) (i : List ℕ) → fits (ways_all fs i false) ≡ true → Each (λ f. fits (ways f i false) ≡ true) fs
unfolding ways
fits-each none i h = tt
fits-each (more f fs) i h = let w = fits-append (ways f i false) (ways_all fs i false) h in (w.0, fits-each fs i w.1)
