-- Demand 3, first part: a namespace import is kept whole or taken apart completely. Its words as definitions, and its statement.
-- Document 01, 'Demand 3's words'.
use Rattle.std.specs.Prelude.{Option, None, Some}
use Rattle.std.specs.Prelude.{ℕ, ◌≡◌, Bool, true, false, cond, ◌&&◌, List, [], ◌∷◌, ◌++◌, eqb, take, drop, get_or}
use Rattle.modes.specs.declared.Modes.{Modes}
use Rattle.scope.specs.Id.{export}
use Rattle.scope.specs.Modules.{Modules, number_of, request}
use Rattle.tree.specs.declared.grammar.Set.TheVariants.{Module}
use Rattle.tree.specs.Layout.{four, value_of, same_literal, Bytes}
use Rattle.tree.specs.Tree.{Field, field, Fields, none, more, tag_of, fixed_of, parts_of, encode}
use Rattle.tree.specs.Read.{read}
use Rattle.inputs.specs.Outcome.{done}
use Rattle.inputs.specs.Lists.{filter, is_some, among}
use Rattle.inputs.specs.Fields.{keep}
use Rattle.inputs.specs.Table.{Row, rows_in, atoms_in, file_of}
use Rattle.extraction_rules.specs.First.{specifiers_in, stays}
use Rattle.extraction_rules.specs.Call.{Lent, Lengths, Extracted, items_read, extracted}
use Rattle.resolving_rules.specs.Call.{Lent as LentRecords, Resolved, resolved}
use Rattle.placement.specs.Stands.{How, plain, computed, bare, original, imported, otherwise, Standing, head_of, tail_of, standings_all, stands, is_use, is_plain, properties}
use Rattle.placement.specs.Placed.{all, item_at, well_placed}

-- ---- Uses in the lent tree and in *out*

-- the uses of i in the lent items, each with what stands at its place in *out*
unfoldable pub uses_of : Fields → Fields → List ℕ → List Standing
uses_of items outs i = filter (λ s. is_use s.how) (standings_all (keep stays items) outs i false)

-- the part of a use that counts: 'What stands inside a 71 is no part of the use around it', 'A 23's exported name never counts'
abbrev pub counted : How → Field → Field
counted (plain p) f = f
counted computed f = let q = head_of (tail_of (parts_of f)) in field (tag_of f) (fixed_of f) (more (head_of (parts_of f)) (more (field (tag_of q) (fixed_of q) none) none))
counted bare f = f
counted original f = field (tag_of f) (take 7 (fixed_of f)) none
counted imported f = f
counted otherwise f = f

-- no use changes
abbrev pub Unchanged : Standing → Type 0
Unchanged s = counted s.how s.there ≡ counted s.how s.here

-- each use is the property in the source's export context c
abbrev pub AsProperty : List ℕ → How → Field → Type 0
AsProperty c (plain p) g = g ≡ field 0x60 (p ++ c) none
AsProperty c computed g = ⊥
AsProperty c bare g = ⊥
AsProperty c original g = ⊥
AsProperty c imported g = ⊥
AsProperty c otherwise g = ⊥

abbrev pub Rewritten : List ℕ → Standing → Type 0
Rewritten c s = AsProperty c s.how s.there

abbrev pub Every : (Standing → Type 0) → List Standing → Type 0
Every P [] = Unit {0}
Every P (s ∷ l) = P s × Every P l

-- ---- Declaration and resolved record

-- the specifiers of the import with the literal x at a place
abbrev pub Declares : Fields → ℕ → List ℕ → Fields → Type 0
Declares items k x fs = (cs : Fields) × (item_at k items ≡ Some (field 0x10 x cs)) × (specifiers_in cs ≡ fs)

-- 'the first 90 with byte 3 and the declaration's literal': its specifiers
unfoldable pub record_for : List ℕ → Fields → Option Fields
record_for x none = None
record_for x (more f fs) = cond (eqb (get_or (fixed_of f) 0 0) 3 && same_literal (drop 13 (fixed_of f)) x) (Some (parts_of f)) (record_for x fs)

-- 'as the declaration's 20s in *out*, without outside name, and as 91s without alias': the properties in the context c
abbrev pub property_fields : ℕ → List ℕ → List (List ℕ) → Fields
property_fields t c [] = none
property_fields t c (p ∷ l) = more (field t (p ++ c ++ 0 ∷ []) none) (property_fields t c l)

-- ---- The two ends of the import with the literal x and the namespace i at the place k

pub record TakenApart (i c x : List ℕ) (k : ℕ) (ps : List (List ℕ)) (items outs list : Fields) : Type 0 where
  -- its name is gone
  pub gone : stands outs i ≡ []
  -- each use is the property in the source's export context
  pub used : Every (Rewritten c) (uses_of items outs i)
  -- declaration and resolved record list exactly these, in order
  pub declares : Declares outs k x (property_fields 0x20 c ps)
  pub records : record_for x list ≡ Some (property_fields 0x91 c ps)

pub record Kept (i x : List ℕ) (k : ℕ) (items outs list : Fields) : Type 0 where
  -- declaration and record keep it, marked "all"
  pub declares : Declares outs k x (more (field 0x22 i none) none)
  pub records : record_for x list ≡ Some (more (field 0x92 (i ++ 1 ∷ []) none) none)
  -- no use changes
  pub used : Every Unchanged (uses_of items outs i)

-- ---- Exactly when

abbrev pub is_used : List How → Bool
is_used [] = false
is_used (h ∷ l) = true

-- its source resolves, it is used, and every use is a plain property
unfoldable pub takes : List Row → List ℕ → List How → Bool
takes rows x hs = let us : List How = filter is_use hs in is_some (file_of (value_of x) rows) && is_used us && all is_plain us

-- 'A source resolves to the module of the file its table names.'
abbrev pub ResolvesTo : List Row → Modules → List ℕ → ℕ → Type 0
ResolvesTo rows ms x n = (file : ℕ) × (file_of (value_of x) rows ≡ Some file) × (number_of file ms ≡ Some n)

-- taken apart where the first argument says so, and kept otherwise; hs is how i stands in the lent items
abbrev pub Ends : Bool → List ℕ → List ℕ → ℕ → List How → Fields → Lent → Extracted → Resolved → Type 0
Ends true i x k hs items l r q =
    (n : ℕ) × ResolvesTo (rows_in l.table) q.modules x n × TakenApart i (four (export n)) x k (properties hs) items (parts_of r.out) (parts_of q.list)
Ends false i x k hs items l r q = Kept i x k items (parts_of r.out) (parts_of q.list)

-- resolving of an extraction's records 'with the same table and the scope handed on', with any modes
abbrev pub handed_on : Modes → Lent → Extracted → LentRecords
handed_on m l r = record { modes = m; table = l.table; records = encode r.records }

-- For an accepted extraction of a well placed tree and an accepted resolving of its records, every namespace import with a
-- non-external source is taken apart exactly when its source resolves, it is used and every use is a plain property; else it is kept.
-- What is lent is bytes.
abbrev pub KeptOrApart : Type 0
KeptOrApart =
    (l : Lent) (room : Lengths) (ms : Modules) (r : Extracted) (m : Modes) (n : ℕ) (q : Resolved) (items : Fields) (own : ℕ × Modules) →
    extracted l room ms ≡ done r → resolved (handed_on m l r) n r.modules ≡ done q →
    Bytes l.tree → items_read (read Module l.tree) ≡ done items → request l.file ms ≡ Some own → well_placed own.0 items ≡ true →
    (k : ℕ) (x i : List ℕ) → Declares items k x (more (field 0x22 i none) none) → among (value_of x) (atoms_in l.externals) ≡ false →
    Ends (takes (rows_in l.table) x (stands items i)) i x k (stands items i) items l r q
