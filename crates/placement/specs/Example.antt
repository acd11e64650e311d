-- Worked cases of how an id stands and of 'well placed', by computation, and for each clause of 'well placed' a tree that breaks it alone. All
-- are our own.
use Rattle.std.specs.Prelude.{ℕ, ◌≡◌, refl, Bool, true, false, List, [], ◌∷◌, ◌++◌, map, replicate}
use Rattle.tree.specs.Layout.{two, four}
use Rattle.tree.specs.Tree.{Field, field, Fields, none, more}
use Rattle.extraction_rules.specs.Computes.{computing}
use Rattle.extraction_rules.specs.Build.{a, x, b, d, f, y, q, own, exp, listed, leaf, fields, imports, named, default, namespace, const, statement, ident, member, call}
use Rattle.extraction_rules.specs.Build.{requiring}
use Rattle.placement.specs.Stands.{plain, computed, bare, original, imported, otherwise, ids_in, matching, object_ids, standings, stands, properties}
use Rattle.placement.specs.Placed.{all, imports_in, imports_precede, local_ids, has_source, has_local, shares_none, own_locals, sole_namespace, fit_namespace, fit_namespaces, well_placed}

-- every definition of this crate: a worked case says `unfolding placing`
unfoldable pub placing : ℕ → Fields → Bool
unfolding computing ids_in matching object_ids standings stands properties all imports_in imports_precede local_ids has_source has_local shares_none own_locals
    sole_namespace fit_namespace fit_namespaces well_placed
placing n items = well_placed n items

-- import * as a from './m', and uses of a
abbrev pub spaced : Field
spaced = imports (namespace (own a) ∷ [])

abbrev pub ax : Field
ax = member (ident (own a)) x

-- a[e]
abbrev pub at : Field → Field
at e = fields 0x63 (ident (own a) ∷ fields 0x71 (e ∷ []) ∷ [])

-- the atom of './n', and the literal
abbrev pub n : ℕ
n = 30

abbrev pub literal_n : List ℕ
literal_n = two n ++ four 1

abbrev pub ay : Field
ay = member (ident (own a)) y

-- import * as i from './n'
abbrev pub spaced_n : List ℕ → Field
spaced_n i = field 0x10 literal_n (listed (namespace i ∷ []))

-- behind import * as a from './m'
abbrev pub behind : List Field → Fields
behind l = listed (spaced ∷ l)

-- ---- How a stands

ways : stands (listed (spaced ∷ statement ax ∷ statement (at ax) ∷ statement (ident (own a)) ∷ field 0x11 (0 ∷ []) (more (leaf 0x23 (1 ∷ own a ++ 0 ∷ [])) none) ∷ [])) (own a) ≡
    imported ∷ plain (two x) ∷ computed ∷ plain (two x) ∷ bare ∷ original ∷ []
unfolding placing
ways = refl

-- as target, below an object, as a shorthand, with a private name
misplaced-ways : stands
    (listed
    (statement (fields 0x66 (ax ∷ ident (own b) ∷ [])) ∷ statement (member (call (ident (own f)) (ident (own a))) y) ∷ statement
    (fields 0x69 (leaf 0x77 (own a) ∷ [])) ∷ statement (fields 0x63 (ident (own a) ∷ leaf 0x72 (two x) ∷ [])) ∷ []))
    (own a) ≡
    otherwise ∷ otherwise ∷ otherwise ∷ otherwise ∷ []
unfolding placing
misplaced-ways = refl

-- ---- Well placed, where the own file is module 0

used-in-all-ways : well_placed 0 (listed (spaced ∷ statement ax ∷ statement (at ax) ∷ statement (ident (own a)) ∷ [])) ≡ true
unfolding placing
used-in-all-ways = refl

other-imports : well_placed 0 (listed (spaced ∷ field 0x10 (two 30 ++ four 1) (listed (named (own b) ∷ default (own d) ∷ [])) ∷ statement (ident (own b)) ∷ [])) ≡ true
unfolding placing
other-imports = refl

-- and not: an import behind another item; two of one source; a namespace in another context; one with company; one as target; one
-- below an object; a property named require
not-placed : map (well_placed 0)
    (listed (statement ax ∷ spaced ∷ []) ∷
    listed (spaced ∷ imports (namespace (own b) ∷ []) ∷ []) ∷
    listed (imports (namespace (exp a) ∷ []) ∷ []) ∷
    listed (imports (default (own d) ∷ namespace (own a) ∷ []) ∷ []) ∷
    listed (spaced ∷ statement (fields 0x66 (ax ∷ ident (own b) ∷ [])) ∷ []) ∷
    listed (spaced ∷ statement (member (call (ident (own f)) (ident (own a))) y) ∷ []) ∷
    listed (spaced ∷ statement (member (ident (own a)) 0) ∷ []) ∷
    []) ≡
    false ∷ false ∷ false ∷ false ∷ false ∷ false ∷ false ∷ []
unfolding placing
not-placed = refl

-- ---- A tree for each clause of 'well placed' that breaks this clause alone

-- imports precede other items: a.x; import * as a from './m'
abbrev pub late : Fields
late = listed (statement ax ∷ spaced ∷ [])

-- share no source: import * as a from './m'; import * as b from './m'; a.x
abbrev pub shared_source : Fields
shared_source = behind (imports (namespace (own b) ∷ []) ∷ statement ax ∷ [])

-- share no local id: import * as a from './m'; import * as a from './n'; a.x
abbrev pub shared_local : Fields
shared_local = behind (spaced_n (own a) ∷ statement ax ∷ [])

-- locals have own local context: import * as x from './m'; x.x, where x has the export context of './m'
abbrev pub other_context : Fields
other_context = listed (imports (namespace (exp x) ∷ []) ∷ statement (member (ident (exp x)) x) ∷ [])

-- a 22 is sole: import d, * as a from './m'; a.x
abbrev pub in_company : Fields
in_company = listed (imports (default (own d) ∷ namespace (own a) ∷ []) ∷ statement ax ∷ [])

-- namespace ids stand elsewhere only as ..: a.x; a.y = b
abbrev pub as-target : Fields
as-target = behind (statement ax ∷ statement (fields 0x66 (ay ∷ ident (own b) ∷ [])) ∷ [])

-- with *object* set: a.x; f(a).y
abbrev pub below_object : Fields
below_object = behind (statement ax ∷ statement (member (call (ident (own f)) (ident (own a))) y) ∷ [])

-- as shorthand: a.x; ({ a })
abbrev pub as_shorthand : Fields
as_shorthand = behind (statement ax ∷ statement (fields 0x69 (leaf 0x77 (own a) ∷ [])) ∷ [])

-- with a private name: a.#x
abbrev pub a_private : Field
a_private = statement (fields 0x63 (ident (own a) ∷ leaf 0x72 (two x) ∷ []))

abbrev pub with_private : Fields
with_private = behind (a_private ∷ [])

-- no namespace is named require: import * as require from './m'; require('./m')
abbrev pub namespace_require : Fields
namespace_require = listed (imports (namespace (own 0) ∷ []) ∷ statement (requiring (own 0)) ∷ [])

-- nor a property of one: const q = a.require('./n')
abbrev pub property_require : Fields
property_require = behind (const (own q) (call (member (ident (own a)) 0) (leaf 0x61 literal_n)) ∷ [])

-- the five conjuncts of `well_placed`, in its order
abbrev clauses : Fields → List Bool
clauses items =
    let fs : List Field = imports_in items in
    imports_precede items ∷ shares_none fs ∷ all (own_locals 0) fs ∷ all sole_namespace fs ∷ all (fit_namespaces items) fs ∷ []

each-breaks-one : map clauses
    (late ∷ shared_source ∷ shared_local ∷ other_context ∷ in_company ∷ as-target ∷ below_object ∷ as_shorthand ∷ with_private ∷ namespace_require ∷ property_require ∷ []) ≡
    (false ∷ true ∷ true ∷ true ∷ true ∷ []) ∷
    (true ∷ false ∷ true ∷ true ∷ true ∷ []) ∷
    (true ∷ false ∷ true ∷ true ∷ true ∷ []) ∷
    (true ∷ true ∷ false ∷ true ∷ true ∷ []) ∷
    (true ∷ true ∷ true ∷ false ∷ true ∷ []) ∷
    replicate 6 (true ∷ true ∷ true ∷ true ∷ false ∷ [])
unfolding placing
each-breaks-one = refl
