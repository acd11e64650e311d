-- Demand 3 on whole calls, by computation: trees at both ends, and for each clause of 'well placed' what becomes of a tree that breaks it. All
-- are our own.
use Rattle.std.specs.Prelude.{Some}
use Rattle.std.specs.Prelude.{ℕ, ◌≡◌, refl, Bool, true, false}
use Rattle.std.proofs.Common.{sym, ap, ◌∙◌, true≢false}
use mathlib.Core.List.{List, [], ◌∷◌, ◌++◌, cons≢nil}
use Rattle.std.specs.Option.{unwrap_or}
use Rattle.modes.specs.Bits.{modes_of}
use Rattle.scope.specs.Id.{default_atom, export}
use Rattle.scope.specs.Modules.{Module, Modules, unmarked, number_of}
use Rattle.tree.specs.Layout.{two, four, same, value_of}
use Rattle.tree.specs.Tree.{Field, field, Fields, none, fixed_of, parts_of, encode}
use Rattle.inputs.specs.Outcome.{Outcome, done, refused, ◌>>=◌}
use Rattle.inputs.specs.Fields.{has}
use Rattle.inputs.specs.Table.{Row, rows_in, file_of}
use Rattle.extraction_rules.specs.Call.{Lent, Extracted, module_with, extracted}
use Rattle.extraction_rules.specs.Build.{m, a, x, b, d, f, y, q, own, exp, literal, listed, leaf, fields, imports, named, default, namespace, const}
use Rattle.extraction_rules.specs.Build.{statement, ident, member, call, requiring, metadata, room, rooms}
use Rattle.metadata.specs.Metadata.{context_key, attribute}
use Rattle.resolving_rules.specs.Call.{Resolved, resolved}
use Rattle.resolving_rules.specs.Computes.{computing as computing-resolved}
use Rattle.placement.specs.Stands.{head_of, stands}
use Rattle.placement.specs.Placed.{well_placed}
use Rattle.placement.specs.Example.{placing, ax, at, n, literal_n, ay, spaced_n, behind, late, shared_source, shared_local, other_context, in_company}
use Rattle.placement.specs.Example.{as-target, below_object, as_shorthand, a_private, with_private, namespace_require, property_require}
use Rattle.theorems.specs.Demand.{uses_of, record_for, takes, TakenApart, Kept, Ends, ResolvesTo, handed_on}

-- every definition of both calls and of their ends: a worked case says `unfolding ending`
unfoldable ending : ℕ → Fields → Bool
unfolding placing computing-resolved uses_of record_for takes
ending own items = well_placed own items

-- ---- Fields

-- an export of one name: the 11's bytes, and the 23's
abbrev exports : List ℕ → List ℕ → Field
exports l i = field 0x11 l (listed (leaf 0x23 i ∷ []))

-- an import of './m', and one of './n', with the metadata that the first pass appends: './m' is module 1, './n' is module 2
abbrev from_m : List Field → Field
from_m l = imports (l ++ metadata ∷ [])

abbrev from_n : List Field → Field
from_n l = field 0x10 literal_n (listed (l ++ fields 0x2F (attribute context_key (55 ∷ []) ∷ []) ∷ []))

-- their 90s; a 91 without alias, and a 92 marked "all"
abbrev record_m : List Field → Field
record_m l = field 0x90 (3 ∷ two 1 ++ two 10 ++ four 4 ++ four 5 ++ literal 1) (listed l)

abbrev record_n : ℕ → List Field → Field
record_n t l = field 0x90 (t ∷ two 2 ++ two 11 ++ four 6 ++ four 7 ++ literal_n) (listed l)

abbrev as-name : List ℕ → Field
as-name i = leaf 0x91 (i ++ 0 ∷ [])

abbrev as_all : List ℕ → Field
as_all i = leaf 0x92 (i ++ 1 ∷ [])

-- ---- Both calls on a module

-- ./m to file 10 and ./n to file 11
abbrev table : List ℕ
table = two m ++ two 10 ++ two n ++ two 11

-- own file 9, require on
abbrev lent : Fields → Lent
lent items = record { file = 9; modes = modes_of 1; externals = []; table = table; tree = encode (module_with items) }

-- extraction in a fresh scope, and resolving of its records with the scope handed on
abbrev after : Fields → Outcome (Extracted × Resolved)
after items = do
  r ← extracted (lent items) rooms []
  t ← resolved (handed_on (modes_of 0) (lent items) r) room r.modules
  done (r, t)

-- both are accepted, and what they give has P
abbrev Accepted : (Extracted → Resolved → Type 0) → Outcome (Extracted × Resolved) → Type 0
Accepted P (done r) = P r.0 r.1
Accepted P (refused k p) = ⊥

-- what `takes` says of the namespace i of './m'
abbrev says : List ℕ → Fields → Bool
says i items = takes (rows_in table) (literal 1) (stands items i)

-- ---- Both ends of `import * as a from './m'`, in front of other items

-- well placed, to be taken apart, and taken apart into these properties
abbrev Apart : List (List ℕ) → Fields → Type 0
Apart ps items =
    (well_placed 0 items ≡ true) × (says (own a) items ≡ true) ×
    Accepted (λ r t. TakenApart (own a) (four 5) (literal 1) 0 ps items (parts_of r.out) (parts_of t.list)) (after items)

-- well placed, to be kept, and kept
abbrev Whole : Fields → Type 0
Whole items =
    (well_placed 0 items ≡ true) × (says (own a) items ≡ false) ×
    Accepted (λ r t. Kept (own a) (literal 1) 0 items (parts_of r.out) (parts_of t.list)) (after items)

-- a.x
one-use : Apart (two x ∷ []) (behind (statement ax ∷ []))
unfolding ending
one-use = (refl, refl, record { gone = refl; used = (refl, tt); declares = (_, refl, refl); records = refl })

-- a.x; a.y; a.x
repeated : Apart (two x ∷ two y ∷ two x ∷ []) (behind (statement ax ∷ statement ay ∷ statement ax ∷ []))
unfolding ending
repeated = (refl, refl, record { gone = refl; used = (refl, (refl, (refl, tt))); declares = (_, refl, refl); records = refl })

-- ; { a.x }, where the empty statement is dropped
in-block : Apart (two x ∷ []) (behind (leaf 0x40 [] ∷ fields 0x45 (statement ax ∷ []) ∷ []))
unfolding ending
in-block = (refl, refl, record { gone = refl; used = (refl, tt); declares = (_, refl, refl); records = refl })

-- a.x.y
abbrev member_of_use : Fields
member_of_use = behind (statement (member ax y) ∷ [])

chained : Apart (two x ∷ []) member_of_use
unfolding ending
chained = (refl, refl, record { gone = refl; used = (refl, tt); declares = (_, refl, refl); records = refl })

-- the use becomes x, and its member y stays
chained-out : Accepted (λ r t. parts_of r.out ≡ listed (from_m (named (exp x) ∷ []) ∷ statement (member (ident (exp x)) y) ∷ [])) (after member_of_use)
unfolding ending
chained-out = refl

-- export { b as a }; a.x: an exported name never counts
exported-name : Apart (two x ∷ []) (behind (exports (0 ∷ []) (1 ∷ own b ++ 1 ∷ own a) ∷ statement ax ∷ []))
unfolding ending
exported-name = (refl, refl, record { gone = refl; used = (refl, tt); declares = (_, refl, refl); records = refl })

-- no use
unused : Whole (behind [])
unfolding ending
unused = (refl, refl, record { declares = (_, refl, refl); records = refl; used = tt })

-- a.x; a[a.x]
by-expression : Whole (behind (statement ax ∷ statement (at ax) ∷ []))
unfolding ending
by-expression = (refl, refl, record { declares = (_, refl, refl); records = refl; used = (refl, (refl, (refl, tt))) })

-- import * as b from './n'; a[b.y]: what stands inside the brackets changes
inside-brackets : Whole (behind (spaced_n (own b) ∷ statement (at (member (ident (own b)) y)) ∷ []))
unfolding ending
inside-brackets = (refl, refl, record { declares = (_, refl, refl); records = refl; used = (refl, tt) })

-- a.x; a
as-value : Whole (behind (statement ax ∷ statement (ident (own a)) ∷ []))
unfolding ending
as-value = (refl, refl, record { declares = (_, refl, refl); records = refl; used = (refl, (refl, tt)) })

-- export { a }; a.x
exported : Whole (behind (exports (0 ∷ []) (1 ∷ own a ++ 0 ∷ []) ∷ statement ax ∷ []))
unfolding ending
exported = (refl, refl, record { declares = (_, refl, refl); records = refl; used = (refl, (refl, tt)) })

-- export { a } from './n'; a.x
exported-from : Whole (behind (exports (1 ∷ literal_n) (1 ∷ own a ++ 0 ∷ []) ∷ statement ax ∷ []))
unfolding ending
exported-from = (refl, refl, record { declares = (_, refl, refl); records = refl; used = (refl, (refl, tt)) })

-- ---- What goes wrong, for each clause of 'well placed', with a tree that breaks this clause alone (placement, Example)

-- of the namespace i that the import of './m' at the place k declares: what `takes` says, what the calls leave, and that this is not
-- the end it says
record Wrong (apart : Bool) (k : ℕ) (i : List ℕ) (items : Fields) (outs list : List Field) : Type 0 where
  told : says i items ≡ apart
  left : Accepted (λ r t. (parts_of r.out ≡ listed outs) × (parts_of t.list ≡ listed list)) (after items)
  fails : Accepted (λ r t. Ends apart i (literal 1) k (stands items i) items (lent items) r t → ⊥) (after items)

-- unlike things are not equal
unlike : {A : Type 0} {u v : A} (p : A → Bool) → u ≡ v → p u ≡ true → p v ≡ false → ⊥
unlike p e h k = true≢false (sym h ∙ ap p e ∙ k)

-- a source resolves to one module
one-module : (rows : List Row) (ms : Modules) (l : List ℕ) {j file k : ℕ} → ResolvesTo rows ms l j → file_of (value_of l) rows ≡ Some file → number_of file ms ≡ Some k → j ≡ k
one-module rows ms l {file = file} (g, e, h) u v = let z : g ≡ file = cc in cc

-- the id i is not the property p in the export context of module k
elsewhere : (i p : List ℕ) {j k : ℕ} → j ≡ k → ident i ≡ ident (p ++ four (export j)) → same i i ≡ true → same (p ++ four (export k)) i ≡ false → ⊥
elsewhere i p h e = unlike (λ g. same (fixed_of g) i) (e ∙ ap (λ j. ident (p ++ four (export j))) h)

-- imports precede other items: a.x; import * as a from './m'
-- The use is not listed, and the name stays.
late-fails : Wrong true 1 (own a) late (statement ax ∷ from_m (namespace (own a) ∷ []) ∷ []) (record_m (as_all (own a) ∷ []) ∷ [])
unfolding ending
late-fails = record { told = refl; left = (refl, refl); fails = λ e. cons≢nil e.2.gone }

-- share no source: import * as a from './m'; import * as b from './m'; a.x
-- The unused b forces the source, and the record lists more than x.
shared-source-fails : Wrong true 0 (own a) shared_source
    (from_m (named (exp x) ∷ []) ∷ from_m (namespace (own b) ∷ []) ∷ statement (ident (exp x)) ∷ [])
    (record_m (as_all (own a) ∷ as_all (own b) ∷ as-name (exp x) ∷ []) ∷ [])
unfolding ending
shared-source-fails = record { told = refl; left = (refl, refl); fails = λ e. unlike (λ o. has 0x92 (head_of (unwrap_or o none))) e.2.records refl refl }

-- share no local id: import * as a from './m'; import * as a from './n'; a.x
-- The use becomes x in the other source's export context, 7.
shared-local-fails : Wrong true 0 (own a) shared_local
    (from_m (named (exp x) ∷ []) ∷ from_n (named (exp x) ∷ []) ∷ statement (ident (two x ++ four 7)) ∷ [])
    (record_m (as-name (exp x) ∷ []) ∷ record_n 3 (as-name (exp x) ∷ []) ∷ [])
unfolding ending
shared-local-fails = record {
  told = refl;
  left = (refl, refl);
  fails = λ e.
      let h : e.0 ≡ 1 = one-module (rows_in table) (unmarked 9 ∷ unmarked 10 ∷ unmarked 11 ∷ []) (literal 1) e.1 refl refl in
      elsewhere (two x ++ four 7) (two x) h e.2.used.0 refl refl;
}

-- locals have own local context: import * as x from './m'; x.x, where x has the export context of './m'
-- The property is the id that should be gone.
other-context-fails : Wrong true 0 (exp x) other_context (from_m (named (exp x) ∷ []) ∷ statement (ident (exp x)) ∷ []) (record_m (as-name (exp x) ∷ []) ∷ [])
unfolding ending
other-context-fails = record { told = refl; left = (refl, refl); fails = λ e. cons≢nil e.2.gone }

-- a 22 is sole: import d, * as a from './m'; a.x
-- The declaration keeps a and does not list x, nor does the record.
in-company-fails : Wrong true 0 (own a) in_company
    (from_m (default (own d) ∷ namespace (own a) ∷ []) ∷ statement (ident (exp x)) ∷ [])
    (record_m (leaf 0x91 (own d ++ 1 ∷ two default_atom ++ four 0) ∷ []) ∷ [])
unfolding ending
in-company-fails = record { told = refl; left = (refl, refl); fails = λ e. cons≢nil e.2.gone }

-- namespace ids stand elsewhere only as ..: a.x; a.y = b
-- A target is neither rewritten nor does it force: the name stays.
as-target-fails : Wrong true 0 (own a) as-target
    (from_m (named (exp x) ∷ []) ∷ statement (ident (exp x)) ∷ statement (fields 0x66 (ay ∷ ident (own b) ∷ [])) ∷ [])
    (record_m (as-name (exp x) ∷ []) ∷ [])
unfolding ending
as-target-fails = record { told = refl; left = (refl, refl); fails = λ e. cons≢nil e.2.gone }

-- with *object* set: a.x; f(a).y
below-object-fails : Wrong true 0 (own a) below_object
    (from_m (named (exp x) ∷ []) ∷ statement (ident (exp x)) ∷ statement (member (call (ident (own f)) (ident (own a))) y) ∷ [])
    (record_m (as-name (exp x) ∷ []) ∷ [])
unfolding ending
below-object-fails = record { told = refl; left = (refl, refl); fails = λ e. cons≢nil e.2.gone }

-- as shorthand: a.x; ({ a })
as-shorthand-fails : Wrong true 0 (own a) as_shorthand
    (from_m (named (exp x) ∷ []) ∷ statement (ident (exp x)) ∷ statement (fields 0x69 (leaf 0x77 (own a) ∷ [])) ∷ [])
    (record_m (as-name (exp x) ∷ []) ∷ [])
unfolding ending
as-shorthand-fails = record { told = refl; left = (refl, refl); fails = λ e. cons≢nil e.2.gone }

-- with a private name: a.#x
-- The call is refused, so that no end is reached. Behind a use that forces a, as in a; a.#x, nothing goes wrong: it is kept.
abbrev forced_private : Fields
forced_private = behind (statement (ident (own a)) ∷ a_private ∷ [])

with-private-refused : after with_private ≡ refused 7 36
unfolding ending
with-private-refused = refl

with-private-kept : Accepted (λ r t. Kept (own a) (literal 1) 0 forced_private (parts_of r.out) (parts_of t.list)) (after forced_private)
unfolding ending
with-private-kept = record { declares = (_, refl, refl); records = refl; used = (refl, tt) }

-- no namespace is named require: import * as require from './m'; require('./m')
-- The import is kept, but the callee gets the export context.
namespace-require-fails : Wrong false 0 (own 0) namespace_require
    (from_m (namespace (own 0) ∷ []) ∷ statement (requiring (exp 0)) ∷ [])
    (record_m (as_all (own 0) ∷ []) ∷ [])
unfolding ending
namespace-require-fails = record { told = refl; left = (refl, refl); fails = λ e. unlike (λ g. same (fixed_of g) (exp 0)) e.used.0 refl refl }

-- nor a property of one: const q = a.require('./n')
-- The use becomes a call of require, whose callee gets the export context of './n'.
abbrev required_n : Module
required_n = record { file = 11; loaded = false; stored = false; cjs = true; wrapping = false }

property-require-fails : Wrong true 0 (own a) property_require
    (from_m (named (exp 0) ∷ []) ∷ const (own q) (call (ident (two 0 ++ four 7)) (leaf 0x61 literal_n)) ∷ [])
    (record_m (as-name (exp 0) ∷ []) ∷ record_n 1 (as-name (own q) ∷ []) ∷ [])
unfolding ending
property-require-fails = record {
  told = refl;
  left = (refl, refl);
  fails = λ e.
      let h : e.0 ≡ 1 = one-module (rows_in table) (unmarked 9 ∷ unmarked 10 ∷ required_n ∷ []) (literal 1) e.1 refl refl in
      elsewhere (two 0 ++ four 7) (two 0) h e.2.used.0 refl refl;
}
