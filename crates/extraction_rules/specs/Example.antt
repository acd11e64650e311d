-- Worked cases of our own, beside the cards, for what the cards do not show: first the tempting mistakes that document 01 names.
use Rattle.std.specs.Prelude.{ℕ, ◌≡◌, refl, true, false, List, [], ◌∷◌, ◌++◌, map}
use Rattle.tree.specs.Layout.{two, four}
use Rattle.tree.specs.Tree.{Field, field, none, more, encode}
use Rattle.extraction_rules.specs.Call.{extraction}
use Rattle.extraction_rules.specs.Computes.{computing}
use Rattle.extraction_rules.specs.Build.{a, x, b, d, y, q, own, exp, literal, listed, leaf, fields, program, imports, named, default}
use Rattle.extraction_rules.specs.Build.{namespace, statement, ident, member, requiring, require, context5, metadata, records, collected, lazy}
use Rattle.extraction_rules.specs.Build.{forced, Case, lending, rooms, files, accepts, refuses}

-- a.x, and what it becomes
abbrev ax : Field
ax = statement (member (ident (own a)) x)

abbrev apart : Field
apart = statement (ident (exp x))

-- Removing repeated usages: `a.x; a.x` stand twice in the declaration and in the record
repeated : Case
repeated = record {
  lent = lending 0 (encode (program (imports (namespace (own a) ∷ []) ∷ ax ∷ ax ∷ [])));
  left = accepts (files false false)
      (program (imports (namespace (own a) ∷ metadata ∷ []) ∷ ax ∷ ax ∷ []))
      (program (imports (named (exp x) ∷ named (exp x) ∷ metadata ∷ []) ∷ apart ∷ apart ∷ []))
      (records (collected (named (exp x) ∷ named (exp x) ∷ []) ∷ []));
}

-- Merging by literal: two imports of one value with different stamps make one record; the second pass goes by the literal, so the
-- properties of the second import are appended to no record
abbrev later : List Field → Field
later l = field 0x10 (literal 2) (listed l)

merged : Case
merged = record {
  lent = lending 0 (encode (program (imports (default (own d) ∷ []) ∷ later (namespace (own a) ∷ []) ∷ ax ∷ [])));
  left = accepts (files false false)
      (program (imports (default (own d) ∷ metadata ∷ []) ∷ later (namespace (own a) ∷ metadata ∷ []) ∷ ax ∷ []))
      (program (imports (default (own d) ∷ metadata ∷ []) ∷ later (named (exp x) ∷ metadata ∷ []) ∷ apart ∷ []))
      (records (collected (default (own d) ∷ []) ∷ []));
}

-- Restoring *top* after a block: `() => {}; require('./m')` is lazy
arrow : Case
arrow = record {
  lent = lending 1 (encode (program (statement (fields 0x67 (leaf 0x45 [] ∷ [])) ∷ statement (requiring require) ∷ [])));
  left = accepts (files true false)
      (program (statement (fields 0x67 (leaf 0x45 [] ∷ [])) ∷ statement (requiring (exp 0)) ∷ []))
      (program (statement (fields 0x67 (leaf 0x45 [] ∷ [])) ∷ statement (requiring (exp 0)) ∷ []))
      (records (lazy [] ∷ []));
}

-- *object* is restored: in `[a.x, a]` the second a is bare, so the import is kept
abbrev pair : Field
pair = statement (fields 0x6A (member (ident (own a)) x ∷ ident (own a) ∷ []))

restored : Case
restored = record {
  lent = lending 0 (encode (program (imports (namespace (own a) ∷ []) ∷ pair ∷ [])));
  left = accepts (files false true)
      (program (imports (namespace (own a) ∷ metadata ∷ []) ∷ pair ∷ []))
      (program (imports (namespace (own a) ∷ metadata ∷ []) ∷ pair ∷ []))
      (records (collected (namespace (own a) ∷ []) ∷ forced ∷ []));
}

-- metadata stands behind the attributes that an import has
abbrev older : Field
older = leaf 0x30 (1 ∷ 1 ∷ 1 ∷ 97 ∷ 98 ∷ [])

attributes : Case
attributes = record {
  lent = lending 0 (encode (program (imports (default (own d) ∷ fields 0x2F (older ∷ []) ∷ []) ∷ [])));
  left = accepts (files false false)
      (program (imports (default (own d) ∷ fields 0x2F (older ∷ context5 ∷ []) ∷ []) ∷ []))
      (program (imports (default (own d) ∷ fields 0x2F (older ∷ context5 ∷ []) ∷ []) ∷ []))
      (records (collected (default (own d) ∷ []) ∷ []));
}

-- outside names get the export context, a missing one is the local name; `export { a }` forces, and its name gets the local context
abbrev exporting : List ℕ → Field
exporting l = field 0x11 (0 ∷ []) (more (leaf 0x23 l) none)

abbrev specifiers : List Field → List Field
specifiers l = leaf 0x20 (own d ++ 1 ∷ exp d) ∷ leaf 0x20 (own b ++ 1 ∷ exp y) ∷ namespace (own a) ∷ l

names : Case
names = record {
  lent =
      lending 0
      (encode (program (imports (named (own d) ∷ leaf 0x20 (own b ++ 1 ∷ two y ++ four 0) ∷ namespace (own a) ∷ []) ∷ exporting (1 ∷ own a ++ 0 ∷ []) ∷ [])));
  left = accepts (files false true)
      (program (imports (specifiers (metadata ∷ [])) ∷ exporting (1 ∷ own a ++ 1 ∷ own a) ∷ []))
      (program (imports (specifiers (metadata ∷ [])) ∷ exporting (1 ∷ own a ++ 1 ∷ own a) ∷ []))
      (records (collected (specifiers []) ∷ forced ∷ []));
}

-- `a.x = a.x`: the target is no expression; empty statements and empty declarations go
abbrev assigning : Field → Field
assigning e = statement (fields 0x66 (member (ident (own a)) x ∷ e ∷ []))

target : Case
target = record {
  lent = lending 0 (encode (program (imports (namespace (own a) ∷ []) ∷ leaf 0x40 [] ∷ leaf 0x41 [] ∷ assigning (member (ident (own a)) x) ∷ [])));
  left = accepts (files false false)
      (program (imports (namespace (own a) ∷ metadata ∷ []) ∷ assigning (member (ident (own a)) x) ∷ []))
      (program (imports (named (exp x) ∷ metadata ∷ []) ∷ assigning (ident (exp x)) ∷ []))
      (records (collected (named (exp x) ∷ []) ∷ []));
}

-- Computed: in `a.x; a[a.x]` the second use forces a, so the import is kept
abbrev at_ax : Field
at_ax = statement (fields 0x63 (ident (own a) ∷ fields 0x71 (member (ident (own a)) x ∷ []) ∷ []))

computed : Case
computed = record {
  lent = lending 0 (encode (program (imports (namespace (own a) ∷ []) ∷ ax ∷ at_ax ∷ [])));
  left = accepts (files false true)
      (program (imports (namespace (own a) ∷ metadata ∷ []) ∷ ax ∷ at_ax ∷ []))
      (program (imports (namespace (own a) ∷ metadata ∷ []) ∷ ax ∷ at_ax ∷ []))
      (records (collected (namespace (own a) ∷ []) ∷ forced ∷ []));
}

-- the 71 of a super is walked with *object* clear: in `super[a].y` a is bare
abbrev super_a : Field
super_a = statement (member (fields 0x64 (fields 0x71 (ident (own a) ∷ []) ∷ [])) y)

super-computed : Case
super-computed = record {
  lent = lending 0 (encode (program (imports (namespace (own a) ∷ []) ∷ ax ∷ super_a ∷ [])));
  left = accepts (files false true)
      (program (imports (namespace (own a) ∷ metadata ∷ []) ∷ ax ∷ super_a ∷ []))
      (program (imports (namespace (own a) ∷ metadata ∷ []) ∷ ax ∷ super_a ∷ []))
      (records (collected (namespace (own a) ∷ []) ∷ forced ∷ []));
}

-- the callee of a require is an expression like others: a namespace named require is forced by it
abbrev required_x : Field
required_x = statement (member (ident (own 0)) x)

callee : Case
callee = record {
  lent = lending 1 (encode (program (imports (namespace (own 0) ∷ []) ∷ required_x ∷ statement (requiring (own 0)) ∷ [])));
  left = accepts (files true true)
      (program (imports (namespace (own 0) ∷ metadata ∷ []) ∷ required_x ∷ statement (requiring (exp 0)) ∷ []))
      (program (imports (namespace (own 0) ∷ metadata ∷ []) ∷ required_x ∷ statement (requiring (exp 0)) ∷ []))
      (records (collected (namespace (own 0) ∷ []) ∷ forced ∷ []));
}

-- binding ids: `const [q = b] = require('./m')` names q, and not b
abbrev defaulting : List ℕ → Field
defaulting i = fields 0x41 (fields 0x42 (fields 0x51 (fields 0x55 (leaf 0x50 (own q) ∷ ident (own b) ∷ []) ∷ []) ∷ requiring i ∷ []) ∷ [])

binding : Case
binding = record {
  lent = lending 1 (encode (program (defaulting require ∷ [])));
  left = accepts (files true false)
      (program (defaulting (exp 0) ∷ []))
      (program (defaulting (exp 0) ∷ []))
      (records (collected [] ∷ lazy (named (own q) ∷ []) ∷ lazy (named (own q) ∷ []) ∷ []));
}

-- refusals: a private name is 7 at the 72, a string name 6 at its 20
private-name : Case
private-name = record {
  lent = lending 0 (encode (program (imports (namespace (own a) ∷ []) ∷ statement (fields 0x63 (ident (own a) ∷ leaf 0x72 (two x) ∷ [])) ∷ [])));
  left = refuses 7 36;
}

string-name : Case
string-name = record {
  lent = lending 0 (encode (program (imports (default (own d) ∷ leaf 0x20 (own b ++ 2 ∷ two y) ∷ []) ∷ [])));
  left = refuses 6 21;
}

pub examples : List Case
examples = repeated ∷ merged ∷ arrow ∷ restored ∷ attributes ∷ names ∷ target ∷ computed ∷ super-computed ∷ callee ∷ binding ∷ private-name ∷ string-name ∷ []

-- in a fresh scope, each leaves what it says
pub examples-hold : map (λ (c : Case). extraction c.lent rooms []) examples ≡ map (λ (c : Case). c.left) examples
unfolding computing examples repeated merged arrow restored attributes names target computed super-computed callee binding private-name string-name
examples-hold = refl
