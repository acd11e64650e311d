-- The cards of document 01 that ask for an extraction, each with what the card says it gives, and one sentence: the rules give that.
use Rattle.std.specs.Prelude.{None}
use Rattle.std.specs.Prelude.{ℕ, zero, suc, ◌≡◌, refl, true, false, List, [], ◌∷◌, ◌++◌, map, replicate}
use Rattle.report.specs.Counts.{no_counts}
use Rattle.scope.specs.Modules.{unmarked}
use Rattle.tree.specs.Tree.{Field, encode}
use Rattle.extraction_rules.specs.Call.{extraction}
use Rattle.extraction_rules.specs.Computes.{computing}
use Rattle.extraction_rules.specs.Build.{a, x, b, d, f, y, q, own, exp, literal, leaf, fields, program, imports, named, default, namespace}
use Rattle.extraction_rules.specs.Build.{const, statement, ident, member, call, requiring, require, metadata, records, collected, lazy, forced}
use Rattle.extraction_rules.specs.Build.{Case, lending, rooms, holding, files, accepts, refuses}

-- `01 0000` gives itself, records `02 0000`
pub card1 : Case
card1 = record {
  lent = lending 0 (0x01 ∷ 0x00 ∷ 0x00 ∷ []);
  left = record {
    refusal = None;
    modules = unmarked 9 ∷ [];
    report = no_counts;
    work = 0x01 ∷ 0x00 ∷ 0x00 ∷ replicate 247 0;
    out = 0x01 ∷ 0x00 ∷ 0x00 ∷ replicate 247 0;
    records = 0x02 ∷ 0x00 ∷ 0x00 ∷ replicate 247 0;
  };
}

-- import * as a from './m'; a.x;
bytes2 : List ℕ
bytes2 =
    0x01 ∷ 0x00 ∷ 0x26 ∷
    0x10 ∷ 0x00 ∷ 0x0F ∷ 0x00 ∷ 0x14 ∷ 0x00 ∷ 0x00 ∷ 0x00 ∷ 0x01 ∷
    0x22 ∷ 0x00 ∷ 0x06 ∷ 0x00 ∷ 0x15 ∷ 0x00 ∷ 0x00 ∷ 0x00 ∷ 0x02 ∷
    0x44 ∷ 0x00 ∷ 0x11 ∷
    0x63 ∷ 0x00 ∷ 0x0E ∷
    0x60 ∷ 0x00 ∷ 0x06 ∷ 0x00 ∷ 0x15 ∷ 0x00 ∷ 0x00 ∷ 0x00 ∷ 0x02 ∷
    0x70 ∷ 0x00 ∷ 0x02 ∷ 0x00 ∷ 0x16 ∷ []

records2 : List ℕ
records2 =
    0x02 ∷ 0x00 ∷ 0x13 ∷
    0x80 ∷ 0x00 ∷ 0x10 ∷ 0x00 ∷ 0x14 ∷ 0x00 ∷ 0x00 ∷ 0x00 ∷ 0x01 ∷
    0x20 ∷ 0x00 ∷ 0x07 ∷ 0x00 ∷ 0x16 ∷ 0x00 ∷ 0x00 ∷ 0x00 ∷ 0x05 ∷ 0x00 ∷ []

-- a.x, and what it becomes
abbrev ax : Field
ax = statement (member (ident (own a)) x)

abbrev apart : Field
apart = statement (ident (exp x))

pub card2 : Case
card2 = record {
  lent = lending 0 bytes2;
  left = record {
    refusal = None;
    modules = files false false;
    report = no_counts;
    work = holding (program (imports (namespace (own a) ∷ metadata ∷ []) ∷ ax ∷ []));
    out = holding (program (imports (named (exp x) ∷ metadata ∷ []) ∷ apart ∷ []));
    records = records2 ++ replicate 228 0;
  };
}

-- `f(a)` before that import: `a.x` still rewritten, `f(a)` stays
abbrev fa : Field
fa = statement (call (ident (own f)) (ident (own a)))

pub card3 : Case
card3 = record {
  lent = lending 0 (encode (program (fa ∷ imports (namespace (own a) ∷ []) ∷ ax ∷ [])));
  left = accepts (files false false)
      (program (fa ∷ imports (namespace (own a) ∷ metadata ∷ []) ∷ ax ∷ []))
      (program (fa ∷ imports (named (exp x) ∷ metadata ∷ []) ∷ apart ∷ []))
      (records (collected (named (exp x) ∷ []) ∷ []));
}

-- `f(a).y; a.x` after it: the same
abbrev fay : Field
fay = statement (member (call (ident (own f)) (ident (own a))) y)

pub card4 : Case
card4 = record {
  lent = lending 0 (encode (program (imports (namespace (own a) ∷ []) ∷ fay ∷ ax ∷ [])));
  left = accepts (files false false)
      (program (imports (namespace (own a) ∷ metadata ∷ []) ∷ fay ∷ ax ∷ []))
      (program (imports (named (exp x) ∷ metadata ∷ []) ∷ fay ∷ apart ∷ []))
      (records (collected (named (exp x) ∷ []) ∷ []));
}

-- `import d, * as a`, `a.x`: rewritten, record holds d only
pub card5 : Case
card5 = record {
  lent = lending 0 (encode (program (imports (default (own d) ∷ namespace (own a) ∷ []) ∷ ax ∷ [])));
  left = accepts (files false false)
      (program (imports (default (own d) ∷ namespace (own a) ∷ metadata ∷ []) ∷ ax ∷ []))
      (program (imports (default (own d) ∷ namespace (own a) ∷ metadata ∷ []) ∷ apart ∷ []))
      (records (collected (default (own d) ∷ []) ∷ []));
}

-- Two namespaces a, b of ./m, `a.x; b.x`: only `a.x` rewritten, source forced
abbrev bx : Field
bx = statement (member (ident (own b)) x)

pub card6 : Case
card6 = record {
  lent = lending 0 (encode (program (imports (namespace (own a) ∷ []) ∷ imports (namespace (own b) ∷ []) ∷ ax ∷ bx ∷ [])));
  left = accepts (files false true)
      (program (imports (namespace (own a) ∷ metadata ∷ []) ∷ imports (namespace (own b) ∷ metadata ∷ []) ∷ ax ∷ bx ∷ []))
      (program (imports (named (exp x) ∷ metadata ∷ []) ∷ imports (namespace (own b) ∷ metadata ∷ []) ∷ apart ∷ bx ∷ []))
      (records (collected (namespace (own a) ∷ namespace (own b) ∷ named (exp x) ∷ []) ∷ forced ∷ []));
}

-- (Config on in 7 to 9.) `{}` before `require('./m')`: lazy
pub card7 : Case
card7 = record {
  lent = lending 1 (encode (program (leaf 0x45 [] ∷ statement (requiring require) ∷ [])));
  left = accepts (files true false)
      (program (leaf 0x45 [] ∷ statement (requiring (exp 0)) ∷ []))
      (program (leaf 0x45 [] ∷ statement (requiring (exp 0)) ∷ []))
      (records (lazy [] ∷ []));
}

-- without: collected
pub card7-without : Case
card7-without = record {
  lent = lending 1 (encode (program (statement (requiring require) ∷ [])));
  left = accepts (files true false)
      (program (statement (requiring (exp 0)) ∷ []))
      (program (statement (requiring (exp 0)) ∷ []))
      (records (collected [] ∷ []));
}

-- `const q = require('./m')`: one collected, two lazy
pub card8 : Case
card8 = record {
  lent = lending 1 (encode (program (const (own q) (requiring require) ∷ [])));
  left = accepts (files true false)
      (program (const (own q) (requiring (exp 0)) ∷ []))
      (program (const (own q) (requiring (exp 0)) ∷ []))
      (records (collected [] ∷ lazy (named (own q) ∷ []) ∷ lazy (named (own q) ∷ []) ∷ []));
}

-- `const q = a.require('./m')` after card 2's import: one lazy, from pass two
abbrev a_require : Field
a_require = call (member (ident (own a)) 0) (leaf 0x61 (literal 1))

pub card9 : Case
card9 = record {
  lent = lending 1 (encode (program (imports (namespace (own a) ∷ []) ∷ const (own q) a_require ∷ [])));
  left = accepts (files true false)
      (program (imports (namespace (own a) ∷ metadata ∷ []) ∷ const (own q) a_require ∷ []))
      (program (imports (named (exp 0) ∷ metadata ∷ []) ∷ const (own q) (requiring (exp 0)) ∷ []))
      (records (collected (named (exp 0) ∷ []) ∷ lazy (named (own q) ∷ []) ∷ []));
}

-- Depth 64 passes, 65 is 4: the module, n blocks, one inside the other, and an empty statement
blocks : ℕ → Field → Field
blocks zero g = g
blocks (suc n) g = blocks n (fields 0x45 (g ∷ []))

pub deep : ℕ → Field
deep n = program (blocks n (leaf 0x40 []) ∷ [])

pub card11 : Case
card11 = record {
  lent = lending 0 (encode (deep 62));
  left = accepts (unmarked 9 ∷ []) (deep 62) (deep 62) (records []);
}

pub card11-deeper : Case
card11-deeper = record {
  lent = lending 0 (encode (deep 63));
  left = refuses 4 192;
}

pub cards : List Case
cards = card1 ∷ card2 ∷ card3 ∷ card4 ∷ card5 ∷ card6 ∷ card7 ∷ card7-without ∷ card8 ∷ card9 ∷ card11 ∷ card11-deeper ∷ []

-- `cards`, with what they are made of: a proof about them says `unfolding listing`
unfoldable pub listing : List Case
unfolding cards card1 card2 card3 card4 card5 card6 card7 card7-without card8 card9 card11 card11-deeper bytes2 records2 blocks deep
listing = cards

-- in a fresh scope, each leaves what its card says
pub cards-hold : map (λ (c : Case). extraction c.lent rooms []) cards ≡ map (λ (c : Case). c.left) cards
unfolding computing listing
cards-hold = refl
