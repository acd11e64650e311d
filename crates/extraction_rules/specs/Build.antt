-- Trees by hand, for the worked cases: the cards' names, and a function for each field that they use.
-- Document 01's cards: a=21, x=22, ./m=20 to file 10, own file 9.
use Rattle.std.specs.Prelude.{None, Some}
use Rattle.std.specs.Prelude.{ℕ, ◌-◌, Bool, false, List, [], ◌∷◌, ◌++◌, replicate}
use Rattle.modes.specs.Bits.{modes_of}
use Rattle.report.specs.Counts.{no_counts}
use Rattle.scope.specs.Modules.{Modules, unmarked}
use Rattle.tree.specs.Layout.{two, four}
use Rattle.tree.specs.Tree.{Field, field, Fields, none, more, encode, size}
use Rattle.extraction_rules.specs.Call.{Lent, Lengths, Left}

-- ---- Names

abbrev pub m : ℕ
m = 20

abbrev pub a : ℕ
a = 21

abbrev pub x : ℕ
x = 22

abbrev pub b : ℕ
b = 24

abbrev pub d : ℕ
d = 25

abbrev pub f : ℕ
f = 26

abbrev pub y : ℕ
y = 27

abbrev pub q : ℕ
q = 28

-- an id in own local context, 2, and one in the export context of ./m, 5
abbrev pub own : ℕ → List ℕ
own n = two n ++ four 2

abbrev pub exp : ℕ → List ℕ
exp n = two n ++ four 5

-- the literal './m' with the stamp n
abbrev pub literal : ℕ → List ℕ
literal n = two m ++ four n

-- ---- Fields

abbrev pub listed : List Field → Fields
listed [] = none
listed (g ∷ l) = more g (listed l)

abbrev pub leaf : ℕ → List ℕ → Field
leaf t l = field t l none

abbrev pub fields : ℕ → List Field → Field
fields t l = field t [] (listed l)

abbrev pub program : List Field → Field
program l = fields 0x01 l

abbrev pub imports : List Field → Field
imports l = field 0x10 (literal 1) (listed l)

abbrev pub named : List ℕ → Field
named i = leaf 0x20 (i ++ 0 ∷ [])

abbrev pub default : List ℕ → Field
default i = leaf 0x21 i

abbrev pub namespace : List ℕ → Field
namespace i = leaf 0x22 i

abbrev pub const : List ℕ → Field → Field
const i e = fields 0x41 (fields 0x42 (leaf 0x50 i ∷ e ∷ []) ∷ [])

abbrev pub statement : Field → Field
statement e = fields 0x44 (e ∷ [])

abbrev pub ident : List ℕ → Field
ident i = leaf 0x60 i

abbrev pub member : Field → ℕ → Field
member o n = fields 0x63 (o ∷ leaf 0x70 (two n) ∷ [])

abbrev pub call : Field → Field → Field
call c e = fields 0x65 (c ∷ field 0x75 (0 ∷ []) (more e none) ∷ [])

-- `i('./m')`, for i named require
abbrev pub requiring : List ℕ → Field
requiring i = call (ident i) (leaf 0x61 (literal 1))

-- require in the empty context
abbrev pub require : List ℕ
require = two 0 ++ four 0

-- the attribute `__swc_bundler__export_ctxt__` with the value "5"
abbrev pub context5 : Field
context5 =
    leaf 0x30 (1 ∷ 1 ∷ 28 ∷
    95 ∷ 95 ∷ 115 ∷ 119 ∷ 99 ∷ 95 ∷ 98 ∷ 117 ∷ 110 ∷ 100 ∷ 108 ∷ 101 ∷ 114 ∷ 95 ∷ 95 ∷
    101 ∷ 120 ∷ 112 ∷ 111 ∷ 114 ∷ 116 ∷ 95 ∷ 99 ∷ 116 ∷ 120 ∷ 116 ∷ 95 ∷ 95 ∷
    53 ∷ [])

abbrev pub metadata : Field
metadata = fields 0x2F (context5 ∷ [])

abbrev pub records : List Field → Field
records l = fields 0x02 l

abbrev pub collected : List Field → Field
collected l = field 0x80 (literal 1) (listed l)

abbrev pub lazy : List Field → Field
lazy l = field 0x81 (literal 1) (listed l)

abbrev pub forced : Field
forced = leaf 0x83 (two m)

-- ---- Calls

-- a case: what is lent, and what the call leaves
pub record Case : Type 0 where
  pub lent : Lent
  pub left : Left

-- the modes by their bits
abbrev pub lending : ℕ → List ℕ → Lent
lending bits t = record { file = 9; modes = modes_of bits; externals = []; table = two m ++ two 10; tree = t }

abbrev pub room : ℕ
room = 250

abbrev pub rooms : Lengths
rooms = record { work = room; out = room; records = room }

-- a buffer that holds a field, zeros behind
abbrev pub holding : Field → List ℕ
holding g = encode g ++ replicate (room - size g) 0

-- file 9 is module 0, and file 10 is module 1 with these two marks
abbrev pub files : Bool → Bool → Modules
files c w = unmarked 9 ∷ record { file = 10; loaded = false; stored = false; cjs = c; wrapping = w } ∷ []

abbrev pub accepts : Modules → Field → Field → Field → Left
accepts ms w o r = record { refusal = None; modules = ms; report = no_counts; work = holding w; out = holding o; records = holding r }

-- refused in a fresh scope
abbrev pub refuses : ℕ → ℕ → Left
refuses n p =
    record { refusal = Some (n, p); modules = []; report = no_counts; work = replicate room 0; out = replicate room 0; records = replicate room 0 }
