-- The grammar packed into numbers, as the code has it: a slot is a byte, a rule is four of them, a tag has a bit for each set that it is in.
-- A model of the tables in the code: `read` does not reach it, and PackedLaws shows that it says what Grammar says.
use Rattle.std.specs.Prelude.{ℕ, ◌/◌, ◌%◌, cond, List, [], ◌∷◌, eqb, ltb, Option, Some, None, Result, Ok, Err}
use Rattle.tree.specs.declared.grammar.Set.{Set}
use Rattle.tree.specs.declared.grammar.Set.TheVariants.{Module, Item, Specifier, ExportSpecifier, Attributes, Attribute, Declaration}
use Rattle.tree.specs.declared.grammar.Set.TheVariants.{Statement, Declarator, Block, Pattern, PatternProperty, Expression, Callee, Target}
use Rattle.tree.specs.declared.grammar.Set.TheVariants.{Body, Member, SuperMember, Argument, Property, Records, Collected, Lazy, Dynamic}
use Rattle.tree.specs.declared.grammar.Set.TheVariants.{Forced}
use Rattle.tree.specs.declared.grammar.Slot.{Slot}
use Rattle.tree.specs.declared.grammar.Slot.TheVariants.{Nothing, One, Maybe, Many}
use Rattle.tree.specs.declared.grammar.Rule.{Rule}
use Rattle.tree.specs.declared.read.Why.{Why}
use Rattle.tree.specs.declared.read.Head.{Head}
use Rattle.tree.specs.declared.read.Head.TheVariants.{Bad, Child}
use Rattle.tree.specs.Grammar.{find, parts4}
use Rattle.tree.specs.Runs.{Run, lookup}

-- a number for each set
abbrev pub set_numbers : List (ℕ × Set)
set_numbers =
    (0, Module) ∷
    (1, Item) ∷
    (2, Specifier) ∷
    (3, ExportSpecifier) ∷
    (4, Attributes) ∷
    (5, Attribute) ∷
    (6, Declaration) ∷
    (7, Statement) ∷
    (8, Declarator) ∷
    (9, Block) ∷
    (10, Pattern) ∷
    (11, PatternProperty) ∷
    (12, Expression) ∷
    (13, Callee) ∷
    (14, Target) ∷
    (15, Body) ∷
    (16, Member) ∷
    (17, SuperMember) ∷
    (18, Argument) ∷
    (19, Property) ∷
    (20, Records) ∷
    (21, Collected) ∷
    (22, Lazy) ∷
    (23, Dynamic) ∷
    (24, Forced) ∷
    []

-- the set of a number; every number from 25 on stands for the first set, so that all have one
unfoldable pub unpack_set : ℕ → Set
unpack_set i = find i set_numbers Module

-- the slot of a byte: 32 and the set's number for one, 64 for at most one, 96 for any number
unfoldable pub unpack_slot : ℕ → Slot
unpack_slot n =
    cond (eqb n 0) Nothing
    (cond (ltb n 64) (One (unpack_set (n % 32)))
    (cond (ltb n 96) (Maybe (unpack_set (n % 32))) (Many (unpack_set (n % 32)))))

-- the rule of four bytes, the first slot lowest
unfoldable pub unpack_rule : ℕ → Rule
unpack_rule n =
    parts4 (unpack_slot (n % 256)) (unpack_slot (n / 256 % 256)) (unpack_slot (n / 256 / 256 % 256)) (unpack_slot (n / 256 / 256 / 256 % 256))

-- what the code answers, with the rules unpacked
abbrev pub unpack_step : Option ℕ → Option Rule
unpack_step (Some n) = Some (unpack_rule n)
unpack_step None = None

abbrev pub unpack_head : Result (ℕ × ℕ) Why → Head
unpack_head (Ok (n, stop)) = Child (unpack_rule n) stop
unpack_head (Err w) = Bad w

-- for each tag its sets, a bit for each, and above these 32 bits its rule: tags below 80
abbrev pub low_entries : List Run
low_entries =
    (0x01, 0x01, 0x61fe000001) ∷
    (0x02, 0x02, 0x7877767500100000) ∷
    (0x10, 0x10, 0x446200000002) ∷
    (0x11, 0x11, 0x6300000002) ∷
    (0x12, 0x12, 0x2) ∷
    (0x13, 0x13, 0x2600000002) ∷
    (0x14, 0x14, 0x2c00000002) ∷
    (0x20, 0x22, 0x4) ∷
    (0x23, 0x24, 0x8) ∷
    (0x2f, 0x2f, 0x6500000010) ∷
    (0x30, 0x30, 0x20) ∷
    (0x40, 0x40, 0x82) ∷
    (0x41, 0x41, 0x68000000c2) ∷
    (0x42, 0x42, 0x4c2a00000100) ∷
    (0x43, 0x43, 0x296a000000c2) ∷
    (0x44, 0x44, 0x2c00000082) ∷
    (0x45, 0x45, 0x6700008282) ∷
    (0x46, 0x46, 0x47272c00000082) ∷
    (0x47, 0x47, 0x4c00000082) ∷
    (0x48, 0x48, 0x272c00000082) ∷
    (0x50, 0x50, 0x4400) ∷
    (0x51, 0x51, 0x6a00000400) ∷
    (0x52, 0x52, 0x6b00000400) ∷
    (0x53, 0x53, 0x2a00000800) ∷
    (0x54, 0x54, 0x4c00000800) ∷
    (0x55, 0x55, 0x2c2a00000400) ∷
    (0x56, 0x56, 0x2a00000400) ∷
    (0x60, 0x62, 0xb000) ∷
    (0x63, 0x63, 0x302c0000f000) ∷
    (0x64, 0x64, 0x310000b000) ∷
    (0x65, 0x65, 0x722d0000b000) ∷
    (0x66, 0x66, 0x2c2e0000b000) ∷
    (0x67, 0x67, 0x2f6a0000b000) ∷
    (0x68, 0x68, 0x296a0000b000) ∷
    (0x69, 0x69, 0x730000b000) ∷
    (0x6a, 0x6a, 0x6c0000b000) ∷
    (0x6b, 0x6b, 0x2c2c0000b000) ∷
    (0x6c, 0x6c, 0x2c2c2c0000b000) ∷
    (0x6d, 0x6e, 0x2c0000b000) ∷
    (0x70, 0x70, 0x30000) ∷
    (0x71, 0x71, 0x2c00030000) ∷
    (0x72, 0x72, 0x10000) ∷
    (0x73, 0x74, 0x2000) ∷
    (0x75, 0x75, 0x2c00040000) ∷
    (0x77, 0x77, 0x80000) ∷
    (0x78, 0x78, 0x2c00080000) ∷
    []

-- tags from 80 on
abbrev pub high_entries : List Run
high_entries =
    (0x80, 0x80, 0x6200200000) ∷
    (0x81, 0x81, 0x6200400000) ∷
    (0x82, 0x82, 0x800000) ∷
    (0x83, 0x83, 0x1000000) ∷
    []

unfoldable pub entry_at : ℕ → ℕ
entry_at t = cond (ltb t 0x80) (lookup low_entries t) (lookup high_entries t)

unfoldable pub sets_at : ℕ → ℕ
sets_at t = entry_at t % 4294967296

unfoldable pub packed_rule_at : ℕ → ℕ
packed_rule_at t = entry_at t / 4294967296
