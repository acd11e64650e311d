-- Worked examples of reading, by computation.
use Rattle.std.specs.Prelude.{ℕ, zero, suc, ◌*◌, ◌≡◌, refl, List, [], ◌∷◌}
use Rattle.tree.specs.declared.grammar.Set.{Set}
use Rattle.tree.specs.declared.grammar.Set.TheVariants.{Module, Attributes, Records}
use Rattle.tree.specs.declared.read.Why.TheVariants.{Misplaced, Cut, Lacking, Deep}
use Rattle.tree.specs.Layout.{skip_at, literal_end}
use Rattle.tree.specs.Tree.{Field, field, Fields, none, more, framed, encode}
use Rattle.tree.specs.Grammar.{within, holds_at, rule_of, pieces_of, slot_at, step_by, step_at}
use Rattle.tree.specs.Access.{value_at, kinds, choice_of, on_choice, kind_at, key_at, piece_at, then_piece, fixed_at, length_at, extent_at}
use Rattle.tree.specs.Read.{Reading, fine, refused, on_extent, on_step, head_at, on_fixed, content_by, on_head, children, children_at, read}

-- `read`, with all that it computes by: an example says `unfolding reading`
unfoldable pub reading : Set → List ℕ → Reading Fields
unfolding skip_at literal_end within holds_at rule_of pieces_of slot_at step_by step_at value_at kinds choice_of on_choice kind_at key_at piece_at then_piece fixed_at
    length_at extent_at on_extent on_step head_at on_fixed content_by on_head children children_at read
reading root s = read root s

-- document 01's second worked case: `import * as a from './m'; a.x;`
pub bytes2 : List ℕ
bytes2 =
    0x01 ∷ 0x00 ∷ 0x26 ∷
    0x10 ∷ 0x00 ∷ 0x0f ∷ 0x00 ∷ 0x14 ∷ 0x00 ∷ 0x00 ∷ 0x00 ∷ 0x01 ∷
    0x22 ∷ 0x00 ∷ 0x06 ∷ 0x00 ∷ 0x15 ∷ 0x00 ∷ 0x00 ∷ 0x00 ∷ 0x02 ∷
    0x44 ∷ 0x00 ∷ 0x11 ∷ 0x63 ∷ 0x00 ∷ 0x0e ∷
    0x60 ∷ 0x00 ∷ 0x06 ∷ 0x00 ∷ 0x15 ∷ 0x00 ∷ 0x00 ∷ 0x00 ∷ 0x02 ∷
    0x70 ∷ 0x00 ∷ 0x02 ∷ 0x00 ∷ 0x16 ∷ []

namespace : Field
namespace = field 0x22 (0x00 ∷ 0x15 ∷ 0x00 ∷ 0x00 ∷ 0x00 ∷ 0x02 ∷ []) none

imported : Field
imported = field 0x10 (0x00 ∷ 0x14 ∷ 0x00 ∷ 0x00 ∷ 0x00 ∷ 0x01 ∷ []) (more namespace none)

object : Field
object = field 0x60 (0x00 ∷ 0x15 ∷ 0x00 ∷ 0x00 ∷ 0x00 ∷ 0x02 ∷ []) none

member : Field
member = field 0x63 [] (more object (more (field 0x70 (0x00 ∷ 0x16 ∷ []) none) none))

pub tree2 : Field
tree2 = field 0x01 [] (more imported (more (field 0x44 [] (more member none)) none))

encode2 : encode tree2 ≡ bytes2
unfolding encode framed bytes2 tree2 imported namespace object member
encode2 = refl

read2 : read Module bytes2 ≡ fine (more tree2 none)
unfolding reading bytes2 tree2 imported namespace object member
read2 = refl

-- n blocks, one inside the other
nested : ℕ → Fields
nested zero = none
nested (suc n) = more (field 0x45 [] (nested n)) none

-- depth 64 passes; 65 is deep, at the field of that depth
depth64 : read Module (encode (field 0x01 [] (nested 63))) ≡ fine (more (field 0x01 [] (nested 63)) none)
unfolding reading encode framed nested
depth64 = refl

depth65 : read Module (encode (field 0x01 [] (nested 64))) ≡ refused Deep (64 * 3)
unfolding reading encode framed nested
depth65 = refl

-- a statement where an expression must stand; bytes behind the module; a module where attributes must stand
misplaced : read Module (0x01 ∷ 0 ∷ 6 ∷ 0x44 ∷ 0 ∷ 3 ∷ 0x40 ∷ 0 ∷ 0 ∷ []) ≡ refused Misplaced 6
unfolding reading
misplaced = refl

left-over : read Module (0x01 ∷ 0 ∷ 0 ∷ 0x40 ∷ []) ≡ refused Misplaced 3
unfolding reading
left-over = refl

other-root : read Attributes (0x01 ∷ 0 ∷ 0 ∷ []) ≡ refused Misplaced 0
unfolding reading
other-root = refl

-- no bytes; a length cut off; a content that passes the end of the field around it
empty : read Module [] ≡ refused Cut 0
unfolding reading
empty = refl

cut : read Module (0x01 ∷ 0 ∷ []) ≡ refused Cut 0
unfolding reading
cut = refl

passing : read Module (0x01 ∷ 0 ∷ 3 ∷ 0x40 ∷ 0 ∷ 1 ∷ 0 ∷ []) ≡ refused Cut 3
unfolding reading
passing = refl

-- an import without its literal; a spread byte of 2; a key past the end; an expression statement without its expression
short : read Module (0x01 ∷ 0 ∷ 4 ∷ 0x10 ∷ 0 ∷ 1 ∷ 0 ∷ []) ≡ refused Lacking 3
unfolding reading
short = refl

argument : Field
argument = field 0x75 (2 ∷ []) (more object none)

called : Field
called = field 0x65 [] (more object (more argument none))

kind-byte : read Module (encode (field 0x01 [] (more (field 0x44 [] (more called none)) none))) ≡ refused Lacking 18
unfolding reading encode framed called argument object
kind-byte = refl

key-length : read Attributes (0x2f ∷ 0 ∷ 6 ∷ 0x30 ∷ 0 ∷ 3 ∷ 1 ∷ 1 ∷ 1 ∷ []) ≡ refused Lacking 3
unfolding reading
key-length = refl

missing : read Module (0x01 ∷ 0 ∷ 3 ∷ 0x44 ∷ 0 ∷ 0 ∷ []) ≡ refused Lacking 3
unfolding reading
missing = refl

-- the records of document 01's second worked case
property : Field
property = field 0x20 (0x00 ∷ 0x16 ∷ 0x00 ∷ 0x00 ∷ 0x00 ∷ 0x05 ∷ 0x00 ∷ []) none

records2 : Field
records2 = field 0x02 [] (more (field 0x80 (0x00 ∷ 0x14 ∷ 0x00 ∷ 0x00 ∷ 0x00 ∷ 0x01 ∷ []) (more property none)) none)

records : read Records (encode records2) ≡ fine (more records2 none)
unfolding reading encode framed records2 property
records = refl
