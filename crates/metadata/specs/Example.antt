-- The definitions on document 01's tenth worked case and around it, computed.
use Rattle.std.specs.Prelude.{ℕ, true, false, List, [], ◌∷◌, ◌++◌, ◌≡◌, refl, None, Some}
use Rattle.tree.specs.Layout.{same}
use Rattle.tree.specs.Tree.{Fields, none, more, framed, encode}
use Rattle.metadata.specs.Decimal.{decimal_by, decimal, number_from, number, unsigned, parsed}
use Rattle.metadata.specs.Metadata.{context_key, attribute, injected_attribute, context_attribute, append, attributes_for, with_metadata, starts_with, context_in, told, decode_from, unset, decode}

-- ---- Numbers

plus7 : List ℕ
plus7 = 0x2B ∷ 0x37 ∷ []

largest : List ℕ
largest = 0x34 ∷ 0x32 ∷ 0x39 ∷ 0x34 ∷ 0x39 ∷ 0x36 ∷ 0x37 ∷ 0x32 ∷ 0x39 ∷ 0x35 ∷ []

-- one more than the largest
too-large : List ℕ
too-large = 0x34 ∷ 0x32 ∷ 0x39 ∷ 0x34 ∷ 0x39 ∷ 0x36 ∷ 0x37 ∷ 0x32 ∷ 0x39 ∷ 0x36 ∷ []

-- '"+7" gives 7; "4294967296" none.'
plus7-parsed : parsed plus7 ≡ Some 7
unfolding parsed number number_from unsigned plus7
plus7-parsed = refl

too-large-parsed : parsed too-large ≡ None
unfolding parsed number number_from unsigned too-large
too-large-parsed = refl

largest-parsed : parsed largest ≡ Some 4294967295
unfolding parsed number number_from unsigned largest
largest-parsed = refl

-- nothing, a lone plus and a second plus are no numbers; leading zeros are fine
empty-parsed : parsed [] ≡ None
unfolding parsed number number_from unsigned
empty-parsed = refl

lone-plus-parsed : parsed (0x2B ∷ []) ≡ None
unfolding parsed number number_from unsigned
lone-plus-parsed = refl

two-plus-parsed : parsed (0x2B ∷ plus7) ≡ None
unfolding parsed number number_from unsigned plus7
two-plus-parsed = refl

zeros-parsed : parsed (0x30 ∷ 0x30 ∷ 0x37 ∷ []) ≡ Some 7
unfolding parsed number number_from unsigned
zeros-parsed = refl

zero-written : decimal 0 ≡ 0x30 ∷ []
unfolding decimal decimal_by
zero-written = refl

largest-written : decimal 4294967295 ≡ largest
unfolding decimal decimal_by largest
largest-written = refl

-- ---- Attributes

-- with a context, 9, onto nothing
nine-written : encode (with_metadata (record { injected = false; context = Some 9 }) none)
    ≡ 0x2F ∷ 0 ∷ 0x23 ∷ 0x30 ∷ 0 ∷ 0x20 ∷ 1 ∷ 1 ∷ 0x1C ∷ context_key ++ (0x39 ∷ [])
unfolding encode framed with_metadata attributes_for append context_attribute decimal decimal_by
nine-written = refl

-- injected, then "+7", then what does not parse
three : Fields
three = more injected_attribute (more (attribute context_key plus7) (more (attribute context_key too-large) none))

three-told : decode three ≡ record { injected = true; context = Some 7 }
unfolding decode decode_from told same starts_with context_in parsed number number_from unsigned injected_attribute three plus7 too-large
three-told = refl

none-told : decode none ≡ unset
unfolding decode decode_from
none-told = refl
