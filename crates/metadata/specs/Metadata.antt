-- What metadata adds to attributes, and what attributes tell of it. Document 01, 'Metadata and detection'.
use Rattle.std.specs.Prelude.{ℕ, ◌≤◌, Bool, true, false, ◌||◌, cond, List, [], ◌∷◌, ◌++◌, length, take, drop, Option, None, Some}
use Rattle.tree.specs.Layout.{same}
use Rattle.tree.specs.Tree.{Field, field, Fields, none, more, fixed_of}
use Rattle.metadata.specs.Decimal.{decimal, parsed}

-- `__swc_bundler__injected__`
abbrev pub injected_key : List ℕ
injected_key =
    95 ∷ 95 ∷ 115 ∷ 119 ∷ 99 ∷ 95 ∷ 98 ∷ 117 ∷ 110 ∷ 100 ∷ 108 ∷ 101 ∷ 114 ∷ 95 ∷ 95 ∷ 105 ∷ 110 ∷ 106 ∷ 101 ∷ 99 ∷ 116 ∷ 101 ∷ 100 ∷ 95 ∷ 95 ∷ []

-- `__swc_bundler__export_ctxt__`
abbrev pub context_key : List ℕ
context_key =
    95 ∷ 95 ∷ 115 ∷ 119 ∷ 99 ∷ 95 ∷ 98 ∷ 117 ∷ 110 ∷ 100 ∷ 108 ∷ 101 ∷ 114 ∷ 95 ∷ 95 ∷ 101 ∷ 120 ∷ 112 ∷ 111 ∷ 114 ∷
    116 ∷ 95 ∷ 99 ∷ 116 ∷ 120 ∷ 116 ∷
    95 ∷ 95 ∷ []

-- '30: key kind (1 identifier, 0 other), value kind (1 string, 0 other), key length byte, key, value': what stands before the value
abbrev pub header : List ℕ → List ℕ
header key = 1 ∷ 1 ∷ length key ∷ key

abbrev pub attribute : List ℕ → List ℕ → Field
attribute key value = field 0x30 (header key ++ value) none

-- 'Keys `__swc_bundler__injected__` ("1") and `__swc_bundler__export_ctxt__` (decimal)'
unfoldable pub injected_attribute : Field
injected_attribute = attribute injected_key (49 ∷ [])

unfoldable pub context_attribute : ℕ → Field
context_attribute c = attribute context_key (decimal c)

-- whether the export is injected, and its context, if it is known
pub record Metadata : Type 0 where
  pub injected : Bool
  pub context : Option ℕ

-- a context that four bytes hold, as every one in the code
abbrev pub Small : Option ℕ → Type 0
Small None = Unit
Small (Some c) = c ≤ 4294967295

-- ---- Encode

abbrev pub injected_attributes : Bool → Fields
injected_attributes true = more injected_attribute none
injected_attributes false = none

abbrev pub context_attributes : Option ℕ → Fields
context_attributes None = none
context_attributes (Some c) = more (context_attribute c) none

unfoldable pub append : Fields → Fields → Fields
append none gs = gs
append (more f fs) gs = more f (append fs gs)

-- what metadata adds, 'in that order'
unfoldable pub attributes_for : Metadata → Fields
attributes_for m = append (injected_attributes m.injected) (context_attributes m.context)

-- 'Encode appends to it, or to a new 2F even with nothing set': to the attributes that were lent, none where nothing was
unfoldable pub with_metadata : Metadata → Fields → Field
with_metadata m old = field 0x2F [] (append old (attributes_for m))

-- ---- Decode

-- x starts with h
unfoldable pub starts_with : List ℕ → List ℕ → Bool
starts_with h x = same (take (length h) x) h

-- the context that an attribute with the content x tells: what is parsable behind the key, and 'needs kinds 1'
unfoldable pub context_in : List ℕ → Option ℕ
context_in x = cond (starts_with (header context_key) x) (parsed (drop (length (header context_key)) x)) None

-- what an attribute with the content x tells
unfoldable pub told : List ℕ → Metadata
told x = record { injected = same x (fixed_of injected_attribute); context = context_in x }

abbrev pub newer : Option ℕ → Option ℕ → Option ℕ
newer None old = old
newer (Some c) old = Some c

-- 'injected is old or new, and the context is the new one, else the old'
abbrev pub merged : Metadata → Metadata → Metadata
merged old new = record { injected = old.injected || new.injected; context = newer new.context old.context }

-- what attributes tell behind others that told m: 'injected sticks; the last parsable context wins'
unfoldable pub decode_from : Metadata → Fields → Metadata
decode_from m none = m
decode_from m (more f fs) = decode_from (merged m (told (fixed_of f))) fs

abbrev pub unset : Metadata
unset = record { injected = false; context = None }

unfoldable pub decode : Fields → Metadata
decode fs = decode_from unset fs
