-- Trees and their bytes (document 01, 'Tree': a one-byte tag, a two-byte content length, content).
use Rattle.std.specs.Prelude.{ℕ, ◌+◌, ◌/◌, ◌%◌, max, List, [], ◌∷◌, ◌++◌, length}

-- a field: its tag, the fixed bytes of its content, and its parts
mutual
  pub data Field : Type 0 where
    field : ℕ → List ℕ → Fields → Field

  pub data Fields : Type 0 where
    none : Fields
    more : Field → Fields → Fields

abbrev pub tag_of : Field → ℕ
tag_of (field t x cs) = t

abbrev pub fixed_of : Field → List ℕ
fixed_of (field t x cs) = x

abbrev pub parts_of : Field → Fields
parts_of (field t x cs) = cs

-- a tag, the content's length in two bytes, the content
unfoldable pub framed : ℕ → List ℕ → List ℕ
framed t c = t ∷ length c / 256 ∷ length c % 256 ∷ c

unfoldable mutual
  pub encode : Field → List ℕ
  encode (field t x cs) = framed t (x ++ encodes cs)

  pub encodes : Fields → List ℕ
  encodes none = []
  encodes (more f fs) = encode f ++ encodes fs

-- how many bytes it takes
unfoldable mutual
  pub size : Field → ℕ
  size (field t x cs) = 3 + (length x + sizes cs)

  pub sizes : Fields → ℕ
  sizes none = 0
  sizes (more f fs) = size f + sizes fs

-- how deep it nests: 1 for a field without parts
unfoldable mutual
  pub depth : Field → ℕ
  depth (field t x cs) = 1 + depths cs

  pub depths : Fields → ℕ
  depths none = 0
  depths (more f fs) = max (depth f) (depths fs)
