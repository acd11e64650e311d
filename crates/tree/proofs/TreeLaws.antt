-- Trees: how many bytes they take, and how deep their parts are.
use Prim.Native.Nat.{ℕ, ◌+◌, ◌*◌, ◌/◌, ◌%◌, ◌≤◌}
use mathlib.Core.Path.{◌≡◌, refl, ap, ◌∙◌}
use mathlib.Core.List.{List, [], ◌++◌, append-nil}
use native.Mathlib.Omega.{arith}
use native.Mathlib.Nat.{le-max_left, le-max_right, max-le}
use lib.ListN.{length, length-append, take}
use lib.Seq.{take-append_seam}
use Rattle.tree.specs.Layout.{field_in}
use Rattle.tree.specs.Tree.{Field, field, Fields, none, more, framed, encode, encodes, size, sizes, depth, depths}

framed-length : (t : ℕ) (c : List ℕ) → length (framed t c) ≡ 3 + length c
unfolding framed
framed-length t c = omega arith

field-size : (t : ℕ) (x : List ℕ) (cs : Fields) → sizes cs ≡ length (encodes cs) →
    size (field t x cs) ≡ length (encode (field t x cs))
unfolding size encode
field-size t x cs e = let l = length-append x (encodes cs) in let f = framed-length t (x ++ encodes cs) in omega arith

row-length : (f : Field) (fs : Fields) → size f ≡ length (encode f) → sizes fs ≡ length (encodes fs) →
    sizes (more f fs) ≡ length (encodes (more f fs))
unfolding size encode
row-length f fs a b = let l = length-append (encode f) (encodes fs) in omega arith

none-size : sizes none ≡ length (encodes none)
unfolding size encode
none-size = refl

mutual
  pub size-encode : (f : Field) → size f ≡ length (encode f)
  size-encode (field t x cs) = field-size t x cs (sizes-encodes cs)

  pub sizes-encodes : (fs : Fields) → sizes fs ≡ length (encodes fs)
  sizes-encodes none = none-size
  sizes-encodes (more f fs) = row-length f fs (size-encode f) (sizes-encodes fs)

-- ---- The bytes and the size of a row

pub encodes-none : encodes none ≡ []
unfolding encode
encodes-none = refl

pub encodes-more : (f : Field) (fs : Fields) → encodes (more f fs) ≡ encode f ++ encodes fs
unfolding encode
encodes-more f fs = refl

pub encodes-one : (f : Field) → encodes (more f none) ≡ encode f
unfolding encode
encodes-one f = append-nil (encode f)

pub row-size : (f : Field) (fs : Fields) → sizes (more f fs) ≡ size f + sizes fs
unfolding size
row-size f fs = refl

pub content-size : (t : ℕ) (x : List ℕ) (cs : Fields) → size (field t x cs) ≡ 3 + (length x + sizes cs)
unfolding size
content-size t x cs = refl

pub depth-parts : (t : ℕ) (x : List ℕ) (cs : Fields) → depth (field t x cs) ≡ 1 + depths cs
unfolding depth
depth-parts t x cs = refl

pub depth-none : depths none ≡ 0
unfolding depth
depth-none = refl

-- a row is as deep as its deepest field
pub depth-first : (f : Field) (fs : Fields) → depth f ≤ depths (more f fs)
unfolding depth
depth-first f fs = le-max_left (depth f) (depths fs)

pub depth-rest : (f : Field) (fs : Fields) → depths fs ≤ depths (more f fs)
unfolding depth
depth-rest f fs = le-max_right (depth f) (depths fs)

pub depth-most : (f : Field) (fs : Fields) (k : ℕ) → depth f ≤ k → depths fs ≤ k → depths (more f fs) ≤ k
unfolding depth
depth-most f fs k a b = max-le a b

pub depth-one : (f : Field) → depths (more f none) ≡ depth f
unfolding depth
depth-one f = native.Mathlib.Nat.max-zero (depth f)

pub depth-positive : (f : Field) → 1 ≤ depth f
depth-positive (field t x cs) = let z = depth-parts t x cs in omega arith

-- ---- A field at the front of a buffer

framed-front : (t : ℕ) (c z : List ℕ) → field_in (framed t c ++ z) ≡ framed t c
unfolding field_in framed
framed-front t c z =
    let n : 3 + (length c / 256 * 256 + length c % 256) ≡ length (framed t c) = omega arith in
    ap (λ (n : ℕ). take n (framed t c ++ z)) n ∙ take-append_seam (framed t c) z

pub encode-front : (f : Field) (z : List ℕ) → field_in (encode f ++ z) ≡ encode f
unfolding encode
encode-front (field t x cs) z = framed-front t (x ++ encodes cs) z
