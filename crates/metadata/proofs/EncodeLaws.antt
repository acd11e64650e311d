-- One row behind another, and the bytes of attributes: of each that is written, and of rows.
use Rattle.std.specs.Prelude.{Option, None, Some}
use Prim.Native.Nat.{ℕ, ◌+◌}
use mathlib.Core.Path.{◌≡◌, refl, sym, ap, ◌∙◌}
use mathlib.Core.Bool.{Bool, true, false}
use mathlib.Core.List.{List, [], ◌++◌, append-nil, append_assoc}
use native.Mathlib.Omega.{arith}
use lib.ListN.{length}
use Rattle.writer.specs.Bytes.{framed}
use Rattle.tree.specs.Tree.{field, Fields, none, more, framed as framed_field, encode, encodes, size, fixed_of}
use Rattle.tree.proofs.TreeLaws.{encodes-one}
use Rattle.metadata.specs.Decimal.{decimal_by, decimal}
use Rattle.metadata.specs.Metadata.{injected_key, context_key, header, injected_attribute, context_attribute, injected_attributes, context_attributes, append, attributes_for}

-- a field's bytes, as the writer frames them
pub framed-field : (t : ℕ) (x : List ℕ) (cs : Fields) → framed t (x ++ encodes cs) ≡ encode (field t x cs)
unfolding framed framed_field encode
framed-field t x cs = refl

pub framed-leaf : (t : ℕ) (x : List ℕ) → framed t x ≡ encode (field t x none)
unfolding framed framed_field encode
framed-leaf t x = ap (framed t) (sym (append-nil x))

-- one row behind another
pub append-none : (fs : Fields) → append fs none ≡ fs
unfolding append
append-none none = refl
append-none (more f fs) = ap (more f) (append-none fs)

pub append-rows : (fs gs hs : Fields) → append (append fs gs) hs ≡ append fs (append gs hs)
unfolding append
append-rows none gs hs = refl
append-rows (more f fs) gs hs = ap (more f) (append-rows fs gs hs)

pub encodes-append : (fs gs : Fields) → encodes (append fs gs) ≡ encodes fs ++ encodes gs
unfolding encode append
encodes-append none gs = refl
encodes-append (more f fs) gs = ap (λ (l : List ℕ). encode f ++ l) (encodes-append fs gs) ∙ sym (append_assoc (encode f) (encodes fs) (encodes gs))

pub injected-bytes : (b : Bool) → b ≡ true → framed 0x30 (header injected_key ++ decimal 1) ≡ encodes (injected_attributes b)
unfolding injected_attribute decimal decimal_by
injected-bytes true e = framed-leaf 0x30 (fixed_of injected_attribute) ∙ sym (encodes-one injected_attribute)
injected-bytes false e = absurd (let z : ◌≡◌ {A = ℕ} 0 1 = cc in omega arith)

pub injected-none : (b : Bool) → b ≡ false → [] ≡ encodes (injected_attributes b)
unfolding encode
injected-none true e = absurd (let z : ◌≡◌ {A = ℕ} 0 1 = cc in omega arith)
injected-none false e = refl

pub context-bytes : (c : ℕ) → framed 0x30 (header context_key ++ decimal c) ≡ encode (context_attribute c)
unfolding context_attribute
context-bytes c = framed-leaf 0x30 (header context_key ++ decimal c)

-- the attributes of metadata: with a context, and without
pub with-context : (b : Bool) (x : Option ℕ) (c : ℕ) → x ≡ Some c →
    encodes (injected_attributes b) ++ encode (context_attribute c) ≡ encodes (attributes_for (record { injected = b; context = x }))
unfolding attributes_for
with-context b x c e =
    ap (λ (l : List ℕ). encodes (injected_attributes b) ++ l) (sym (encodes-one (context_attribute c)))
    ∙ sym (encodes-append (injected_attributes b) (context_attributes (Some c)))
    ∙ ap (λ (y : Option ℕ). encodes (append (injected_attributes b) (context_attributes y))) (sym e)

pub without-context : (b : Bool) (x : Option ℕ) → x ≡ None → encodes (injected_attributes b) ≡ encodes (attributes_for (record { injected = b; context = x }))
unfolding attributes_for encode
without-context b x e =
    sym (append-nil (encodes (injected_attributes b)))
    ∙ sym (encodes-append (injected_attributes b) none)
    ∙ ap (λ (y : Option ℕ). encodes (append (injected_attributes b) (context_attributes y))) (sym e)

-- a context's attribute: 34 bytes, and the digits
pub context-size : (c : ℕ) → 34 + length (decimal c) ≡ size (context_attribute c)
unfolding context_attribute size
context-size c = omega arith
