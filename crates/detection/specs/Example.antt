-- Worked examples of detection, by computation.
use Rattle.std.specs.Prelude.{ℕ, ◌≡◌, refl, Bool, true, false, [], ◌∷◌}
use Rattle.modes.specs.declared.Modes.{Modes}
use Rattle.modes.specs.Bits.{modes_of}
use Rattle.scope.specs.Id.{module_atom, exports_atom}
use Rattle.tree.specs.Tree.{Field, field, Fields, none, more, framed, encode}
use Rattle.tree.specs.Grammar.{within}
use Rattle.tree.specs.Example.{reading}
use Rattle.detection.specs.Detection.{first_ident, other_here, found_other, forced_es6, es6, answers, refuses, detect}

-- `es6`, with all that it computes by: an example says `unfolding judged`
unfoldable judged : Modes → Fields → Bool
unfolding first_ident other_here found_other forced_es6 within es6
judged modes items = es6 modes items

-- the mode require
abbrev on : Modes
on = modes_of 1

abbrev off : Modes
off = modes_of 0

abbrev ident : ℕ → Field
ident a = field 0x60 (0 ∷ a ∷ 0 ∷ 0 ∷ 0 ∷ 2 ∷ []) none

abbrev name : ℕ → Field
name a = field 0x70 (0 ∷ a ∷ []) none

abbrev member : Field → Field → Field
member object property = field 0x63 [] (more object (more property none))

-- a call without arguments
abbrev call : Field → Field
call callee = field 0x65 [] (more callee none)

-- a module's one item: the expression as a statement
abbrev only : Field → Fields
only e = more (field 0x44 [] (more e none)) none

-- atoms 21 and 22
abbrev f : Field
f = ident 0x15

abbrev x : Field
x = name 0x16

-- `f()`: the callee's name does not count; `(f)()`: that callee is no plain 60
called : es6 on (only (call f)) ≡ false
unfolding judged
called = refl

parenthesised : es6 on (only (call (field 0x6e [] (more f none)))) ≡ true
unfolding judged
parenthesised = refl

-- `module.x`, `f.x`
member-of-module : es6 on (only (member (ident module_atom) x)) ≡ false
unfolding judged
member-of-module = refl

member-of-other : es6 on (only (member f x)) ≡ true
unfolding judged
member-of-other = refl

-- `exports.x = f`: 'targets too'
target : es6 on (only (field 0x66 [] (more (member (ident exports_atom) x) (more f none)))) ≡ false
unfolding judged
target = refl

-- `super.module`: 'super excepted'; `super[f()]`: the call in it counts
super-module : es6 on (only (field 0x64 [] (more (name module_atom) none))) ≡ true
unfolding judged
super-module = refl

super-computed : es6 on (only (field 0x64 [] (more (field 0x71 [] (more (call f) none)) none))) ≡ false
unfolding judged
super-computed = refl

-- `(function () { f() })`
body : es6 on (only (field 0x68 [] (more (field 0x45 [] (only (call f))) none))) ≡ false
unfolding judged
body = refl

-- an import decides, and so does the mode require
imported : es6 on (more (field 0x10 (0 ∷ 0x14 ∷ 0 ∷ 0 ∷ 0 ∷ 1 ∷ []) none) (only (call f))) ≡ true
unfolding judged
imported = refl

require-off : es6 off (only (call f)) ≡ true
unfolding judged
require-off = refl

-- the whole call on bytes; with require off they are read too
on-bytes : detect on (encode (field 0x01 [] (only (call f)))) ≡ answers false
unfolding reading encode framed judged detect
on-bytes = refl

unread : detect off (0x01 ∷ 0 ∷ 0 ∷ 0x40 ∷ []) ≡ refuses 3 3
unfolding reading detect
unread = refl
