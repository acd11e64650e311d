-- Attributes with metadata are within the grammar, so that they can be read back.
use Rattle.std.specs.Prelude.{Option, None, Some}
use Prim.Native.Nat.{ℕ, ◌+◌, ◌-◌, ◌≤◌}
use mathlib.Core.Path.{◌≡◌, refl, sym, ap, subst, ◌∙◌}
use mathlib.Core.Bool.{Bool, true, false, cond}
use mathlib.Core.List.{List, [], ◌∷◌, ◌++◌}
use native.Mathlib.Omega.{arith}
use lib.ListN.{length, length-append}
use borrow.Author.Tests.{le-leb, le-ltb}
use Rattle.tree.specs.declared.grammar.Set.TheVariants.{Attributes, Attribute}
use Rattle.tree.specs.declared.grammar.Piece.TheVariants.{Plain}
use Rattle.tree.specs.declared.grammar.Value.TheVariants.{Empty}
use Rattle.tree.specs.declared.grammar.Slot.TheVariants.{Nothing, Many}
use Rattle.tree.specs.declared.grammar.Rule.{Rule}
use Rattle.tree.specs.Layout.{skip_at}
use Rattle.tree.specs.Tree.{field, Fields, none, more, tag_of, encode, size, depth, depths}
use Rattle.tree.specs.Grammar.{within, holds_at, parts0, parts1, slot_at, step_by, step_at, rule_of, pieces_of}
use Rattle.tree.specs.Access.{value_at, key_at, piece_at, then_piece, fixed_at}
use Rattle.tree.specs.Within.{Exact, Formed, FormedAll, Within}
use Rattle.tree.proofs.GrammarLaws.{no-step, many-slot}
use Rattle.tree.proofs.TreeLaws.{size-encode, content-size, depth-parts, depth-none, depth-first, depth-rest, depth-most}
use Rattle.metadata.specs.Decimal.{decimal}
use Rattle.metadata.specs.Metadata.{Metadata, Small, injected_key, context_key, header, attribute, injected_attribute, context_attribute}
use Rattle.metadata.specs.Metadata.{injected_attributes, context_attributes, append, attributes_for, with_metadata}
use Rattle.metadata.proofs.DecimalLaws.{decimal-short}
use Rattle.metadata.proofs.CallsLaws.{skip-none, Sound}

-- any number of attributes
abbrev pub attributes : Rule
attributes = parts1 (Many Attribute)

rule-is : rule_of 0x2F ≡ attributes
unfolding rule_of within
rule-is = refl

-- in a 2F only attributes follow, any number
pub attributes-step : (t : ℕ) (q : Rule) → step_at attributes t ≡ Some q → (holds_at Attribute t ≡ true) × (q ≡ attributes)
attributes-step t q e = by (holds_at Attribute t) refl (sym (many-slot Attribute Nothing Nothing Nothing t) ∙ e)
  where
    by : (b : Bool) → holds_at Attribute t ≡ b → cond b (Some attributes) (step_at parts0 t) ≡ Some q → (holds_at Attribute t ≡ true) × (q ≡ attributes)
    by true h e = (h, cc)
    by false h e = absurd (no-step t e)

formed-append : (fs gs : Fields) → FormedAll fs attributes → FormedAll gs attributes → FormedAll (append fs gs) attributes
unfolding append
formed-append none gs v w = w
formed-append (more f fs) gs v w =
    let s = (attributes-step (tag_of f) v.0 v.1).1 in
    (attributes, v.1 ∙ ap Some s, v.2, formed-append fs gs (subst (FormedAll fs) s v.3) w)

-- ---- One attribute

key-whole : (key value : List ℕ) → key_at (header key ++ value) 0 (length (header key ++ value)) ≡ Some (length (header key ++ value))
unfolding key_at
key-whole key value =
    let n = length (header key ++ value) in
    let e = length-append key value in
    rw (le-ltb (n - 0) 3 (omega arith), le-leb (length key) (n - (0 + 3)) (omega arith))

attribute-exact : (key value : List ℕ) → Exact 0x30 (header key ++ value)
unfolding fixed_at then_piece pieces_of piece_at value_at
attribute-exact key value =
    let x = header key ++ value in
    let e : length x + 0 ≡ length x = omega arith in
    ap (λ (r : Option ℕ). then_piece r x (Plain Empty) (length x)) (key-whole key value) ∙ skip-none (length x) (length x) ∙ ap Some e

attribute-formed : (key value : List ℕ) → length key + length value ≤ 65532 → Formed (attribute key value)
unfolding rule_of within size
attribute-formed key value h = let e = length-append key value in (omega arith, attribute-exact key value, refl)

module _ (key value : List ℕ) (short : length key + length value ≤ 65532) where
  row-formed : FormedAll (more (attribute key value) none) attributes
  unfolding step_at step_by slot_at holds_at
  row-formed = (attributes, refl, attribute-formed key value short, refl)

row-shallow : (key value : List ℕ) → depths (more (attribute key value) none) ≤ 63
unfolding depth
row-shallow key value = omega arith

-- ---- What metadata adds

injected-formed : (b : Bool) → FormedAll (injected_attributes b) attributes
unfolding injected_attribute
injected-formed true = row-formed injected_key (49 ∷ []) (omega arith)
injected-formed false = refl

context-formed : (x : Option ℕ) → Small x → FormedAll (context_attributes x) attributes
unfolding context_attribute
context-formed None h = refl
context-formed (Some c) h = row-formed context_key (decimal c) (let e = decimal-short c h in omega arith)

added-formed : (m : Metadata) → Small m.context → FormedAll (attributes_for m) attributes
unfolding attributes_for
added-formed m h =
    formed-append (injected_attributes m.injected) (context_attributes m.context) (injected-formed m.injected)
    (context-formed m.context h)

shallow-append : (fs gs : Fields) → depths fs ≤ 63 → depths gs ≤ 63 → depths (append fs gs) ≤ 63
unfolding append
shallow-append none gs v w = w
shallow-append (more f fs) gs v w =
    let a = depth-first f fs in
    let b = depth-rest f fs in
    depth-most f (append fs gs) 63 (omega arith) (shallow-append fs gs (omega arith) w)

none-shallow : depths none ≤ 63
none-shallow = let e = depth-none in omega arith

injected-shallow : (b : Bool) → depths (injected_attributes b) ≤ 63
unfolding injected_attribute
injected-shallow true = row-shallow injected_key (49 ∷ [])
injected-shallow false = none-shallow

context-shallow : (x : Option ℕ) → depths (context_attributes x) ≤ 63
unfolding context_attribute
context-shallow None = none-shallow
context-shallow (Some c) = row-shallow context_key (decimal c)

added-shallow : (m : Metadata) → depths (attributes_for m) ≤ 63
unfolding attributes_for
added-shallow m =
    shallow-append (injected_attributes m.injected) (context_attributes m.context) (injected-shallow m.injected)
    (context-shallow m.context)

-- ---- The whole

empty-exact : Exact 0x2F []
unfolding fixed_at then_piece pieces_of piece_at value_at skip_at
empty-exact = refl

-- attributes that were read, with metadata that has a field's room
pub new-within : (m : Metadata) (s : List ℕ) (old : Fields) → Small m.context → Sound s old → length (encode (with_metadata m old)) ≤ 65538 →
    Within Attributes (with_metadata m old)
unfolding with_metadata holds_at
new-within m s old h w n =
    let cs = append old (attributes_for m) in
    let e = size-encode (field 0x2F [] cs) in
    let f = content-size 0x2F [] cs in
    let d = depth-parts 0x2F [] cs in
    let k = shallow-append old (attributes_for m) w.shallow (added-shallow m) in
    let p = subst (FormedAll cs) (sym rule-is) (formed-append old (attributes_for m) (subst (FormedAll old) rule-is w.formed) (added-formed m h)) in
    (refl, (omega arith, empty-exact, p), omega arith)
