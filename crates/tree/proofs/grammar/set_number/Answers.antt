-- `set_number`: a set's number in the code is that of the definition's table, set by set.
use mathlib.Core.Path.{◌≡◌, refl}
use Prim.Native.Nat.{◌+◌, ◌-◌, ◌<◌}
use native.Mathlib.Omega.{arith}
use denote.Enum.Declared.{tag_of}
use Rattle.tree.specs.contracts.grammar.Set.{the_type}
use Rattle.tree.specs.declared.grammar.Set.{Set}
use Rattle.tree.specs.declared.grammar.Set.TheVariants.{Module, Item, Specifier, ExportSpecifier, Attributes, Attribute, Declaration}
use Rattle.tree.specs.declared.grammar.Set.TheVariants.{Statement, Declarator, Block, Pattern, PatternProperty, Expression, Callee, Target}
use Rattle.tree.specs.declared.grammar.Set.TheVariants.{Body, Member, SuperMember, Argument, Property, Records, Collected, Lazy, Dynamic, Forced}
use Rattle.tree.specs.Grammar.{find}
use Rattle.tree.specs.Packed.{set_numbers}
use Rattle.tree.proofs.grammar.set_number.Goals as goal

numbered : (x : Set) → (x ≡ find (tag_of the_type x) set_numbers Module) × (tag_of the_type x < 32)
numbered Module = (refl, omega arith)
numbered Item = (refl, omega arith)
numbered Specifier = (refl, omega arith)
numbered ExportSpecifier = (refl, omega arith)
numbered Attributes = (refl, omega arith)
numbered Attribute = (refl, omega arith)
numbered Declaration = (refl, omega arith)
numbered Statement = (refl, omega arith)
numbered Declarator = (refl, omega arith)
numbered Block = (refl, omega arith)
numbered Pattern = (refl, omega arith)
numbered PatternProperty = (refl, omega arith)
numbered Expression = (refl, omega arith)
numbered Callee = (refl, omega arith)
numbered Target = (refl, omega arith)
numbered Body = (refl, omega arith)
numbered Member = (refl, omega arith)
numbered SuperMember = (refl, omega arith)
numbered Argument = (refl, omega arith)
numbered Property = (refl, omega arith)
numbered Records = (refl, omega arith)
numbered Collected = (refl, omega arith)
numbered Lazy = (refl, omega arith)
numbered Dynamic = (refl, omega arith)
numbered Forced = (refl, omega arith)

pub returns : goal.returns
returns c =
    let x = c.args.set in
    let h = numbered x in
    let e : 32 + tag_of the_type x - 32 ≡ tag_of the_type x = omega arith in
    (rw e h.0, omega arith, omega arith)
