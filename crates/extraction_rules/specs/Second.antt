-- The rules of the second pass, in the order of document 01, 'Second pass', and what its end does.
use Rattle.std.specs.Prelude.{Option, None, Some}
use Rattle.std.specs.Prelude.{ℕ, not, cond, ◌||◌, List, [], ◌∷◌, ◌++◌, map}
use Rattle.scope.specs.Modules.{set_mark}
use Rattle.scope.specs.declared.Mark.TheVariants.{Wrapping}
use Rattle.tree.specs.Layout.{same, value_of, same_literal}
use Rattle.tree.specs.Tree.{Field, field, Fields, none, more, fixed_of}
use Rattle.metadata.specs.Metadata.{append}
use Rattle.inputs.specs.Lists.{filter, among}
use Rattle.inputs.specs.Fields.{has, keep, sole}
use Rattle.extraction_rules.specs.State.{Record, Usage, State, Setting, Act, ◌>>=◌, ◌>>◌, give, skip, change, set_modules, set_collected}
use Rattle.extraction_rules.specs.First.{external, module_for, force_source, imported_as, specifiers_in, attributes_in}

-- ---- 'A 10, not external, unforced, with a sole 22'

unfoldable pub usages_of : List ℕ → List Usage → List Usage
usages_of i l = filter (λ u. same u.id i) l

-- 'usages become its specifiers (no outside name)'
unfoldable pub specifiers_from : List Usage → Fields
specifiers_from [] = none
specifiers_from (u ∷ l) = more (field 0x20 (u.property ++ 0 ∷ []) none) (specifiers_from l)

-- 'are appended to the record whose LITERAL is equal'
unfoldable pub extend : List ℕ → Fields → Record → Record
extend l fs r = cond (same_literal r.literal l) (record { literal = r.literal; specifiers = append r.specifiers fs }) r

-- 'without usages the source is forced'
unfoldable pub take_apart : List Usage → List ℕ → Fields → Act Field
take_apart [] x cs = do
  change (force_source (value_of x))
  give (field 0x10 x cs)
take_apart (u ∷ us) x cs = do
  change (λ s. set_collected (map (extend x (specifiers_from (u ∷ us))) s.collected) s)
  give (field 0x10 x (append (specifiers_from (u ∷ us)) (attributes_in cs)))

-- 'with a sole 22'
unfoldable pub on_sole : Option Field → List ℕ → Fields → Act Field
on_sole None x cs = give (field 0x10 x cs)
on_sole (Some f) x cs = cond (has 0x22 f) (λ s. take_apart (usages_of (fixed_of f) s.usages) x cs s) (give (field 0x10 x cs))

-- 'not external, unforced'
unfoldable pub import_second : Setting → List ℕ → Fields → Act Field
import_second e x cs = λ s. cond (external e x || among (value_of x) s.forced) (give (field 0x10 x cs)) (on_sole (sole (specifiers_in cs)) x cs) s

-- ---- 'An expression 63 with 70 on a 60 with usages becomes a 60: property, imported context.'

unfoldable pub as_property : List Usage → Option (List ℕ) → Field → Field → Field
as_property [] c q f = f
as_property (u ∷ us) None q f = f
as_property (u ∷ us) (Some c) q f = cond (has 0x70 q) (field 0x60 (fixed_of q ++ c) none) f

unfoldable pub rewritten : Option (Field × Field) → Field → State → Field
rewritten None f s = f
rewritten (Some m) f s = as_property (usages_of (fixed_of m.0) s.usages) (imported_as (fixed_of m.0) s.imported) m.1 f

-- ---- 'At the end forced sources get the wrapping mark if they resolve'

unfoldable pub wrap_module : Option ℕ → Act (Unit {0})
wrap_module None = skip
wrap_module (Some n) = change (λ s. set_modules (set_mark Wrapping n s.modules) s)

unfoldable pub wrap_all : Setting → List (List ℕ) → Act (Unit {0})
wrap_all e [] = skip
wrap_all e (a ∷ l) = do
  n ← module_for e a 0
  wrap_module n
  wrap_all e l

-- 'other records lose namespaces'
unfoldable pub lose_namespaces : List (List ℕ) → Record → Record
lose_namespaces forced r =
    cond (among (value_of r.literal) forced) r (record { literal = r.literal; specifiers = keep (λ f. not (has 0x22 f)) r.specifiers })

unfoldable pub finish : Setting → Act (Unit {0})
finish e = do
  λ s. wrap_all e s.forced s
  change (λ s. set_collected (map (lose_namespaces s.forced) s.collected) s)
