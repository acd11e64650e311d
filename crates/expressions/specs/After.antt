-- What a walked expression is, told before it is walked: which id it has become, and whether it meets the require conditions.
-- Document 01, 'First pass', "After an expression's children"; 'Second pass', "becomes a 60".
use Rattle.std.specs.Prelude.{Option, None, Some}
use Rattle.std.specs.Prelude.{ℕ, Bool, cond, ◌&&◌, List, [], ◌∷◌, ◌++◌, eqb}
use Rattle.scope.specs.Id.{require_atom}
use Rattle.tree.specs.Layout.{two, same, name_of}
use Rattle.tree.specs.Tree.{Field, field, Fields, none, more, fixed_of}
use Rattle.inputs.specs.Fields.{has, sole}
use Rattle.extraction_rules.specs.State.{Usage, State, Pass, first, second, Setting}
use Rattle.extraction_rules.specs.First.{imported_as, argument, not_external}
use Rattle.extraction_rules.specs.Second.{usages_of}

abbrev pub pass_of : Bool → Pass
pass_of second? = cond second? second first

-- the id of a 60
unfoldable pub ident_of : Field → Option (List ℕ)
ident_of (field t x cs) = cond (eqb t 0x60) (Some x) None

-- 'An expression 63 with 70 on a 60 with usages becomes a 60: property, imported context.'
unfoldable pub as_ident : List Usage → Option (List ℕ) → Field → Option (List ℕ)
as_ident [] c q = None
as_ident (u ∷ us) None q = None
as_ident (u ∷ us) (Some c) q = cond (has 0x70 q) (Some (fixed_of q ++ c)) None

-- the name of what stands first, if it is a 70, in a context
unfoldable pub named_first : Fields → List ℕ → Option (List ℕ)
named_first none c = None
named_first (more q qs) c = cond (has 0x70 q) (Some (fixed_of q ++ c)) None

-- a 63 on what has become this id, in each pass
unfoldable pub becomes : Pass → Option (List ℕ) → Field → State → Option (List ℕ)
becomes first i q s = None
becomes second None q s = None
becomes second (Some i) q s = as_ident (usages_of i s.usages) (imported_as i s.imported) q

-- the id that an expression has once it is walked from a state
unfoldable mutual
  pub ident_after : Field → Pass → State → Option (List ℕ)
  ident_after (field t x cs) k s = cond (eqb t 0x63) (member_after cs k s) (cond (eqb t 0x60) (Some x) None)

  pub member_after : Fields → Pass → State → Option (List ℕ)
  member_after none k s = None
  member_after (more o none) k s = None
  member_after (more o (more q qs)) k s = becomes k (ident_after o k s) q s

-- 'callee 60 named require'
abbrev pub if_require : Option (List ℕ) → Option (List ℕ) → Option (List ℕ)
if_require None l = None
if_require (Some i) l = cond (same (name_of i) (two require_atom)) l None

-- the literal of a call that meets the require conditions once it is walked from a state
unfoldable pub required_after : Setting → Field → State → Option (List ℕ)
required_after e (field t x none) s = None
required_after e (field t x (more c gs)) s =
    cond (e.config.require && eqb t 0x65) (if_require (ident_after c e.pass s) (not_external e (argument (sole gs)))) None
