-- The walk over a tree, one for both passes: which parts of a field are walked, and which rule follows them.
-- Document 01, 'First pass': "Children left to right", "Each tag has its own rule"; 'Second pass': "Same walk".
use Rattle.std.specs.Prelude.{ℕ, ◌+◌, Bool, true, false, not, cond, ◌&&◌, List, [], ◌∷◌, eqb}
use Rattle.tree.specs.Tree.{Field, field, Fields, none, more, fixed_of, size}
use Rattle.tree.specs.Grammar.{find, expression_tag}
use Rattle.inputs.specs.Outcome.{done}
use Rattle.inputs.specs.Fields.{has, keep, inside}
use Rattle.extraction_rules.specs.State.{State, Pass, first, second, Setting, Act, ◌>>=◌, ◌>>◌, give, change, set_top}
use Rattle.extraction_rules.specs.First.{on_ident, usage, required, require, force_id, import_first, export_specifier, declarator, stays}
use Rattle.extraction_rules.specs.Second.{import_second, rewritten, finish}

-- ---- The rule of a field, once its parts are walked

-- 'After an expression's children: a 60 with *object* clear is forced; else usage, then require.' Second pass: 'without' these
unfoldable pub after_expression : Pass → Setting → Field → Bool → ℕ → Act Field
after_expression first e f object p =
    cond (has 0x60 f && not object)
    (do
      change (force_id (fixed_of f))
      give f)
    (do
      usage (on_ident f) e p
      require (required e f) e f p)
after_expression second e f object p = λ s. done (rewritten (on_ident f) f s, s)

-- 10: 'without the first pass's rule for a 10'
unfoldable pub after_import : Pass → Setting → List ℕ → Fields → ℕ → Act Field
after_import first e x cs p = import_first e x cs p
after_import second e x cs p = import_second e x cs

-- 'Each tag has its own rule'
pub data Rule : Type 0 where
  import export declare express nothing : Rule

unfoldable pub rule_for : ℕ → Rule
rule_for t =
    find t
    ((0x10, import) ∷
    (0x23, export) ∷
    (0x42, declare) ∷
    [])
    (cond (expression_tag t) express nothing)

unfoldable pub after : Rule → Setting → ℕ → List ℕ → Fields → Bool → ℕ → Act Field
after import e t x cs object p = after_import e.pass e x cs p
after export e t x cs object p = export_specifier e x p
after declare e t x cs object p = do
  ds ← declarator e cs p
  give (field t x ds)
after express e t x cs object p = after_expression e.pass e (field t x cs) object p
after nothing e t x cs object p = give (field t x cs)

-- ---- The parts of a field

-- not walked; as those of a 63, a 64 and a 66; 'Children left to right'
pub data Parts : Type 0 where
  unwalked member super assignment children : Parts

unfoldable pub parts_for : ℕ → Parts
parts_for t =
    find t
    ((0x10, unwalked) ∷
    (0x23, unwalked) ∷
    (0x63, member) ∷
    (0x64, super) ∷
    (0x66, assignment) ∷
    [])
    children

-- 'A block clears *top* for good.'
abbrev pub enter : ℕ → State → State
enter t s = cond (eqb t 0x45) (set_top false s) s

unfoldable mutual
  pub walk : Field → Setting → Bool → ℕ → Act Field
  walk (field t x cs) e object p = do
    change (enter t)
    ds ←
        (elim (parts_for t) [
          | unwalked ↦ give cs
          | member ↦ walk_member cs e (inside p x)
          | super ↦ walk_all cs e false (inside p x)
          | assignment ↦ walk_assignment cs e object (inside p x)
          | children ↦ walk_all cs e object (inside p x)
        ])
    after (rule_for t) e t x ds object p

  pub walk_all : Fields → Setting → Bool → ℕ → Act Fields
  walk_all none e object p = give none
  walk_all (more f fs) e object p = do
    g ← walk f e object p
    gs ← walk_all fs e object (p + size f)
    give (more g gs)

  -- '63: set *object*, walk the object; walk a 71 with it clear; restore. 64: only a 71, clear': a 70 and a 72 have no parts
  pub walk_member : Fields → Setting → ℕ → Act Fields
  walk_member none e p = give none
  walk_member (more f fs) e p = do
    g ← walk f e true p
    gs ← walk_all fs e false (p + size f)
    give (more g gs)

  pub walk_assignment : Fields → Setting → Bool → ℕ → Act Fields
  walk_assignment none e object p = give none
  walk_assignment (more f fs) e object p = do
    g ← walk_target f e p
    values ← walk_all fs e object (p + size f)
    give (more g values)

  -- 'A 63 as target of 66 is walked, but is no expression': the other target, a 50, has no parts
  pub walk_target : Field → Setting → ℕ → Act Field
  walk_target (field t x cs) e p = do
    ds ← walk_member cs e (inside p x)
    give (field t x ds)

-- ---- A pass

-- 'Flag *object* starts clear, *top* set.' The items stand behind the module's tag and length
unfoldable pub walk_module : Setting → Fields → Act Fields
walk_module e items = do
  change (set_top true)
  gs ← walk_all items e false 3
  give (keep stays gs)

-- the second pass with its end
unfoldable pub walk_again : Setting → Fields → Act Fields
walk_again e items = do
  gs ← walk_module e items
  finish e
  give gs
