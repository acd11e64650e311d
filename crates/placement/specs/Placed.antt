-- 'Well placed', clause by clause. Document 01, 'Records and resolving'.
use Rattle.std.specs.Prelude.{Option, None, Some}
use Rattle.std.specs.Prelude.{ℕ, zero, suc, Bool, true, false, not, cond, ◌&&◌, ◌||◌, List, [], ◌∷◌}
use Rattle.scope.specs.Id.{require_atom, local}
use Rattle.tree.specs.Layout.{two, four, same, id_at, name_of, context_of, value_of}
use Rattle.tree.specs.Tree.{Field, Fields, none, more, fixed_of, parts_of}
use Rattle.inputs.specs.Lists.{is_some, among}
use Rattle.inputs.specs.Fields.{has, keep, find_field, sole}
use Rattle.extraction_rules.specs.First.{specifiers_in}
use Rattle.placement.specs.Stands.{How, stands, is_misplaced, properties}

unfoldable pub all : {A : Type 0} → (A → Bool) → List A → Bool
all p [] = true
all p (a ∷ l) = p a && all p l

-- the item at a place
abbrev pub item_at : ℕ → Fields → Option Field
item_at k none = None
item_at zero (more f fs) = Some f
item_at (suc k) (more f fs) = item_at k fs

-- the imports among the items, in order
unfoldable pub imports_in : Fields → List Field
imports_in none = []
imports_in (more f fs) = cond (has 0x10 f) (f ∷ imports_in fs) (imports_in fs)

-- 'imports precede other items'
unfoldable pub imports_precede : Fields → Bool
imports_precede none = true
imports_precede (more f fs) = cond (has 0x10 f) (imports_precede fs) (not (is_some (find_field (has 0x10) fs)))

-- the local ids of specifiers
unfoldable pub local_ids : Fields → List (List ℕ)
local_ids none = []
local_ids (more f fs) = id_at (fixed_of f) 0 ∷ local_ids fs

abbrev pub locals_of : Field → List (List ℕ)
locals_of f = local_ids (specifiers_in (parts_of f))

-- a source, or a local id, of one of these imports
unfoldable pub has_source : List ℕ → List Field → Bool
has_source a [] = false
has_source a (f ∷ l) = same (value_of (fixed_of f)) a || has_source a l

unfoldable pub has_local : List ℕ → List Field → Bool
has_local i [] = false
has_local i (f ∷ l) = among i (locals_of f) || has_local i l

-- 'share no source or local id'
unfoldable pub shares_none : List Field → Bool
shares_none [] = true
shares_none (f ∷ l) = not (has_source (value_of (fixed_of f)) l) && all (λ i. not (has_local i l)) (locals_of f) && shares_none l

-- 'locals have own local context'
unfoldable pub own_locals : ℕ → Field → Bool
own_locals own f = all (λ i. same (context_of i) (four (local own))) (locals_of f)

-- 'a 22 is sole'
unfoldable pub sole_namespace : Field → Bool
sole_namespace f = not (is_some (find_field (has 0x22) (parts_of f))) || is_some (sole (specifiers_in (parts_of f)))

-- the ids of the namespaces of an import
abbrev pub namespaces_of : Field → List (List ℕ)
namespaces_of f = local_ids (keep (has 0x22) (parts_of f))

-- 'namespace ids stand elsewhere only as ..'; 'neither a namespace nor a property of one is named require'
unfoldable pub fit_namespace : List How → List ℕ → Bool
fit_namespace hs i = all (λ h. not (is_misplaced h)) hs && not (same (name_of i) (two require_atom)) && not (among (two require_atom) (properties hs))

unfoldable pub fit_namespaces : Fields → Field → Bool
fit_namespaces items f = all (λ i. fit_namespace (stands items i) i) (namespaces_of f)

-- a module's items, where the own file's module number is as told
unfoldable pub well_placed : ℕ → Fields → Bool
well_placed own items =
    let fs : List Field = imports_in items in
    imports_precede items && shares_none fs && all (own_locals own) fs && all sole_namespace fs && all (fit_namespaces items) fs
