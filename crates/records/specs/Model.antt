-- A collected record as the trees after both passes tell it: the specifiers that the imports of its source have after the first pass, and
-- those that the second pass made of the namespace imports with its literal.
use Rattle.std.specs.Prelude.{ℕ, Option, None, Some, Bool, false, cond, ◌&&◌, List}
use Rattle.tree.specs.Layout.{same, value_of, same_literal}
use Rattle.tree.specs.Tree.{Field, Fields, none, more, fixed_of, parts_of}
use Rattle.metadata.specs.Metadata.{append}
use Rattle.inputs.specs.Fields.{has, sole}
use Rattle.extraction_rules.specs.State.{Record}
use Rattle.extraction_rules.specs.First.{specifiers_in}
use Rattle.extraction_rules.specs.Second.{lose_namespaces}

-- the specifiers of an item that is an import of the source v
unfoldable pub gathered_of : List ℕ → Field → Fields
gathered_of v f = cond (has 0x10 f && same (value_of (fixed_of f)) v) (specifiers_in (parts_of f)) none

-- of all items, in order
unfoldable pub gathered : List ℕ → Fields → Fields
gathered v none = none
gathered v (more f fs) = append (gathered_of v f) (gathered v fs)

-- 'a sole 22'
abbrev pub is_namespace : Option Field → Bool
is_namespace None = false
is_namespace (Some f) = has 0x22 f

-- the first is a 20
abbrev pub starts_named : Fields → Bool
starts_named none = false
starts_named (more f fs) = has 0x20 f

-- an import with the literal l and a sole 22
unfoldable pub whole_of : List ℕ → Field → Bool
whole_of l w = has 0x10 w && same_literal (fixed_of w) l && is_namespace (sole (specifiers_in (parts_of w)))

-- the specifiers that the second pass made of it: w before, g after
unfoldable pub taken_of : List ℕ → Field → Field → Fields
taken_of l w g = cond (whole_of l w && starts_named (specifiers_in (parts_of g))) (specifiers_in (parts_of g)) none

-- of two rows of items in step, in order
unfoldable pub taken : List ℕ → Fields → Fields → Fields
taken l none outs = none
taken l (more w ws) none = none
taken l (more w ws) (more g gs) = append (taken_of l w g) (taken l ws gs)

-- all specifiers of the record of a literal
unfoldable pub specifiers_of : Fields → Fields → List ℕ → Fields
specifiers_of works outs l = append (gathered (value_of l) works) (taken l works outs)

-- the record with these, 'other records lose namespaces'
unfoldable pub rebuilt : Fields → Fields → List (List ℕ) → Record → Record
rebuilt works outs forced r = lose_namespaces forced (record { literal = r.literal; specifiers = specifiers_of works outs r.literal })
