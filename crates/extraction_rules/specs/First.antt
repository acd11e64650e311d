-- The rules of the first pass, in the order of document 01, 'First pass'. Those for 23 and 42 hold in both passes.
-- A place p is the offset of the field that a rule stands at.
use Rattle.std.specs.Prelude.{Option, None, Some}
use Rattle.std.specs.Prelude.{ℕ, ◌+◌, Bool, false, not, cond, ◌&&◌, ◌||◌, List, [], ◌∷◌, ◌++◌, eqb, length, get_or, take}
use Rattle.scope.specs.Id.{require_atom, local, export}
use Rattle.scope.specs.Modules.{Modules, request, set_mark}
use Rattle.scope.specs.declared.Mark.TheVariants.{Cjs}
use Rattle.tree.specs.Layout.{two, four, same, atom_at, id_at, name_of, context_of, value_of}
use Rattle.tree.specs.Tree.{Field, field, Fields, none, more, tag_of, fixed_of, parts_of, size}
use Rattle.metadata.specs.Metadata.{append, with_metadata}
use Rattle.inputs.specs.Outcome.{done}
use Rattle.inputs.specs.Lists.{find, filter, is_some, mapped, among}
use Rattle.inputs.specs.Table.{file_of}
use Rattle.inputs.specs.Fields.{has, keep, find_field, sole, inside}
use Rattle.extraction_rules.specs.State.{Record, Imported, Usage, State, Setting, Act, ◌>>=◌, ◌>>◌, give, skip, change, refuse, room_for}
use Rattle.extraction_rules.specs.State.{set_modules, set_imported, set_usages, set_collected, set_lazy, set_forced}

-- ---- Ids and sources

-- an id from a name and a context
abbrev pub id_from : List ℕ → ℕ → List ℕ
id_from a c = a ++ four c

-- 'not external': of a literal
unfoldable pub external : Setting → List ℕ → Bool
external e l = among (value_of l) e.externals

abbrev pub requested : Option (ℕ × Modules) → ℕ → Act (Option ℕ)
requested None p = refuse 5 p
requested (Some r) p = λ s. done (Some r.0, set_modules r.1 s)

abbrev pub module_of : Option ℕ → ℕ → Act (Option ℕ)
module_of None p = give None
module_of (Some f) p = λ s. requested (request f s.modules) p s

-- the module of the file that the table names for a source; none: unresolved; 5: 'a 257th file'
unfoldable pub module_for : Setting → List ℕ → ℕ → Act (Option ℕ)
module_for e a p = module_of (file_of a e.table) p

-- ---- 'Force id: drop its imported entry and usages; the first collected record holding that exact namespace has its source forced.'

unfoldable pub holds_namespace : List ℕ → Record → Bool
holds_namespace i r = is_some (find_field (λ f. has 0x22 f && same (fixed_of f) i) r.specifiers)

-- a source is forced: 'a set in the Rust'
unfoldable pub force_source : List ℕ → State → State
force_source a s = cond (among a s.forced) s (set_forced (s.forced ++ (a ∷ [])) s)

abbrev pub force_holder : Option Record → State → State
force_holder None s = s
force_holder (Some r) s = force_source (value_of r.literal) s

-- drop its imported entry and usages
unfoldable pub forget : List ℕ → State → State
forget i s = set_imported (filter (λ m. not (same m.id i)) s.imported) (set_usages (filter (λ u. not (same u.id i)) s.usages) s)

unfoldable pub force_id : List ℕ → State → State
force_id i s = force_holder (find (holds_namespace i) s.collected) (forget i s)

-- ---- 'Usage: 63 on a 60 whose id is imported.'

-- the object and the member of a 63 on a 60
unfoldable pub on_ident : Field → Option (Field × Field)
on_ident (field t x none) = None
on_ident (field t x (more o none)) = None
on_ident (field t x (more o (more q qs))) = cond (eqb t 0x63 && has 0x60 o) (Some (o, q)) None

unfoldable pub imported_as : List ℕ → List Imported → Option (List ℕ)
imported_as i l = mapped (λ m. m.context) (find (λ m. same m.id i) l)

-- 'FIRST namespace has that name, with the 60 in own local context or the namespace's'
abbrev pub suits : ℕ → List ℕ → Option Field → Bool
suits own i None = false
suits own i (Some f) =
    same (name_of (fixed_of f)) (name_of i) && (same (context_of i) (four (local own)) || same (context_of i) (context_of (fixed_of f)))

-- 'the first record whose FIRST namespace ..'
unfoldable pub used_record : ℕ → List ℕ → List Record → Option Record
used_record own i l = find (λ r. suits own i (find_field (has 0x22) r.specifiers)) l

-- 'append (property, export context)'; 8: over '2,048 usages held together'
unfoldable pub add_usage : Usage → ℕ → Act (Unit {0})
add_usage u p = λ s. let l : List Usage = s.usages ++ (u ∷ []) in room_for (length l) 2048 p (set_usages l) s

-- '72: refusal 7', at that field; 'unresolved: nothing'
unfoldable pub use_property : Option ℕ → List ℕ → Field → ℕ → ℕ → Act (Unit {0})
use_property None i q at p = skip
use_property (Some n) i q at p =
    cond (has 0x72 q) (refuse 7 at) (add_usage (record { id = i; property = id_from (fixed_of q) (export n) }) p)

-- 'none .. : nothing'
unfoldable pub use_from : Option Record → Setting → List ℕ → Field → ℕ → ℕ → Act (Unit {0})
use_from None e i q at p = skip
use_from (Some r) e i q at p = do
  n ← module_for e (value_of r.literal) p
  use_property n i q at p

-- 'Computed: force.'
unfoldable pub use_imported : Option (List ℕ) → Setting → List ℕ → Field → ℕ → ℕ → Act (Unit {0})
use_imported None e i q at p = skip
use_imported (Some c) e i q at p =
    cond (has 0x71 q) (change (force_id i)) (λ s. use_from (used_record e.own i s.collected) e i q at p s)

-- the object and the member of a 63 at p, if it is one on a 60
unfoldable pub usage : Option (Field × Field) → Setting → ℕ → Act (Unit {0})
usage None e p = skip
usage (Some m) e p = λ s. use_imported (imported_as (fixed_of m.0) s.imported) e (fixed_of m.0) m.1 (p + 3 + size m.0) p s

-- ---- 'Require (config on): 65, callee 60 named require in any context, just one argument, no spread, a 61, not external.'

-- the literal of a 75 without spread that holds a 61
unfoldable pub argument : Option Field → Option (List ℕ)
argument None = None
argument (Some (field t x none)) = None
argument (Some (field t x (more f fs))) = cond (eqb t 0x75 && same x (0 ∷ []) && has 0x61 f) (Some (fixed_of f)) None

unfoldable pub not_external : Setting → Option (List ℕ) → Option (List ℕ)
not_external e None = None
not_external e (Some l) = cond (external e l) None (Some l)

-- the literal of a call that meets the require conditions
unfoldable pub required : Setting → Field → Option (List ℕ)
required e (field t x none) = None
required e (field t x (more c gs)) =
    cond (e.config.require && eqb t 0x65 && has 0x60 c && same (name_of (fixed_of c)) (two require_atom)) (not_external e (argument (sole gs))) None

-- 'the callee gets the export context'
unfoldable pub with_callee : ℕ → Field → Field
with_callee n (field t x none) = field t x none
with_callee n (field t x (more c gs)) = field t x (more (field (tag_of c) (id_from (name_of (fixed_of c)) (export n)) (parts_of c)) gs)

-- 'Mark cjs'; 'unresolved does neither'
unfoldable pub mark_cjs : Option ℕ → Field → Act Field
mark_cjs None f = give f
mark_cjs (Some n) f = do
  change (λ s. set_modules (set_mark Cjs n s.modules) s)
  give (with_callee n f)

-- of a call f with the literal l, for the field at p
unfoldable pub mark_required : Setting → List ℕ → Field → ℕ → Act Field
mark_required e l f p = do
  n ← module_for e (value_of l) p
  mark_cjs n f

-- 'collect: the first record of equal source value gets the specifiers, else a new one'
unfoldable pub collect_in : Record → List Record → List Record
collect_in r [] = r ∷ []
collect_in r (q ∷ l) =
    cond (same (value_of q.literal) (value_of r.literal))
    (record { literal = q.literal; specifiers = append q.specifiers r.specifiers } ∷ l)
    (q ∷ collect_in r l)

-- 8: over '256 collected'
unfoldable pub collect : Record → ℕ → Act (Unit {0})
collect r p = λ s. let l : List Record = collect_in r s.collected in room_for (length l) 256 p (set_collected l) s

-- 8: over '1,024 lazy'
unfoldable pub add_lazy : Record → ℕ → Act (Unit {0})
add_lazy r p = λ s. let l : List Record = s.lazy ++ (r ∷ []) in room_for (length l) 1024 p (set_lazy l) s

-- 'Record without specifiers: collected if *top*, else lazy.'
unfoldable pub require : Option (List ℕ) → Setting → Field → ℕ → Act Field
require None e f p = give f
require (Some l) e f p = do
  g ← mark_required e l f p
  λ s. cond s.top (collect (record { literal = l; specifiers = none }) p) (add_lazy (record { literal = l; specifiers = none }) p) s
  give g

-- ---- '10, not external'

-- 'note imported ids': one entry for an id; 8: over '512 imported ids'
unfoldable pub note_in : Imported → List Imported → List Imported
note_in m [] = m ∷ []
note_in m (k ∷ l) = cond (same k.id m.id) (m ∷ l) (k ∷ note_in m l)

unfoldable pub note_id : Imported → ℕ → Act (Unit {0})
note_id m p = λ s. let l : List Imported = note_in m s.imported in room_for (length l) 512 p (set_imported l) s

-- a 20's outside name, 'filling none with the local name'
unfoldable pub outside_name : List ℕ → List ℕ
outside_name x = cond (eqb (get_or x 6 0) 1) (atom_at x 7) (name_of x)

-- 20: 'give outside names that context'; 6: 'string name .. in a 20 of a resolved non-external import'
unfoldable pub note_named : ℕ → List ℕ → ℕ → Act Field
note_named n x p =
    cond (eqb (get_or x 6 0) 2) (refuse 6 p)
    (do
      note_id (record { id = id_at x 0; context = four (export n) }) p
      give (field 0x20 (id_at x 0 ++ 1 ∷ id_from (outside_name x) (export n)) none))

-- '(export context; own for default)'
abbrev pub noted_context : ℕ → Field → List ℕ
noted_context n f = cond (has 0x21 f) (context_of (fixed_of f)) (four (export n))

unfoldable pub note_specifier : ℕ → Field → ℕ → Act Field
note_specifier n f p =
    cond (has 0x20 f) (note_named n (fixed_of f) p)
    (do
      note_id (record { id = fixed_of f; context = noted_context n f }) p
      give f)

unfoldable pub note_all : ℕ → Fields → ℕ → Act Fields
note_all n none p = give none
note_all n (more f fs) p = do
  g ← note_specifier n f p
  gs ← note_all n fs (p + size f)
  give (more g gs)

-- 'if resolved'
abbrev pub note_specifiers : Option ℕ → Fields → ℕ → Act Fields
note_specifiers None fs p = give fs
note_specifiers (Some n) fs p = note_all n fs p

-- an import's parts: '(20|21|22)*, 2F?'
abbrev pub specifiers_in : Fields → Fields
specifiers_in cs = keep (λ f. not (has 0x2F f)) cs

abbrev pub attributes_in : Fields → Fields
attributes_in cs = keep (has 0x2F) cs

-- the attributes in an import's 2F
abbrev pub attributes_of : Option Field → Fields
attributes_of None = none
attributes_of (Some f) = parts_of f

-- 'if resolved, append metadata (the export context alone)'
unfoldable pub with_context : Option ℕ → Fields → Fields
with_context None cs = attributes_in cs
with_context (Some n) cs = more (with_metadata (record { injected = false; context = Some (export n) }) (attributes_of (find_field (has 0x2F) cs))) none

-- '10, not external: .. Then collect'
unfoldable pub import_first : Setting → List ℕ → Fields → ℕ → Act Field
import_first e x cs p =
    cond (external e x) (give (field 0x10 x cs))
    (do
      n ← module_for e (value_of x) p
      fs ← note_specifiers n (specifiers_in cs) (inside p x)
      collect (record { literal = x; specifiers = fs }) p
      give (field 0x10 x (append fs (with_context n cs))))

-- ---- '23: force the original; exported name gets own local context, filling none.'

unfoldable pub exported_name : List ℕ → List ℕ
exported_name x = cond (eqb (get_or x 7 0) 1) (atom_at x 8) (atom_at x 1)

-- 6: 'string name in 23'
unfoldable pub export_specifier : Setting → List ℕ → ℕ → Act Field
export_specifier e x p =
    cond (eqb (get_or x 0 0) 2 || eqb (get_or x 7 0) 2) (refuse 6 p)
    (do
      change (force_id (id_at x 1))
      give (field 0x23 (take 7 x ++ 1 ∷ id_from (exported_name x) (local e.own)) none))

-- ---- '42, in BOTH passes, after children'

-- a pattern's binding ids are those of 50 and 54, of a 55's left pattern, and of the parts of other patterns
pub data Binding : Type 0 where
  bound left below : Binding

unfoldable pub binding_of : ℕ → Binding
binding_of t = cond (eqb t 0x50 || eqb t 0x54) bound (cond (eqb t 0x55) left below)

-- 'naming the pattern's binding ids left to right': as 20s without outside name
unfoldable mutual
  pub bindings : Field → Fields
  bindings (field t x cs) =
      elim (binding_of t) [
        | bound ↦ more (field 0x20 (id_at x 0 ++ 0 ∷ []) none) none
        | left ↦ bindings_first cs
        | below ↦ bindings_all cs
      ]

  pub bindings_all : Fields → Fields
  bindings_all none = none
  bindings_all (more f fs) = append (bindings f) (bindings_all fs)

  pub bindings_first : Fields → Fields
  bindings_first none = none
  bindings_first (more f fs) = bindings f

-- 'marks cjs, sets the callee, adds a lazy record'
unfoldable pub require_lazily : Option (List ℕ) → Setting → Field → Field → ℕ → Act Field
require_lazily None e q i p = give i
require_lazily (Some l) e q i p = do
  j ← mark_required e l i p
  add_lazy (record { literal = l; specifiers = bindings q }) p
  give j

-- 'an initialiser meeting the require conditions'
unfoldable pub declarator : Setting → Fields → ℕ → Act Fields
declarator e none p = give none
declarator e (more q none) p = give (more q none)
declarator e (more q (more i rest)) p = do
  j ← require_lazily (required e i) e q i p
  give (more q (more j rest))

-- ---- 'Module end, both passes: drop module items 40, and module items 41 without 42.'
unfoldable pub stays : Field → Bool
stays (field t x none) = not (eqb t 0x40 || eqb t 0x41)
stays (field t x (more f fs)) = not (eqb t 0x40)
