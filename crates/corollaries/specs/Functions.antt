-- Demand 3 of the functions: both sentences, of what the functions answer and leave. Each equation below that ends in a definition of the
-- rules is the contract of the function that is called. Document 01, 'Demand 3's words'.
use Rattle.std.specs.Prelude.{None, Some, Result, Ok, Err}
use Rattle.std.specs.Prelude.{ℕ, ◌≡◌, Bool, true, false, List, [], ◌∷◌}
use Rattle.modes.specs.declared.Modes.{Modes}
use Rattle.scope.specs.declared.Gen.{Gen}
use Rattle.scope.specs.declared.NoSuchModule.{NoSuchModule}
use Rattle.scope.specs.declared.Requested.{Requested}
use Rattle.scope.specs.declared.Mark.TheVariants.{Wrapping}
use Rattle.scope.specs.declared.Marked.{Marked}
use Rattle.scope.specs.declared.Scope.{Scope}
use Rattle.scope.specs.declared.id.ModuleId.{ModuleId}
use Rattle.scope.specs.Modules.{Modules, gen, files_in, request_all, marking, read_mark, request}
use Rattle.scope.specs.ScopeValue.{modules_of, generated, requested, marked_by, read_by}
use Rattle.tree.specs.declared.grammar.Set.TheVariants.{Module, Records}
use Rattle.tree.specs.Layout.{value_of, Bytes}
use Rattle.tree.specs.Tree.{field, Fields, none, more, encode}
use Rattle.tree.specs.Read.{fine, read}
use Rattle.inputs.specs.Outcome.{done}
use Rattle.inputs.specs.Lists.{among}
use Rattle.inputs.specs.Table.{rows_in, atoms_in}
use Rattle.tree.specs.Layout.{field_in}
use Rattle.extraction_rules.specs.Call.{Lent, Lengths, Extracted, items_read, extracted, extraction}
use Rattle.extraction.specs.declared.Extraction.{Extraction}
use Rattle.extraction.specs.Answer.{left}
use Rattle.resolving_rules.specs.Call.{Resolved, resolved, resolving}
use Rattle.resolving.specs.declared.Resolution.{Resolution}
use Rattle.resolving.specs.Answer.{lent_as, left as left_list}
use Rattle.corollaries.specs.declared.PairError.TheVariants.{NotExtracted, NotListed}
use Rattle.placement.specs.Stands.{stands}
use Rattle.placement.specs.Placed.{well_placed}
use Rattle.theorems.specs.Demand.{Declares, takes, Ends}
use Rattle.corollaries.specs.declared.Pair.{Pair}
use Rattle.theorems.specs.Lists.{Call, requests, requests_all, sets, reads, reads_esm, extracts, resolves, wraps_any}

-- ---- The sentence on lists

-- a call on the scope s hands back the scope t; calls that read hand none back
abbrev pub HandsBack : Call → Scope → Scope → Type 0
HandsBack (requests f) s t = (r : Gen) × (generated r ≡ gen f (modules_of s)) × (t ≡ r.scope)
HandsBack (requests_all files) s t = (r : Requested) × (requested r ≡ request_all (files_in files) (modules_of s)) × (t ≡ r.scope)
HandsBack (sets k m) s t = (r : Marked) × (marked_by r ≡ marking k m (modules_of s)) × (t ≡ r.scope)
HandsBack (reads k m) s t = t ≡ s
HandsBack (reads_esm m) s t = t ≡ s
HandsBack (extracts l room) s t =
    (r : Extraction) × (w : List ℕ) × (o : List ℕ) × (k : List ℕ) × (left r w o k ≡ extraction l room (modules_of s)) × (t ≡ r.scope)
HandsBack (resolves l room) s t = (r : Resolution) × (g : List ℕ) × (left_list r g ≡ resolving l room (modules_of s)) × (t ≡ r.scope)

-- each call on the scope that the call before it handed back
abbrev pub HandOn : List Call → Scope → Scope → Type 0
HandOn [] s t = t ≡ s
HandOn (c ∷ calls) s t = (u : Scope) × HandsBack c s u × HandOn calls u t

-- After any list of calls from a fresh scope on, `should_be_wrapped_with_a_fn` answers exactly whether a call of the list wrapped the module.
abbrev pub AnswersExactly : Type 0
AnswersExactly =
    (calls : List Call) (s t : Scope) → modules_of s ≡ [] → HandOn calls s t →
    (m : ModuleId) (b : Bool) → read_by (Ok b) ≡ read_mark Wrapping m (modules_of t) → b ≡ wraps_any m.0 calls []

-- the same of an answer in the scope t; a module whose number no call gave was wrapped by none
pub record Exact (m : ModuleId) (t : Scope) (r : Result Bool NoSuchModule) : Type 0 where
  pub is : (calls : List Call) (s : Scope) → modules_of s ≡ [] → HandOn calls s t → (b : Bool) → r ≡ Ok b → b ≡ wraps_any m.0 calls []
  pub never : (calls : List Call) (s : Scope) → modules_of s ≡ [] → HandOn calls s t → (e : NoSuchModule) → r ≡ Err e → wraps_any m.0 calls [] ≡ false

-- ---- Kept whole or taken apart

-- the trees that the buffers hold as read back, and the scopes' modules: a and b are those after extraction and after resolving,
-- o and k *out* and the records, g the resolved list
pub record Holds (a b : Modules) (o k g : List ℕ) (t : Extracted) (u : Resolved) : Type 0 where
  pub out : read Module (field_in o) ≡ fine (more t.out none)
  pub records : read Records (field_in k) ≡ fine (more t.records none)
  pub list : field_in g ≡ encode u.list
  pub extracted : a ≡ t.modules
  pub resolved : b ≡ u.modules

-- the rules gave t with the modules ms, and with the modules c and the modes m they gave u of the records that stand in their buffer; the
-- buffers hold both; and every namespace import with a non-external source is taken apart or kept as demand 3 says
abbrev pub KeepOrPart : Lent → Modes → Lengths → ℕ → Fields → Modules → Modules → Modules → Modules → List ℕ → List ℕ → List ℕ → Type 0
KeepOrPart l m room n items ms a c b o k g =
    (t : Extracted) × (u : Resolved) × (extracted l room ms ≡ done t)
    × (resolved (lent_as m l.table (field_in k)) n c ≡ done u)
    × Holds a b o k g t u
    × ((k : ℕ) (x i : List ℕ) → Declares items k x (more (field 0x22 i none) none) → among (value_of x) (atoms_in l.externals) ≡ false →
    Ends (takes (rows_in l.table) x (stands items i)) i x k (stands items i) items l t u)

-- the same of scopes: s before both calls, a and b after extraction, in whose scope resolving goes on, and after resolving
abbrev pub InScopes : Lent → Modes → Lengths → ℕ → Fields → Scope → Scope → Scope → List ℕ → List ℕ → List ℕ → Type 0
InScopes l m room n items s a b o k g = KeepOrPart l m room n items (modules_of s) (modules_of a) (modules_of a) (modules_of b) o k g

-- the items of a well placed tree, with the modules ms
pub record WellPlaced (l : Lent) (ms : Modules) (items : Fields) : Type 0 where
  pub own : ℕ × Modules
  pub reading : items_read (read Module l.tree) ≡ done items
  pub requesting : request l.file ms ≡ Some own
  pub placed : well_placed own.0 items ≡ true

-- `extract_import_info` accepted a well placed tree, and `resolve_imports` the records that it left, with the same table, its scope and
-- any modes:
-- of what the buffers then hold, every namespace import with a non-external source is taken apart or kept as demand 3 says.
abbrev pub FunctionsKeepOrPart : Type 0
FunctionsKeepOrPart =
    (l : Lent) (room : Lengths) (s : Scope) (r : Extraction) (w o k : List ℕ) (m : Modes) (n : ℕ) (q : Resolution) (g : List ℕ) →
    left r w o k ≡ extraction l room (modules_of s) → r.answer ≡ Ok tt →
    left_list q g ≡ resolving (lent_as m l.table (field_in k)) n (modules_of r.scope) → q.answer ≡ Ok tt →
    Bytes l.tree → (items : Fields) → WellPlaced l (modules_of s) items →
    InScopes l m room n items s r.scope q.scope o k g

-- The same of `extract_and_resolve`, which makes both calls: o, k and g are what it leaves in *out*, the records and the list, n the
-- list's room. It says that a call is refused only where the rules refuse it.
pub record Pairs (l : Lent) (room : Lengths) (n : ℕ) (s : Scope) (o k g : List ℕ) (p : Pair) : Type 0 where
  pub both : p.answer ≡ Ok tt → (items : Fields) → WellPlaced l (modules_of s) items → InScopes l l.modes room n items s p.extracted p.resolved o k g
  pub unextracted : p.answer ≡ Err NotExtracted → (extraction l room (modules_of s)).refusal ≡ None → ⊥
  pub unlisted : p.answer ≡ Err NotListed → (resolving (lent_as l.modes l.table (field_in k)) n (modules_of p.extracted)).refusal ≡ None → ⊥
  pub records : k ≡ (extraction l room (modules_of s)).records
  pub modules : modules_of p.extracted ≡ (extraction l room (modules_of s)).modules
