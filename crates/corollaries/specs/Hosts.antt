-- Demand 3's first sentence for hosts: extraction by the exported call, then resolving by the exported call with the files of the scope that
-- came back and the same table. Document 01, 'Demand 3's words', and 'Its calls start a fresh scope and first request a lent list of files'.
use Rattle.std.specs.Prelude.{None, Result, Ok, Err}
use Rattle.std.specs.Prelude.{ℕ, zero, suc, ◌+◌, ◌*◌, ◌≡◌, List, [], ◌∷◌, get_or}
use Rattle.scope.specs.Modules.{Modules, files_in, request_all}
use Rattle.tree.specs.Layout.{two_at, field_in}
use Rattle.tree.specs.Tree.{Fields}
use Rattle.extraction_rules.specs.Call.{Lent, Lengths}
use Rattle.resolving_rules.specs.Call.{resolving}
use Rattle.resolving.specs.Answer.{lent_as}
use Rattle.theorems.specs.Relending.{without_marks}
use Rattle.tychodrel.specs.Answer.{scope_bytes}
use Rattle.tychodrel.specs.Calls.{extract_call, resolve_call}
use Rattle.corollaries.specs.declared.PairError.{PairError}
use Rattle.corollaries.specs.declared.PairError.TheVariants.{NotExtracted, NotListed}
use Rattle.corollaries.specs.Functions.{KeepOrPart, WellPlaced}

-- the files in a scope's bytes, as bytes to lend: of k modules from number i on; module i stands at byte 2 + 3 × i
unfoldable pub files_from : ℕ → ℕ → List ℕ → List ℕ
files_from zero i s = []
files_from (suc k) i s = get_or s (2 + 3 * i) 0 ∷ get_or s (3 + 3 * i) 0 ∷ files_from k (suc i) s

-- of all modules: how many they are stands in front
unfoldable pub files_back : List ℕ → List ℕ
files_back s = files_from (two_at s 0) 0 s

-- s are the bytes of a scope with the modules ms, and the files in them, requested in a fresh scope, get the numbers that they have, none
-- being refused
pub record Relends (s : List ℕ) (ms : Modules) : Type 0 where
  pub bytes : s ≡ scope_bytes ms
  pub numbers : request_all (files_in (files_back s)) [] ≡ record { modules = without_marks ms; refusal = None }

-- the modules of a fresh scope with the lent files; those after an extraction in it; and those after a resolving of the records at the
-- front of the buffer k, lent the files in the bytes s
abbrev pub started : List ℕ → Modules
started files = (request_all (files_in files) []).modules

abbrev pub extracted_to : List ℕ → Lent → Lengths → Modules
extracted_to files l room = (extract_call files l room).modules

abbrev pub resolved_to : List ℕ → Lent → List ℕ → ℕ → Modules
resolved_to s l k n = (resolve_call (files_back s) (lent_as l.modes l.table (field_in k)) n).modules

-- What `extract_then_resolve` leaves, which makes both exported calls: s, o and k are the scope's bytes, *out* and the records after
-- extraction, z and g the scope's bytes and the list after resolving, n the list's room.
pub record LeavesBoth (files : List ℕ) (l : Lent) (room : Lengths) (n : ℕ) (s o k z g : List ℕ) (p : Result Unit PairError) : Type 0 where
  -- what each call hands back, refused or not, can be lent again
  pub extracted : Relends s (extracted_to files l room)
  pub resolved : (p ≡ Err NotExtracted → ⊥) → Relends z (resolved_to s l k n)
  pub records : k ≡ (extract_call files l room).records
  -- both calls accepted: every namespace import is kept whole or taken apart completely
  pub both : p ≡ Ok tt → (items : Fields) → WellPlaced l (started files) items →
      KeepOrPart l l.modes room n items (started files) (extracted_to files l room) (without_marks (extracted_to files l room)) (resolved_to s l k n) o k g
  -- a call is refused only where it would be in one scope that is handed on
  pub unextracted : p ≡ Err NotExtracted → (extract_call files l room).refusal ≡ None → ⊥
  pub unlisted : p ≡ Err NotListed → (resolving (lent_as l.modes l.table (field_in k)) n (extracted_to files l room)).refusal ≡ None → ⊥
