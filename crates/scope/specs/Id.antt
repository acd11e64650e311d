-- Atoms with a meaning, and the contexts of modules, as numbers and as the types that no call takes for one another.
-- Document 01, before its sections and 'Scope'.
use Rattle.std.specs.Prelude.{ℕ, ◌+◌, ◌*◌}
use Rattle.scope.specs.declared.id.Atom.{Atom}
use Rattle.scope.specs.declared.id.SyntaxContext.{SyntaxContext}
use Rattle.scope.specs.declared.id.ModuleId.{ModuleId}

-- 'Atoms 0 to 4 are require, module, exports, default, mod.'
abbrev pub require_atom : ℕ
require_atom = 0

abbrev pub module_atom : ℕ
module_atom = 1

abbrev pub exports_atom : ℕ
exports_atom = 2

abbrev pub default_atom : ℕ
default_atom = 3

abbrev pub mod_atom : ℕ
mod_atom = 4

-- 'empty is 0, local 2 + 2 × n, export 3 + 2 × n'
abbrev pub empty : ℕ
empty = 0

abbrev pub local : ℕ → ℕ
local n = 2 + 2 * n

abbrev pub export : ℕ → ℕ
export n = 3 + 2 * n

-- 'A `ModuleId` is not a context, and a context is not an atom'
abbrev pub atom : ℕ → Atom
atom n = record { 0 = n }

abbrev pub context : ℕ → SyntaxContext
context n = record { 0 = n }

abbrev pub module_id : ℕ → ModuleId
module_id n = record { 0 = n }

abbrev pub local_ctxt : ModuleId → SyntaxContext
local_ctxt m = context (local m.0)

abbrev pub export_ctxt : ModuleId → SyntaxContext
export_ctxt m = context (export m.0)
