-- How many bytes a request has.
use Rattle.std.specs.Prelude.{ℕ, ◌+◌, vec_len}
use Rattle.cards.specs.declared.request.Request.{Request}
use Rattle.cards.specs.declared.request.Request.TheVariants.{Extract, Decode, Resolve}

-- those of all its fields
abbrev pub bytes_in : Request → ℕ
bytes_in (Extract e) = vec_len e.files + vec_len e.externals + vec_len e.table + vec_len e.tree
bytes_in (Decode a) = vec_len a
bytes_in (Resolve r) = vec_len r.files + vec_len r.table + vec_len r.records
