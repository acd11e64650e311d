-- What is written is read back, of the buffer that an accepted `encode` hands back: `decode` is lent the field at its front. Document 01,
-- 'Metadata and detection', and its demand that metadata written where no attributes stood decodes to what was written.
use Rattle.std.specs.Prelude.{ℕ, ◌≡◌, List, [], Ok}
use Rattle.tree.specs.Layout.{Bytes, field_in}
use Rattle.tree.specs.Read.{fine}
use Rattle.metadata.specs.Metadata.{Metadata, Small, merged}
use Rattle.metadata.specs.Calls.{decode_call, Encoding}

-- 'Metadata written where no attributes stood decodes to what was written'
abbrev pub WrittenAlone : Type 0
WrittenAlone =
    (m : Metadata) (l l' : List ℕ) (n : ℕ) → Encoding m [] l (Ok n) l' → Small m.context → decode_call (field_in l') ≡ fine m

-- 'Written onto older attributes, injected is old or new, and the context is the new one, else the old': o is what the older ones tell
abbrev pub WrittenOnto : Type 0
WrittenOnto =
    (m : Metadata) (s l l' : List ℕ) (n : ℕ) → Encoding m s l (Ok n) l' → Bytes s → Small m.context →
    (o : Metadata) × (decode_call s ≡ fine o) × (decode_call (field_in l') ≡ fine (merged o m))
