-- What the functions for usages of imported ids ask of a member. Document 01, 'First pass', "Usage".
use Rattle.std.specs.Prelude.{◌≡◌, ◌⊎◌}
use Rattle.tree.specs.Tree.{Field, tag_of}

-- the member of a 63 that is not computed: a 70 or a 72
abbrev pub Named : Field → Type 0
Named q = (tag_of q ≡ 0x70) ⊎ (tag_of q ≡ 0x72)
