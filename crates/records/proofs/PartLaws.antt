-- The specifiers of an import, read back from what is written of it.
use Rattle.std.specs.Prelude.{Option}
use Prim.Native.Nat.{ℕ}
use mathlib.Core.Path.{◌≡◌, refl}
use mathlib.Core.List.{List, [], ◌∷◌}
use Rattle.tree.specs.Tree.{Fields}
use Rattle.metadata.specs.Metadata.{append}
use Rattle.extraction_rules.specs.State.{Usage}
use Rattle.extraction_rules.specs.First.{specifiers_in, attributes_in, with_context}
use Rattle.extraction_rules.specs.Second.{specifiers_from}
use Rattle.extraction_rules.proofs.KeepLaws.{Meets, not_attributes, specifiers-front, no-context, no-specifiers}

pub specifiers-context : (fs : Fields) (o : Option ℕ) (cs : Fields) → Meets not_attributes fs → specifiers_in (append fs (with_context o cs)) ≡ fs
specifiers-context fs o cs h = specifiers-front fs (with_context o cs) h (no-context o cs)

-- usages become 20s
usages-meet : (us : List Usage) → Meets not_attributes (specifiers_from us)
unfolding specifiers_from
usages-meet [] = tt
usages-meet (u ∷ us) = (refl, usages-meet us)

pub specifiers-usages : (us : List Usage) (cs : Fields) → specifiers_in (append (specifiers_from us) (attributes_in cs)) ≡ specifiers_from us
specifiers-usages us cs = specifiers-front (specifiers_from us) (attributes_in cs) (usages-meet us) (no-specifiers cs)
