-- `scope_bytes`: one way; `scope-written` says that the count and the modules, written over 770 zeros, are the scope's bytes.
use Rattle.scope.specs.ScopeValue.{modules_of}
use Rattle.tychodrel.proofs.ListingLaws.{scope-written}
use Rattle.tychodrel.proofs.listing.scope_bytes.Goals as goal

pub returns : goal.returns
returns c =
    scope-written (modules_of c.args.scope) _ c.to_cells-n.ensures.0 c.to_cells-n.ensures.1 c.to_cells-n.ensures.2 c.put_u16-o.ensures c.put_modules.ensures
