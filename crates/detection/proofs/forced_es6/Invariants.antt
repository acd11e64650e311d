-- `forced_es6`: the invariant says that the items from here on answer what all items answer, and that reading accepts them
-- (`accepted-on`): so the tag that is tested is that of the field that stands there (`forced-more`).
use mathlib.Core.Path.{◌≡◌}
use Rattle.tree.specs.Rows.{fields_of}
use Rattle.detection.specs.Detection.{forced_es6, AcceptedIn}
use Rattle.detection.proofs.forced_es6.Given as goal

abbrev pub invariant-loop-part : goal.invariant-loop-part
invariant-loop-part l =
    (forced_es6 (fields_of l.initial.items) ≡ forced_es6 (fields_of l.part-iterator)) × AcceptedIn l.part-iterator
