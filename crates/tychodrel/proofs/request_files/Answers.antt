-- `request_files`: one way; the contract of `gen_ids`, in the scope that `Scope::new` gives, which has no modules.
use mathlib.Core.Path.{ap, ◌∙◌}
use Rattle.scope.specs.Modules.{Modules, files_in, request_all}
use Rattle.tychodrel.proofs.request_files.Goals as goal

pub returns : goal.returns
returns c =
    c.gen_ids.ensures ∙ ap (λ (ms : Modules). request_all (files_in c.args.files.now) ms) c.new.ensures
