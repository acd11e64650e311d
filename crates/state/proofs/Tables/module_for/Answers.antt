-- `module_for`: the file that the table names is requested (`source-resolved`); without one the source is unresolved (`source-unresolved`).
use mathlib.Core.Path.{ap, subst}
use Rattle.tree.specs.Layout.{two}
use Rattle.inputs.specs.Table.{file_of}
use Rattle.inputs.specs.ResolvedValue.{file_by}
use Rattle.state.specs.Does.{Says}
use Rattle.state.proofs.ModulesLaws.{source-resolved, source-unresolved}
use Rattle.state.proofs.Tables.module_for.Goals as goal

pub returns-in-Some : goal.returns-in-Some
returns-in-Some c =
    source-resolved _ (subst (Says (λ e. file_of (two c.args.source.0) e.table) c.args.self.now.cells) (ap file_by c.in-Some.is) c.file_for.ensures)
    c.request.ensures

pub returns-in-None : goal.returns-in-None
returns-in-None c =
    source-unresolved _ (subst (Says (λ e. file_of (two c.args.source.0) e.table) c.args.self.now.cells) (ap file_by c.in-None.is) c.file_for.ensures)
