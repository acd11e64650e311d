-- How the code answers: the number of the file that it found.
use Rattle.std.specs.Prelude.{ℕ, Option, None, Some}
use Rattle.scope.specs.declared.id.FileName.{FileName}

abbrev pub file_by : Option FileName → Option ℕ
file_by (Some f) = Some f.0
file_by None = None
