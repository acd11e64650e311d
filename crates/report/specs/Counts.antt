-- What a call counts. No call counts anything yet.
use Rattle.report.specs.declared.Report.{Report}

abbrev pub no_counts : Report
no_counts = record {}
