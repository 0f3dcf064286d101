use Rattle.heading_worklist.proofs.Totals.{as_many}
use Rattle.heading_worklist.proofs.laws.as_many_as_a_report_counts.Goals as goal

pub returns : goal.returns
returns c = as_many
