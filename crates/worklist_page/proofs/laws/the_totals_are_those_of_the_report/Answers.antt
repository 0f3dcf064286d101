use Rattle.worklist_page.proofs.Totals.{ambiguous_total, linked_total, unlinked_total}
use Rattle.worklist_page.proofs.laws.the_totals_are_those_of_the_report.Goals as goal

pub returns : goal.returns
returns c = record { linked = linked_total; ambiguous = ambiguous_total; unlinked = unlinked_total }
