use Rattle.split_command.specs.Surveying.{HasRead}
use Rattle.split_command.proofs.surveying.survey_entries.Given as goal

abbrev pub invariant-items : goal.invariant-items
invariant-items g l = HasRead l.fn.file l.initial.entries l.entries l.initial.survey l.survey l.counts

abbrev pub decreases-items : goal.decreases-items
decreases-items g l = l.entries.stream.most
