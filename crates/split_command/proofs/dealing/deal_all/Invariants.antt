use Rattle.split_command.specs.Reading.{HasDealt}
use Rattle.split_command.proofs.dealing.deal_all.Given as goal

abbrev pub invariant-items : goal.invariant-items
invariant-items g l = HasDealt g.K.Sink.written g.K.Sink.faults l.fn.code l.fn.bounds l.fn.first l.initial.pieces l.pieces l.initial.outs l.outs

abbrev pub decreases-items : goal.decreases-items
decreases-items g l = l.pieces.most
