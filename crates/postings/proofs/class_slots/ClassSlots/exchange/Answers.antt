use Rattle.postings.specs.Slot.{exchanged}
use Rattle.postings.proofs.Written.{changed_under}
use Rattle.postings.proofs.class_slots.ClassSlots.exchange.Goals as goal

pub returns-clause-now : goal.returns-clause-now
returns-clause-now g c =
    changed_under c.args.self.now.records c.args.number c.in_ok-record.record.now c.exchange.new.self c.in_ok-record.ensures.value c.args.field (exchanged c.args.row)
    c.exchange.ensures.now
