use Rattle.postings.specs.Slot.{let_go}
use Rattle.postings.proofs.Written.{changed_under}
use Rattle.postings.proofs.class_slots.ClassSlots.let_go.Goals as goal

pub returns-in-Some : goal.returns-in-Some
returns-in-Some g c =
    changed_under c.args.self.now.records c.args.number c.in-Some.record.now c.let_go.new.self c.in-Some.ensures.value c.args.field let_go c.let_go.ensures
