use Rattle.base_cases.proofs.tests.of_catalogue_lock.numbers.turn_and_meet.Goals as goal

pub returns-clause-met : goal.returns-clause-met
returns-clause-met g c = record {
  between = c.turn-reply.new.pass;
  turned = c.turn-reply.ensures;
  met = c.meet.ensures.first;
  other_met = c.meet.ensures.second;
  begins = c.meet.ensures.first_begins;
  other_begins = c.meet.ensures.second_begins;
  other_own = c.meet.ensures.second_own;
}
