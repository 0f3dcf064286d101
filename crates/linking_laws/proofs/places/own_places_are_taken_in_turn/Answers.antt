use Rattle.linking_laws.proofs.Taken.{next_own, all_taken}
use Rattle.linking_laws.proofs.places.own_places_are_taken_in_turn.Goals as goal

pub returns-clause-new : goal.returns-clause-new
returns-clause-new c = next_own

pub returns-clause-done : goal.returns-clause-done
returns-clause-done c = all_taken
