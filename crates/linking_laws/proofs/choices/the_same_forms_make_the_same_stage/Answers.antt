use Rattle.linking_laws.proofs.Alike.{choose_alike, visits_alike, state_alike, sum_alike}
use Rattle.linking_laws.proofs.choices.the_same_forms_make_the_same_stage.Goals as goal

pub returns-clause-field : goal.returns-clause-field
returns-clause-field c = λ now key class h forms others. choose_alike now forms others key class h

pub returns-clause-visits : goal.returns-clause-visits
returns-clause-visits c = λ now key class h forms others. visits_alike now forms others key class h

pub returns-clause-state : goal.returns-clause-state
returns-clause-state c = λ now key s forms others. state_alike now forms others key s

pub returns-clause-sum : goal.returns-clause-sum
returns-clause-sum c = λ now key s forms others. sum_alike now forms others key s
