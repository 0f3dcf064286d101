use Rattle.linking_laws.proofs.Naming.{asks_something, asks_few}
use Rattle.linking_laws.proofs.tables.a_field_asks_for_one_form_or_two.Goals as goal

pub returns-clause-some : goal.returns-clause-some
returns-clause-some c = asks_something

pub returns-clause-few : goal.returns-clause-few
returns-clause-few c = asks_few
