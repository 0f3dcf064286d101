use Rattle.linking_laws.proofs.Turning.{drop_begins, drop_goes_on}
use Rattle.linking_laws.proofs.between.dropping_goes_on_by_one_place.Goals as goal

pub returns-clause-begins : goal.returns-clause-begins
returns-clause-begins c = drop_begins

pub returns-clause-goes_on : goal.returns-clause-goes_on
returns-clause-goes_on c = λ d key done now m successor p h. drop_goes_on d key successor done now p h m
