use Rattle.linking_laws.proofs.Settling.{carry_either, choose_either, settle_either}
use Rattle.linking_laws.proofs.between.carrying_and_choosing_settle.Goals as goal

pub returns-clause-carry : goal.returns-clause-carry
returns-clause-carry c = carry_either

pub returns-clause-choose : goal.returns-clause-choose
returns-clause-choose c = choose_either

pub returns-clause-settle : goal.returns-clause-settle
returns-clause-settle c = settle_either
