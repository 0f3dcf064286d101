use Rattle.std.proofs.Common.{◌∙◌}
use Rattle.numbered_store.proofs.Tied.{no_ties, own_ties}
use Rattle.numbered_store.proofs.kept.StoredRecord.ties.Goals as goal

pub returns-in-Some : goal.returns-in-Some
returns-in-Some c = c.as_slice.ensures ∙ own_ties c.args.self.now c.in-Some.ties c.in-Some.is

pub returns-in-None : goal.returns-in-None
returns-in-None c = no_ties c.args.self.now c.in-None.is
