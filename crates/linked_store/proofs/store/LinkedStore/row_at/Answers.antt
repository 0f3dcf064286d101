use Rattle.linked_store.proofs.Fielded.{unchanged_none}
use Rattle.linked_store.proofs.store.LinkedStore.row_at.Goals as goal

pub returns-in_default-clause-unchanged : goal.returns-in_default-clause-unchanged
returns-in_default-clause-unchanged c = unchanged_none c.args.self.now

pub returns-in_default-lent_forms-clause-unchanged : goal.returns-in_default-lent_forms-clause-unchanged
returns-in_default-lent_forms-clause-unchanged c = unchanged_none c.args.self.now

pub returns-in_err-named-clause-unchanged : goal.returns-in_err-named-clause-unchanged
returns-in_err-named-clause-unchanged c = unchanged_none c.args.self.now
