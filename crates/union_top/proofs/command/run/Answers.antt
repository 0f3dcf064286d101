use Rattle.union_top.proofs.command.run.Goals as goal

pub returns-clause-usage : goal.returns-clause-usage
returns-clause-usage g c = c.carry_through.ensures.carried.usage

pub returns-clause-unchanged : goal.returns-clause-unchanged
returns-clause-unchanged g c = c.carry_through.ensures.carried.unchanged

pub returns-clause-usage_told : goal.returns-clause-usage_told
returns-clause-usage_told g c = c.carry_through.ensures.carried.usage_told

pub returns-clause-apart : goal.returns-clause-apart
returns-clause-apart g c = c.carry_through.ensures.carried.apart

pub returns-clause-ends : goal.returns-clause-ends
returns-clause-ends g c = c.carry_through.ensures.carried.ends

pub returns-clause-complete : goal.returns-clause-complete
returns-clause-complete g c = c.carry_through.ensures.carried.complete

pub returns-clause-sure : goal.returns-clause-sure
returns-clause-sure g c = c.carry_through.ensures.carried.sure

pub returns-clause-misfits : goal.returns-clause-misfits
returns-clause-misfits g c = c.carry_through.ensures.carried.misfits
