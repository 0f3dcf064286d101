use Rattle.std.proofs.Common.{◌∙◌, ap}
use Rattle.wait_table.specs.Table.{waits}
use Rattle.wait_table.proofs.Steps.{taken_more, back_more}
use Rattle.wait_table.proofs.table.WaitTable.add.Goals as goal

pub put_back-requires-clause-taken : goal.put_back-requires-clause-taken
put_back-requires-clause-taken c = taken_more c.args.row (waits c.args.self.now) _ c.in_ok-make_room.ensures.ok

pub put_back-requires-clause-free : goal.put_back-requires-clause-free
put_back-requires-clause-free c = ap (λ w. w.waiting c.args.row.seat) c.in_ok-make_room.ensures.ok ∙ c.requires

pub returns-clause-ok : goal.returns-clause-ok
returns-clause-ok c = c.put_back.ensures ∙ back_more c.args.row (waits c.args.self.now) _ c.in_ok-make_room.ensures.ok
