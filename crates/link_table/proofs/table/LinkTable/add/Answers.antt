use Rattle.std.proofs.Common.{◌∙◌, ap}
use Rattle.link_table.specs.Table.{links}
use Rattle.link_table.proofs.Steps.{taken_more, back_more}
use Rattle.link_table.proofs.table.LinkTable.add.Goals as goal

pub put_back-requires-clause-taken : goal.put_back-requires-clause-taken
put_back-requires-clause-taken c = taken_more c.args.link (links c.args.self.now) _ c.in_ok-make_room.ensures.ok

pub put_back-requires-clause-free : goal.put_back-requires-clause-free
put_back-requires-clause-free c = ap (λ l. l.key_of c.args.link.seat) c.in_ok-make_room.ensures.ok ∙ c.requires

pub returns-clause-ok : goal.returns-clause-ok
returns-clause-ok c = c.put_back.ensures ∙ back_more c.args.link (links c.args.self.now) _ c.in_ok-make_room.ensures.ok
