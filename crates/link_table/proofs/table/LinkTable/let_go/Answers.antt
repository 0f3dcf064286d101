use Rattle.link_table.proofs.Steps.{went, gone_sound}
use Rattle.link_table.specs.Table.{links}
use Rattle.link_table.proofs.table.LinkTable.let_go.Goals as goal

pub invariant_of-self : goal.invariant_of-self
unfolding links
invariant_of-self c = record {
  sound = gone_sound c.args.self.now.sound c.args.link c.requires c.let_go.ensures.rows c.let_go.ensures.rooms c.forget.ensures;
}

pub returns : goal.returns
unfolding links
returns c = went c.args.self.now.sound c.args.link c.let_go.ensures.rows c.let_go.ensures.rooms c.forget.ensures
