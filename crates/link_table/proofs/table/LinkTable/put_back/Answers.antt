use Rattle.link_table.proofs.Steps.{came, back_sound}
use Rattle.link_table.specs.Table.{links}
use Rattle.link_table.proofs.table.LinkTable.put_back.Goals as goal

pub invariant_of-self : goal.invariant_of-self
unfolding links
invariant_of-self c = record {
  sound = back_sound c.args.self.now.sound c.args.link c.requires.taken c.requires.free c.put.ensures.rows c.put.ensures.rooms;
}

pub returns : goal.returns
unfolding links
returns c = came c.args.self.now.sound c.args.link c.requires.free c.put.ensures.rows c.put.ensures.rooms
