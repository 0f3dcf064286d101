use Rattle.wait_table.proofs.Steps.{came, back_sound}
use Rattle.wait_table.specs.Table.{waits}
use Rattle.wait_table.proofs.table.WaitTable.put_back.Goals as goal

pub invariant_of-self : goal.invariant_of-self
unfolding waits
invariant_of-self c = record {
  sound = back_sound c.args.self.now.sound c.args.row c.requires.taken c.requires.free c.put.ensures.rows c.put.ensures.rooms;
}

pub returns : goal.returns
unfolding waits
returns c = came c.args.self.now.sound c.args.row c.requires.free c.put.ensures.rows c.put.ensures.rooms
