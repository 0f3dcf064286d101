use Rattle.wait_table.proofs.Steps.{gone_sound}
use Rattle.wait_table.specs.Table.{waits}
use Rattle.wait_table.proofs.table.WaitTable.let_go.Goals as goal

pub invariant_of-self : goal.invariant_of-self
unfolding waits
invariant_of-self c = record {
  sound =
      gone_sound c.args.self.now.sound c.args.row c.requires c.let_go.ensures.rows c.let_go.ensures.rooms c.forget_forms.ensures
      (rw c.as_slice.ensures at c.forget_all.ensures);
}
