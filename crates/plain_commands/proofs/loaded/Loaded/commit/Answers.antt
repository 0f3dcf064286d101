use Rattle.plain_commands.proofs.Summed.{room_to_add, committed_more}
use Rattle.plain_commands.proofs.loaded.Loaded.commit.Goals as goal

pub add-requires : goal.add-requires
add-requires g c =
    room_to_add c.self.inside.core c.self.inside.sums c.args.item c.in_ok-receipt.receipt c.self.invariant c.in_ok-receipt.ensures.room
    c.in_ok-receipt.ensures.receipt

pub invariant_of-self-2 : goal.invariant_of-self-2
invariant_of-self-2 g c =
    committed_more c.self.inside.core _ c.self.inside.sums _ c.args.item c.in_ok-receipt.receipt c.self.invariant c.in_ok-receipt.ensures.room
    c.in_ok-receipt.ensures.receipt c.in_ok-receipt.ensures.history c.add.ensures.sums c.add.ensures.few
