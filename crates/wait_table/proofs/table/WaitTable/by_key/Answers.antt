use Rattle.numbering.specs.Seats.{same_seat, seat_Decides}
use Rattle.postings.specs.Counts.{times}
use Rattle.wait_table.specs.Waits.{names_key}
use Rattle.postings.specs.Slots.{row_at}
use Rattle.postings.proofs.Listings.{things_listed}
use Rattle.wait_table.proofs.Steps.{named_once}
use Rattle.wait_table.specs.Table.{waits}
use Rattle.wait_table.proofs.table.WaitTable.by_key.Goals as goal

pub returns : goal.returns
unfolding waits
returns c =
    rw c.keep_naming.ensures
    (things_listed seat_Decides (names_key c.args.key) (row_at c.args.self.now.slots) (times same_seat c.args.self.now.keys.groups c.args.key)
    (named_once c.args.self.now.sound c.args.key) c.in_ok-seats.seats.items c.in_ok-seats.ensures)
