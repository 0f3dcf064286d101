use Rattle.numbering.specs.Seats.{same_seat, seat_Decides}
use Rattle.postings.specs.Slots.{row_at}
use Rattle.postings.specs.Counts.{times}
use Rattle.postings.proofs.Listings.{things_listed}
use Rattle.link_table.specs.Links.{leads_to}
use Rattle.link_table.proofs.Steps.{counted_once}
use Rattle.link_table.specs.Table.{links}
use Rattle.link_table.proofs.table.LinkTable.of.Goals as goal

pub returns : goal.returns
unfolding links
returns c =
    rw c.keep_linked.ensures
    (things_listed seat_Decides (leads_to c.args.number) (row_at c.args.self.now.slots) (times same_seat c.args.self.now.names.groups c.args.number)
    (counted_once c.args.self.now.sound c.args.number) c.in_ok-seats.seats.items c.in_ok-seats.ensures)
