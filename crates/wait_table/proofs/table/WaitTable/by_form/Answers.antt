use Rattle.numbering.specs.Seats.{same_seat, seat_Decides}
use Rattle.postings.specs.Counts.{times}
use Rattle.wait_table.specs.Waits.{asks_form}
use Rattle.postings.specs.Slots.{row_at}
use Rattle.postings.proofs.Listings.{things_listed}
use Rattle.wait_table.proofs.Steps.{asked_once}
use Rattle.wait_table.specs.Table.{waits}
use Rattle.wait_table.proofs.table.WaitTable.by_form.Goals as goal

pub returns : goal.returns
unfolding waits
returns c =
    rw c.keep_asking.ensures
    (things_listed seat_Decides (asks_form c.args.form) (row_at c.args.self.now.slots) (times same_seat c.args.self.now.forms.groups c.args.form)
    (asked_once c.args.self.now.sound c.args.form) c.in_ok-seats.seats.items c.in_ok-seats.ensures)
