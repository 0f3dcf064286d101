use Rattle.heading_rows.proofs.Former.{found_new}
use Rattle.heading_rows.proofs.listing.add_row.Goals as goal

pub returns-in_ok-insert-in-Some-clause-new : goal.returns-in_ok-insert-in-Some-clause-new
returns-in_ok-insert-in-Some-clause-new c =
    found_new c.args.row.now c.in-Some.row c.in_ok-twin-in-Some.twin c.args.rows.now.keys c.in_ok-insert-in-Some.field-0 c.in-Some.is
    c.in_ok-twin-in-Some.ensures c.in_ok-insert-in-Some.ensures.added
