use Rattle.std.proofs.Common.{◌∙◌, sym, ap, None}
use Rattle.link_table.specs.declared.link.Link.{Link}
use Rattle.link_table.specs.Links.{with_row_back}
use Rattle.numbering.specs.Seats.{seat_Decides}
use Rattle.postings.specs.Slots.{row_at}
use Rattle.link_table.specs.Table.{links}
use Rattle.link_table.proofs.Steps.{took, taken_now, back_taken, seen_as}
use Rattle.postings.proofs.Rows.{put_here, put_same}
use Rattle.link_table.proofs.table.LinkTable.take.Goals as goal

abbrev row : goal.In-Some → Link
row c = record { number = c.in-Some.number; seat = c.args.seat }

pub returns-in_default-clause-none : goal.returns-in_default-clause-none
unfolding links
returns-in_default-clause-none c =
    seen_as _ (λ seat. c.take.ensures.rows seat ∙ put_same seat_Decides c.args.seat None (row_at c.args.self.now.slots) (sym c.take.ensures.row ∙ c.in_default.is) seat) c.take.ensures.rooms

pub returns-clause-some : goal.returns-clause-some
unfolding links
returns-clause-some c = took c.args.self.now.sound (row c) (sym c.take.ensures.row ∙ c.in-Some.is) c.take.ensures.rows c.take.ensures.rooms

pub returns-clause-taken : goal.returns-clause-taken
unfolding links
returns-clause-taken c = taken_now (row c) (links c.args.self.now) _ (took c.args.self.now.sound (row c) (sym c.take.ensures.row ∙ c.in-Some.is) c.take.ensures.rows c.take.ensures.rooms)

pub returns-clause-free : goal.returns-clause-free
unfolding links
returns-clause-free c = c.take.ensures.rows c.args.seat ∙ put_here seat_Decides c.args.seat None (row_at c.args.self.now.slots)

pub returns-clause-undone : goal.returns-clause-undone
unfolding links
returns-clause-undone c =
    ap (with_row_back (row c)) (took c.args.self.now.sound (row c) (sym c.take.ensures.row ∙ c.in-Some.is) c.take.ensures.rows c.take.ensures.rooms)
    ∙ back_taken (row c) (links c.args.self.now) (sym c.take.ensures.row ∙ c.in-Some.is)
