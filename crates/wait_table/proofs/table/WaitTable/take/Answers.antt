use Rattle.std.proofs.Common.{◌∙◌, sym, ap, None}
use Rattle.numbering.specs.Seats.{seat_Decides}
use Rattle.postings.specs.Slots.{row_at}
use Rattle.wait_table.specs.declared.waiting.WaitRow.{WaitRow}
use Rattle.wait_table.specs.Waits.{with_row_back}
use Rattle.wait_table.specs.Table.{waits}
use Rattle.wait_table.proofs.Steps.{took, taken_now, back_taken, seen_as}
use Rattle.postings.proofs.Rows.{put_here, put_same}
use Rattle.wait_table.proofs.table.WaitTable.take.Goals as goal

abbrev row : goal.In-Some → WaitRow
row c = record { seat = c.args.seat; waiting = c.in-Some.waiting }

pub returns-in_default-clause-none : goal.returns-in_default-clause-none
unfolding waits
returns-in_default-clause-none c =
    seen_as _ _
    (λ seat. c.take.ensures.rows seat ∙ put_same seat_Decides c.args.seat None (row_at c.args.self.now.slots) (sym c.take.ensures.row ∙ c.in_default.is) seat)
    c.take.ensures.rooms

pub returns-clause-some : goal.returns-clause-some
unfolding waits
returns-clause-some c = took c.args.self.now.sound (row c) (sym c.take.ensures.row ∙ c.in-Some.is) c.take.ensures.rows c.take.ensures.rooms

pub returns-clause-taken : goal.returns-clause-taken
unfolding waits
returns-clause-taken c =
    taken_now (row c) (waits c.args.self.now) _
    (took c.args.self.now.sound (row c) (sym c.take.ensures.row ∙ c.in-Some.is) c.take.ensures.rows c.take.ensures.rooms)

pub returns-clause-free : goal.returns-clause-free
unfolding waits
returns-clause-free c = c.take.ensures.rows c.args.seat ∙ put_here seat_Decides c.args.seat None (row_at c.args.self.now.slots)

pub returns-clause-undone : goal.returns-clause-undone
unfolding waits
returns-clause-undone c =
    ap (with_row_back (row c)) (took c.args.self.now.sound (row c) (sym c.take.ensures.row ∙ c.in-Some.is) c.take.ensures.rows c.take.ensures.rooms)
    ∙ back_taken (row c) (waits c.args.self.now) (sym c.take.ensures.row ∙ c.in-Some.is)
