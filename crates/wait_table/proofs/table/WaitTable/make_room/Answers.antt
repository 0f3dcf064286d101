use Rattle.numbering.specs.Seats.{seat_Decides}
use Rattle.postings.proofs.Rows.{room_more}
use Rattle.wait_table.proofs.table.WaitTable.make_room.Goals as goal

pub let_go-requires : goal.let_go-requires
let_go-requires c =
    room_more seat_Decides _ _ _ _ c.args.row.now.seat (c.args.self.now.sound.roomy c.args.row.now.seat) (c.make_room.ensures.rows c.args.row.now.seat)
    (c.in_ok-make_room.ensures.ok c.args.row.now.seat)

pub let_go-requires-in-Err-note_all : goal.let_go-requires-in-Err-note_all
let_go-requires-in-Err-note_all c =
    room_more seat_Decides _ _ _ _ c.args.row.now.seat (c.args.self.now.sound.roomy c.args.row.now.seat) (c.make_room.ensures.rows c.args.row.now.seat)
    (c.in_ok-make_room.ensures.ok c.args.row.now.seat)
