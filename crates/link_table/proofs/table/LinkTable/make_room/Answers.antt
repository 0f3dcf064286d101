use Rattle.numbering.specs.Seats.{seat_Decides}
use Rattle.postings.proofs.Rows.{room_more}
use Rattle.link_table.proofs.table.LinkTable.make_room.Goals as goal

pub let_go-requires : goal.let_go-requires
let_go-requires c =
    room_more seat_Decides _ _ _ _ c.args.link.now.seat (c.args.self.now.sound.roomy c.args.link.now.seat) (c.make_room.ensures.rows c.args.link.now.seat)
    (c.in_ok-make_room.ensures.ok c.args.link.now.seat)
