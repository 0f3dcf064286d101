use Rattle.std.proofs.Common.{refl}
use Rattle.outside_sure.proofs.SureRooms.{given_up_untouched}
use Rattle.outside_sure.proofs.sure_room.SureRoomRoom.close_out.Goals as goal

pub returns-clause-untouched : goal.returns-clause-untouched
returns-clause-untouched g c some =
    given_up_untouched c.args.self.now (record c.args.self.now { files = c.close-2.new.self }) c.args.name.now _ _
    (record { size = refl; here = c.close-2.ensures.here; others = c.close-2.ensures.others })
