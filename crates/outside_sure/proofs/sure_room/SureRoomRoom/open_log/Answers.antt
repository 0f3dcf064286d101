use Rattle.std.proofs.Common.{refl, rules}
use Rattle.outside_sure.specs.declared.drawer.Opened.TheVariants as opened
use Rattle.outside_sure.proofs.SureRooms.{stays_refused}
use Rattle.outside_sure.proofs.sure_room.SureRoomRoom.open_log.Goals as goal

pub returns-in-None-clause-failed : goal.returns-in-None-clause-failed
returns-in-None-clause-failed g c =
    let changes = c.open.ensures.now in
    stays_refused c.args.self.now (record c.args.self.now { files = c.open.new.self; log_faults = c.saturating_add-self.result }) c.args.name.now opened.Log (record { size = refl; here = changes.here; others = changes.others }) c.requires c.in-None.ensures.none
    (search rules) (search rules) (search rules)
