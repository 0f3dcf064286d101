use Rattle.std.proofs.Common.{refl, rules}
use Rattle.outside_sure.specs.declared.drawer.Opened.TheVariants as opened
use Rattle.outside_sure.proofs.SureRooms.{stays_refused, begun_untouched}
use Rattle.outside_sure.proofs.sure_room.SureRoomRoom.open_out.Goals as goal

pub returns-in-None-clause-failed : goal.returns-in-None-clause-failed
returns-in-None-clause-failed g c =
    let changes = c.open.ensures.now in
    stays_refused c.args.self.now (record c.args.self.now { files = c.open.new.self; out_faults = c.saturating_add-self.result }) c.args.name.now opened.Output (record { size = refl; here = changes.here; others = changes.others }) c.requires c.in-None.ensures.none
    (search rules) (search rules) (search rules)

pub returns-in-Some-clause-untouched : goal.returns-in-Some-clause-untouched
returns-in-Some-clause-untouched g c =
    begun_untouched c.args.self.now (record c.args.self.now { files = c.open.new.self }) c.args.name.now
    (record { size = refl; here = c.open.ensures.now.here; others = c.open.ensures.now.others })

pub returns-in-None-clause-untouched : goal.returns-in-None-clause-untouched
returns-in-None-clause-untouched g c =
    begun_untouched c.args.self.now (record c.args.self.now { files = c.open.new.self; out_faults = c.saturating_add-self.result }) c.args.name.now
    (record { size = refl; here = c.open.ensures.now.here; others = c.open.ensures.now.others })
