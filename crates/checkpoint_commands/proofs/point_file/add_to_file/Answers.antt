use Rattle.std.proofs.Common.{◌≡◌, ◌∙◌, Err, ap}
use Rattle.durable_catalogue.specs.declared.fault.OpenFault.TheVariants.{DeviceFault}
use Rattle.journal_files.proofs.Journals.{unopened_keeps, keeps_where}
use Rattle.checkpoint_commands.proofs.Files.{puts_unopened, refused_unopened, puts_behind, put_behind, point_refused, read_keeps}
use Rattle.checkpoint_commands.proofs.point_file.add_to_file.Goals as goal

-- the log was not opened
pub returns-in_default-clause-puts : goal.returns-in_default-clause-puts
returns-in_default-clause-puts g c tells = puts_unopened _ _ _ c.args.name.now c.in_default.ensures.failed

pub returns-in_default-clause-refused : goal.returns-in_default-clause-refused
returns-in_default-clause-refused g c = refused_unopened _ _ c.args.name.now c.in_default.ensures.cause.failed

-- the checkpoint is there
pub returns-in-Ok-add_point-clause-puts : goal.returns-in-Ok-add_point-clause-puts
returns-in-Ok-add_point-clause-puts g c tells =
    let disk = g.R.Log.Disk.seen in
    let room = g.R.Room.seen in
    let open_tells = c.in-Ok.ensures.apart.tells ∙ tells in
    let closing = c.close_log.ensures in
    puts_behind c.args.core.now.history (room c.args.room.now) (room c.close_log.new.self) c.args.name.now (disk c.in-Ok.log) (disk c.in-Ok-add_point.log)
    (c.in-Ok.ensures.bytes tells) (record { file = closing.bytes open_tells; is_log = closing.log open_tells; same = closing.moments open_tells })
    c.in-Ok-add_point.ensures.adding c.in-Ok.ensures.beginning

pub returns-in-Ok-add_point-clause-put : goal.returns-in-Ok-add_point-clause-put
returns-in-Ok-add_point-clause-put g c tells =
    let disk = g.R.Log.Disk.seen in
    let room = g.R.Room.seen in
    let open_tells = c.in-Ok.ensures.apart.tells ∙ tells in
    let closing = c.close_log.ensures in
    put_behind c.args.core.now.history (room c.args.room.now) (room c.close_log.new.self) c.args.name.now (disk c.in-Ok.log) (disk c.in-Ok-add_point.log)
    (c.in-Ok.ensures.bytes tells) (record { file = closing.bytes open_tells; is_log = closing.log open_tells; same = closing.moments open_tells })
    c.in-Ok-add_point.ensures.adding c.in-Ok-add_point.ensures.added

-- it isn't
pub returns-in-Err-clause-puts : goal.returns-in-Err-clause-puts
returns-in-Err-clause-puts g c tells =
    let disk = g.R.Log.Disk.seen in
    let room = g.R.Room.seen in
    let open_tells = c.in-Ok.ensures.apart.tells ∙ tells in
    let closing = c.close_log-in-Err.ensures in
    puts_behind c.args.core.now.history (room c.args.room.now) (room c.close_log-in-Err.new.self) c.args.name.now (disk c.in-Ok.log) (disk c.in-Err.failed.0)
    (c.in-Ok.ensures.bytes tells) (record { file = closing.bytes open_tells; is_log = closing.log open_tells; same = closing.moments open_tells })
    c.in-Err.ensures.adding c.in-Ok.ensures.beginning

pub returns-in-Err-clause-refused : goal.returns-in-Err-clause-refused
returns-in-Err-clause-refused g c =
    let law = g.met.R.Log.Disk g.world.𝓛 g.world.𝓜 g.world.𝓡 ((λ s x. x), (λ x. x), (λ x. x), λ x. x) in
    let disk = g.R.Log.Disk.seen in
    let room = g.R.Room.seen in
    let closing = c.close_log-in-Err.ensures in
    let log = c.in-Err.failed.0 in
    point_refused (room c.args.room.now) (room c.open_log.new.self) (room c.close_log-in-Err.new.self) c.args.name.now (disk c.in-Ok.log) (disk log)
    c.in-Err.failed.1 c.in-Ok.ensures.bytes c.in-Ok.ensures.beginning
    (λ tells.
    let open_tells = c.in-Ok.ensures.apart.tells ∙ tells in
    record { file = closing.bytes open_tells; is_log = closing.log open_tells; same = closing.moments open_tells })
    (record { after = law.synced_after log; by_now = law.synced_by_now log; undated = law.undated_content log })
    c.in-Ok.ensures.fresh c.in-Ok.ensures.cause.later closing.counted c.in-Err.ensures.not_added

-- what is no log of checkpoints
pub returns-in_default-clause-alone : goal.returns-in_default-clause-alone
returns-in_default-clause-alone g c tells none = unopened_keeps _ _ _ c.args.name.now c.in_default.ensures.failed

pub returns-in-Ok-add_point-clause-alone : goal.returns-in-Ok-add_point-clause-alone
returns-in-Ok-add_point-clause-alone g c tells none =
    let was = c.in-Ok-add_point.ensures.added.was _ (c.in-Ok.ensures.bytes tells) in
    absurd (none was.0 was.1)

pub returns-in-Err-clause-alone : goal.returns-in-Err-clause-alone
returns-in-Err-clause-alone g c tells none =
    let law = g.met.R.Log.Disk g.world.𝓛 g.world.𝓜 g.world.𝓡 ((λ s x. x), (λ x. x), (λ x. x), λ x. x) in
    let disk = g.R.Log.Disk.seen in
    let room = g.R.Room.seen in
    let open_tells = c.in-Ok.ensures.apart.tells ∙ tells in
    let closing = c.close_log-in-Err.ensures in
    let log = c.in-Err.failed.0 in
    keeps_where (c.in-Err.failed.1 ≡ DeviceFault) _ _ _ c.args.name.now (λ device. ap (λ f. Err f) device)
    (read_keeps (c.in-Err.failed.1 ≡ DeviceFault) (room c.args.room.now) (room c.close_log-in-Err.new.self) c.args.name.now (disk c.in-Ok.log) (disk log)
    (c.in-Ok.ensures.bytes tells) c.in-Ok.ensures.beginning
    (record { file = closing.bytes open_tells; is_log = closing.log open_tells; same = closing.moments open_tells })
    (c.in-Err.ensures.alone _ (c.in-Ok.ensures.bytes tells) none)
    (record { after = law.synced_after log; by_now = law.synced_by_now log; undated = law.undated_content log }))
