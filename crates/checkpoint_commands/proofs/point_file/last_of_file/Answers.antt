use Rattle.std.proofs.Common.{◌∙◌, ap}
use Rattle.outside.specs.Room.{bytes_or_none}
use Rattle.outside.proofs.Rooms.{untouched_same}
use Rattle.journal_files.proofs.Journals.{unopened_keeps}
use Rattle.checkpoint_commands.proofs.Files.{read_bytes, read_keeps, read_last_point, read_refused, refused_unopened}
use Rattle.checkpoint_commands.proofs.point_file.last_of_file.Goals as goal

-- the log was not opened
pub returns-in_default-clause-bytes : goal.returns-in_default-clause-bytes
returns-in_default-clause-bytes g c tells = ap bytes_or_none (untouched_same _ _ c.args.name.now c.in_default.ensures.failed).file

pub returns-in_default-clause-keeps : goal.returns-in_default-clause-keeps
returns-in_default-clause-keeps g c tells = unopened_keeps _ _ _ c.args.name.now c.in_default.ensures.failed

pub returns-in_default-clause-refused : goal.returns-in_default-clause-refused
returns-in_default-clause-refused g c = refused_unopened _ _ c.args.name.now c.in_default.ensures.cause.failed

-- it was read, and is closed again
pub returns-clause-bytes : goal.returns-clause-bytes
returns-clause-bytes g c tells =
    let disk = g.R.Log.Disk.seen in
    let room = g.R.Room.seen in
    let open_tells = c.in-Ok.ensures.apart.tells ∙ tells in
    let closing = c.close_log.ensures in
    read_bytes _ (room c.args.room.now) (room c.close_log.new.self) c.args.name.now (disk c.in-Ok.log) (disk c.read_last-log.result.0) (c.in-Ok.ensures.bytes tells)
    c.in-Ok.ensures.beginning (record { file = closing.bytes open_tells; is_log = closing.log open_tells; same = closing.moments open_tells }) c.read_last-log.ensures.read

pub returns-clause-keeps : goal.returns-clause-keeps
returns-clause-keeps g c tells =
    let law = g.met.R.Log.Disk g.world.𝓛 g.world.𝓜 g.world.𝓡 ((λ s x. x), (λ x. x), (λ x. x), λ x. x) in
    let disk = g.R.Log.Disk.seen in
    let room = g.R.Room.seen in
    let open_tells = c.in-Ok.ensures.apart.tells ∙ tells in
    let closing = c.close_log.ensures in
    let log = c.read_last-log.result.0 in
    read_keeps _ (room c.args.room.now) (room c.close_log.new.self) c.args.name.now (disk c.in-Ok.log) (disk log) (c.in-Ok.ensures.bytes tells)
    c.in-Ok.ensures.beginning (record { file = closing.bytes open_tells; is_log = closing.log open_tells; same = closing.moments open_tells }) c.read_last-log.ensures.read
    (record { after = law.synced_after log; by_now = law.synced_by_now log; undated = law.undated_content log })

pub returns-clause-last : goal.returns-clause-last
returns-clause-last g c =
    let room = g.R.Room.seen in
    read_last_point (room c.args.room.now) c.args.name.now (g.R.Log.Disk.seen c.in-Ok.log) c.in-Ok.ensures.bytes c.read_last-log.result.1 c.read_last-log.ensures.last

pub returns-clause-refused : goal.returns-clause-refused
returns-clause-refused g c =
    let law = g.met.R.Log.Disk g.world.𝓛 g.world.𝓜 g.world.𝓡 ((λ s x. x), (λ x. x), (λ x. x), λ x. x) in
    let disk = g.R.Log.Disk.seen in
    let room = g.R.Room.seen in
    let closing = c.close_log.ensures in
    let log = c.read_last-log.result.0 in
    read_refused (room c.args.room.now) (room c.open_log.new.self) (room c.close_log.new.self) c.args.name.now (disk c.in-Ok.log) (disk log)
    c.in-Ok.ensures.bytes c.in-Ok.ensures.beginning
    (λ tells.
    let open_tells = c.in-Ok.ensures.apart.tells ∙ tells in
    record { file = closing.bytes open_tells; is_log = closing.log open_tells; same = closing.moments open_tells })
    (record { after = law.synced_after log; by_now = law.synced_by_now log; undated = law.undated_content log })
    c.in-Ok.ensures.fresh c.in-Ok.ensures.cause.later closing.counted c.read_last-log.result.1 c.read_last-log.ensures.read c.read_last-log.ensures.untaken c.read_last-log.ensures.cause
