use Rattle.std.proofs.Common.{refl}
use Rattle.std.specs.Prelude.{IsErrOf}
use Rattle.commit_journal.specs.Versions.{number_of}
use Rattle.durable_catalogue.specs.declared.fault.OpenFault.TheVariants.{DeviceFault}
use Rattle.checkpoint_commands.proofs.Frames.{found_only, last_read, last_unread, untaken_device, unfound, unfound_only, unfound_device}
use Rattle.checkpoint_commands.proofs.Taken.{last_taken, order_taken, unread_taken}
use Rattle.checkpoint_commands.proofs.last_point.read_last.Goals as goal

pub returns-in-Ok-clause-read : goal.returns-in-Ok-clause-read
returns-in-Ok-clause-read g c =
    let seen = g.D.Disk.seen in
    let t = c.in-Ok.ensures.found in
    let version = c.in-Ok.end.version in
    found_only t.frames c.in-Ok.end.place version version (seen c.args.disk) (seen c.find_each.new.disk) t.found refl (IsErrOf c.last_known.result DeviceFault)

pub returns-in-Ok-clause-last : goal.returns-in-Ok-clause-last
returns-in-Ok-clause-last g c =
    let seen = g.D.Disk.seen in
    let t = c.in-Ok.ensures.found in
    let version = c.in-Ok.end.version in
    let last = c.last_known.ensures in
    last_read t.frames c.in-Ok.end.place version version (seen c.args.disk) (seen c.find_each.new.disk) t.found refl c.last_known.result
    (last_taken c.last_known.result t.frames c.find_each.new.taker.known t.has last.last) last.newest

pub returns-in-Ok-clause-order : goal.returns-in-Ok-clause-order
returns-in-Ok-clause-order g c =
    let t = c.in-Ok.ensures.found in
    order_taken c.last_known.result t.frames c.a_found_checkpoint_is_in_order.ensures (last_taken c.last_known.result t.frames c.find_each.new.taker.known t.has c.last_known.ensures.last)

pub returns-in-Ok-clause-untaken : goal.returns-in-Ok-clause-untaken
returns-in-Ok-clause-untaken g c =
    let seen = g.D.Disk.seen in
    let t = c.in-Ok.ensures.found in
    let version = c.in-Ok.end.version in
    last_unread t.frames c.in-Ok.end.place version version (seen c.args.disk) (seen c.find_each.new.disk) t.found refl c.last_known.result
    (unread_taken c.last_known.result (number_of version) t.frames c.find_each.new.taker.known t.has c.last_known.ensures.untaken)

pub returns-in-Ok-clause-cause : goal.returns-in-Ok-clause-cause
returns-in-Ok-clause-cause g c device =
    let t = c.in-Ok.ensures.found in
    let version = number_of c.in-Ok.end.version in
    absurd (untaken_device c.last_known.result version t.frames (unread_taken c.last_known.result version t.frames c.find_each.new.taker.known t.has c.last_known.ensures.untaken) device)

pub returns-in-Err-clause-read : goal.returns-in-Err-clause-read
returns-in-Err-clause-read g c =
    let seen = g.D.Disk.seen in
    let e = c.find_each.ensures in
    unfound_only (seen c.args.disk) (seen c.find_each.new.disk) c.in-Err.fault c.in-Err.ensures.fault _ (λ device. let is = c.open_fault.ensures in cc) e.opens e.unwritten e.later

pub returns-in-Err-clause-untaken : goal.returns-in-Err-clause-untaken
returns-in-Err-clause-untaken g c log told =
    let seen = g.D.Disk.seen in
    rw c.open_fault.ensures (unfound (seen c.args.disk) (seen c.find_each.new.disk) c.in-Err.fault c.in-Err.ensures.fault log told)

pub returns-in-Err-clause-cause : goal.returns-in-Err-clause-cause
returns-in-Err-clause-cause g c device =
    let seen = g.D.Disk.seen in
    let is = c.open_fault.ensures in
    unfound_device (seen c.args.disk) (seen c.find_each.new.disk) c.in-Err.fault c.in-Err.ensures.fault cc
