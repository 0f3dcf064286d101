use Rattle.std.proofs.lemmas.Result.{err_from_is_err_and}
use Rattle.outside.proofs.Disks.{unchanged_only}
use Rattle.commit_journal.specs.Versions.{number_of}
use Rattle.commit_journal.proofs.Beginnings.{header_still}
use Rattle.commit_journal.proofs.Faults.{open_cause}
use Rattle.commit_journal.proofs.Steps.{continues, syncs_now, no_sync_yet, opens_read, synced_once, unchanged_continues}
use Rattle.commit_journal.proofs.begun.begin_on.Goals as goal

pub returns-in_err-version-clause-opens : goal.returns-in_err-version-clause-opens
returns-in_err-version-clause-opens g c =
    let law = g.met.D.Disk in
    let old = c.args.disk.now in
    let synced = c.in_ok-sync.ensures in
    let seen = g.D.Disk.seen in
    let before = seen old in
    let mid = seen c.sync.new.self in
    opens_read before mid (seen c.read_version.new.disk) (no_sync_yet before (law.synced_after old) (law.synced_by_now old)) (law.only_now c.sync.new.self)
    (law.undated_syncs c.read_version.new.disk) (continues before mid synced.time (syncs_now before mid (λ t. law.undated_syncs old t) synced.synced)) synced.synced synced.content synced.durable
    c.read_version.ensures.read.unchanged

pub returns-clause-opens : goal.returns-clause-opens
returns-clause-opens g c =
    let law = g.met.D.Disk in
    let old = c.args.disk.now in
    let synced = c.in_ok-sync.ensures in
    let seen = g.D.Disk.seen in
    let before = seen old in
    let mid = seen c.sync.new.self in
    opens_read before mid (seen c.read_version.new.disk) (no_sync_yet before (law.synced_after old) (law.synced_by_now old)) (law.only_now c.sync.new.self)
    (law.undated_syncs c.read_version.new.disk) (continues before mid synced.time (syncs_now before mid (λ t. law.undated_syncs old t) synced.synced)) synced.synced synced.content synced.durable
    c.read_version.ensures.read.unchanged

pub returns-in_err-version-clause-fault : goal.returns-in_err-version-clause-fault
returns-in_err-version-clause-fault g c =
    let exit = err_from_is_err_and c.from_residual-in_err-version.result c.from_residual-in_err-version.ensures.1 in
    let seen = g.D.Disk.seen in
    let synced = c.in_ok-sync.ensures in
    let read = c.in_err-version.ensures in
    rw (exit.1, exit.2) (open_cause _ _ _ c.in_err-version.field-0.0 synced.content synced.len synced.crash synced.durable synced.cause.later
    (synced_once (seen c.args.disk.now) (seen c.sync.new.self) (seen c.read_version.new.disk) synced.synced (unchanged_continues _ _ read.read.unchanged) synced.time.later) read.read read.wrong)

pub returns-clause-synced : goal.returns-clause-synced
returns-clause-synced g c =
    let seen = g.D.Disk.seen in
    let synced = c.in_ok-sync.ensures in
    synced_once (seen c.args.disk.now) (seen c.sync.new.self) (seen c.read_version.new.disk) synced.synced (unchanged_continues _ _ c.read_version.ensures.read.unchanged) synced.time.later

pub returns-clause-only : goal.returns-clause-only
returns-clause-only g c = unchanged_only (g.D.Disk.seen c.sync.new.self) (g.D.Disk.seen c.read_version.new.disk) c.read_version.ensures.read.unchanged c.in_ok-sync.ensures.durable

pub returns-clause-header : goal.returns-clause-header
returns-clause-header g c =
    header_still (number_of c.in_ok-version.version) (g.D.Disk.seen c.sync.new.self) (g.D.Disk.seen c.read_version.new.disk) c.read_version.ensures.read.unchanged c.in_ok-version.ensures.header
