use Rattle.std.proofs.Common.{arith}
use Rattle.migrate_command.proofs.Gaining.{settled_newest, bringing_first, bringing_more, bringing_all, brings_run}
use Rattle.migrate_command.proofs.appending.bring_rest.Goals as goal

pub runs-init : goal.runs-init
runs-init g c =
    let seen = g.D.Disk.seen in
    let journal = c.args.journal.now in
    let settled = journal.settled c.requires.whole in
    bringing_first c.args.payloads.now (seen journal.disk) journal.broken journal.version settled.only
    (g.met.D.Disk.only_now journal.disk) (settled_newest journal.place journal.version (seen journal.disk) settled c.requires.newest)
    c.requires.whole c.requires.newest

pub returns-in_err-append_run-clause-brings : goal.returns-in_err-append_run-clause-brings
returns-in_err-append_run-clause-brings g c =
    let seen = g.D.Disk.seen in
    let loop = c.runs in
    let end = c.run_end-end.ensures in
    let after = end.after in
    brings_run c.args.payloads.now loop.at c.run_end-end.result (seen c.args.journal.now.disk) (seen loop.journal.disk) (seen c.append_run.new.journal.disk)
    loop.journal.broken loop.journal.version loop.invariant (omega (arith, after)) end.within c.append_run.ensures.tried

pub runs-preserved : goal.runs-preserved
runs-preserved g c =
    let seen = g.D.Disk.seen in
    let loop = c.runs in
    let now = c.append_run.new.journal in
    let added = c.in_ok-append_run.ensures in
    let end = c.run_end-end.ensures in
    let after = end.after in
    bringing_more c.args.payloads.now loop.at c.run_end-end.result (seen c.args.journal.now.disk) (seen loop.journal.disk) (seen now.disk)
    loop.journal.broken now.broken loop.journal.version now.version loop.invariant (omega (arith, after)) end.within added.continues
    added.tried added.added added.cause.later added.whole added.version

pub returns-clause-brought : goal.returns-clause-brought
returns-clause-brought g c =
    let seen = g.D.Disk.seen in
    let loop = c.runs in
    let past = c.runs-test.false in
    bringing_all c.args.payloads.now loop.at (seen c.args.journal.now.disk) (seen loop.journal.disk) loop.journal.broken loop.journal.version loop.invariant
    (omega (arith, past))
