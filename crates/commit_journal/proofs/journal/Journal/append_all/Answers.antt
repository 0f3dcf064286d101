use Rattle.std.proofs.Common.{sym, subst}
use Rattle.outside.proofs.Disks.{same_disk}
use Rattle.commit_journal.specs.Journal.{IsPayload, HasAllOrNone}
use Rattle.commit_journal.proofs.Steps.{keeps_unchanged, leaves_kept}
use Rattle.commit_journal.proofs.Appends.{parted_fit, has_none}
use Rattle.commit_journal.proofs.journal.Journal.append_all.Goals as goal

pub append_chain-requires-clause-fit : goal.append_chain-requires-clause-fit
append_chain-requires-clause-fit g c = (parted_fit c.args.payloads.now c.in-Some.front.now c.in-Some.last.now c.in-Some.ensures.cases.0 c.requires.fit).0

pub append_chain-requires-clause-last : goal.append_chain-requires-clause-last
append_chain-requires-clause-last g c = subst IsPayload (sym c.as_slice.ensures) (parted_fit c.args.payloads.now c.in-Some.front.now c.in-Some.last.now c.in-Some.ensures.cases.0 c.requires.fit).1

pub returns-in-None-clause-crash : goal.returns-in-None-clause-crash
returns-in-None-clause-crash g c log told =
    let journal = c.args.self.now in
    let old = g.D.Disk.seen journal.disk in
    let settled = journal.settled c.requires.whole in
    let P = HasAllOrNone log journal.place c.args.payloads.now in
    let has = has_none log journal.place c.args.payloads.now in
    leaves_kept P old old log (g.met.D.Disk.only_now journal.disk) settled.only told has (keeps_unchanged P old old log settled.only told (same_disk old).unchanged has)
