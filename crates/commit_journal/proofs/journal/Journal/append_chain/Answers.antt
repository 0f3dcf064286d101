use Rattle.std.proofs.Common.{[], ◌∷◌, ◌++◌, sym, subst, arith}
use Rattle.commit_journal.specs.Journal.{chain_text, IsDurableLog, HasAllOrNone}
use Rattle.commit_journal.specs.Versions.{number_of}
use Rattle.commit_journal.proofs.Steps.{continues_then, leaves_kept}
use Rattle.commit_journal.proofs.Appends.{chain_leads, append_begun, append_kept, append_done, append_settled, has_none}
use Rattle.commit_journal.proofs.journal.Journal.append_chain.Goals as goal

pub returns-in_err-gate-clause-crash : goal.returns-in_err-gate-clause-crash
returns-in_err-gate-clause-crash g c log told =
    let journal = c.args.self.now in
    let front = c.args.front.now in
    let last = c.args.last.now in
    let payloads = front ++ last ∷ [] in
    let old = g.D.Disk.seen journal.disk in
    let mid = g.D.Disk.seen c.write_chain.new.disk in
    let settled = subst (λ v. IsDurableLog journal.place (number_of v) old) c.requires.newest (journal.settled c.requires.whole) in
    leaves_kept (HasAllOrNone log journal.place payloads) old mid log (g.met.D.Disk.only_now journal.disk) settled.only told (has_none log journal.place payloads)
    (append_begun journal.place old mid (chain_text front last) payloads settled (chain_leads journal.place front last c.requires.fit c.requires.last) log told c.write_chain.ensures.crash)

pub returns-in_err-write_synced-clause-crash : goal.returns-in_err-write_synced-clause-crash
returns-in_err-write_synced-clause-crash g c log told =
    let journal = c.args.self.now in
    let front = c.args.front.now in
    let last = c.args.last.now in
    let payloads = front ++ last ∷ [] in
    let old = g.D.Disk.seen journal.disk in
    let mid = g.D.Disk.seen c.write_chain.new.disk in
    let new = g.D.Disk.seen c.write_synced.new.disk in
    let settled = subst (λ v. IsDurableLog journal.place (number_of v) old) c.requires.newest (journal.settled c.requires.whole) in
    let written = c.in_ok-gate.ensures in
    leaves_kept (HasAllOrNone log journal.place payloads) old new log (g.met.D.Disk.only_now journal.disk) settled.only told (has_none log journal.place payloads)
    (append_kept journal.place old mid (chain_text front last) payloads settled (chain_leads journal.place front last c.requires.fit c.requires.last) new written.content log told
    c.write_chain.ensures.crash written.durable c.write_synced.ensures.crash)

pub returns-clause-crash : goal.returns-clause-crash
returns-clause-crash g c log told =
    let journal = c.args.self.now in
    let front = c.args.front.now in
    let last = c.args.last.now in
    let payloads = front ++ last ∷ [] in
    let old = g.D.Disk.seen journal.disk in
    let mid = g.D.Disk.seen c.write_chain.new.disk in
    let new = g.D.Disk.seen c.write_synced.new.disk in
    let settled = subst (λ v. IsDurableLog journal.place (number_of v) old) c.requires.newest (journal.settled c.requires.whole) in
    let written = c.in_ok-gate.ensures in
    leaves_kept (HasAllOrNone log journal.place payloads) old new log (g.met.D.Disk.only_now journal.disk) settled.only told (has_none log journal.place payloads)
    (append_kept journal.place old mid (chain_text front last) payloads settled (chain_leads journal.place front last c.requires.fit c.requires.last) new written.content log told
    c.write_chain.ensures.crash written.durable c.write_synced.ensures.crash)

pub returns-in_err-write_synced-clause-continues : goal.returns-in_err-write_synced-clause-continues
returns-in_err-write_synced-clause-continues g c =
    let seen = g.D.Disk.seen in
    continues_then (seen c.args.self.now.disk) (seen c.write_chain.new.disk) (seen c.write_synced.new.disk) c.write_chain.ensures.crash.continues c.write_synced.ensures.crash.continues

pub returns-clause-continues : goal.returns-clause-continues
returns-clause-continues g c =
    let seen = g.D.Disk.seen in
    continues_then (seen c.args.self.now.disk) (seen c.write_chain.new.disk) (seen c.write_synced.new.disk) c.write_chain.ensures.crash.continues c.write_synced.ensures.crash.continues

pub returns-clause-appended : goal.returns-clause-appended
returns-clause-appended g c b after told told_after =
    let journal = c.args.self.now in
    let front = c.args.front.now in
    let last = c.args.last.now in
    let payloads = front ++ last ∷ [] in
    let old = g.D.Disk.seen journal.disk in
    let settled = subst (λ v. IsDurableLog journal.place (number_of v) old) c.requires.newest (journal.settled c.requires.whole) in
    (append_done journal.place old (g.D.Disk.seen c.write_chain.new.disk) (chain_text front last) payloads settled (chain_leads journal.place front last c.requires.fit c.requires.last)
    (g.D.Disk.seen c.write_synced.new.disk) c.in_ok-gate.ensures.content c.in_ok-write_synced.ensures.content b after told told_after).frames

pub returns-clause-place : goal.returns-clause-place
returns-clause-place g c =
    let journal = c.args.self.now in
    let leads = chain_leads journal.place c.args.front.now c.args.last.now c.requires.fit c.requires.last in
    let gate = c.in_ok-gate.ensures.gate in
    let size = leads.size in
    omega (arith, gate, size)

pub invariant_of-self-2 : goal.invariant_of-self-2
invariant_of-self-2 g c =
    let journal = c.args.self.now in
    let front = c.args.front.now in
    let last = c.args.last.now in
    let payloads = front ++ last ∷ [] in
    let seen = g.D.Disk.seen in
    let old = seen journal.disk in
    let settled = subst (λ v. IsDurableLog journal.place (number_of v) old) c.requires.newest (journal.settled c.requires.whole) in
    let first = c.in_ok-gate.ensures in
    let second = c.in_ok-write_synced.ensures in
    let gate = first.gate in
    let now = append_settled journal.place old (seen c.write_chain.new.disk) (chain_text front last) payloads settled (chain_leads journal.place front last c.requires.fit c.requires.last)
    (seen c.write_synced.new.disk) first.content c.in_ok-gate.gate (omega (arith, gate)) second.content first.len second.len second.durable in
    record {
      room = journal.room;
      settled = λ whole. subst (λ v. IsDurableLog c.in_ok-gate.gate (number_of v) (seen c.write_synced.new.disk)) (sym c.requires.newest) now;
    }
