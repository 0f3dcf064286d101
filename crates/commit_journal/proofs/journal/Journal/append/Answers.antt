use Rattle.std.proofs.Common.{[], ◌∷◌, ◌∙◌}
use Rattle.std.proofs.lemmas.Result.{on_ok_weaker}
use Rattle.commit_journal.specs.Log.{frames_of}
use Rattle.commit_journal.specs.Journal.{HasFrameOrNot, HasAllOrNone}
use Rattle.commit_journal.proofs.Steps.{leaves_weaker}
use Rattle.commit_journal.proofs.Appends.{one_or_none, and_one}
use Rattle.commit_journal.proofs.journal.Journal.append.Goals as goal

pub returns-clause-appended : goal.returns-clause-appended
returns-clause-appended g c =
    on_ok_weaker c.append_chain.result
    (λ has b after told told_after. has b after told told_after ∙ and_one (frames_of b) (record { gate = c.args.self.now.place; payload = c.args.payload.now })) c.append_chain.ensures.appended

pub returns-clause-crash : goal.returns-clause-crash
returns-clause-crash g c log told =
    let journal = c.args.self.now in
    let payload = c.args.payload.now in
    leaves_weaker (HasAllOrNone log journal.place (payload ∷ [])) (HasFrameOrNot log (record { gate = journal.place; payload = payload })) (g.D.Disk.seen journal.disk) (g.D.Disk.seen c.append_chain.new.self.disk)
    (one_or_none log journal.place payload) (c.append_chain.ensures.crash log told)
