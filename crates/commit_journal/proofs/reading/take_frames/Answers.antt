use Rattle.std.proofs.Common.{◌∙◌, arith}
use Rattle.std.proofs.lemmas.Result.{err_from_is_err_and}
use Rattle.outside.proofs.Disks.{same_disk}
use Rattle.commit_journal.specs.declared.fault.JournalFault.TheVariants.{NotAJournal}
use Rattle.commit_journal.proofs.Faults.{same_fault}
use Rattle.commit_journal.proofs.Heads.{lost_walk}
use Rattle.commit_journal.proofs.Taken.{at_first_gate}
use Rattle.commit_journal.proofs.reading.take_frames.Goals as goal

pub gates-init : goal.gates-init
gates-init g c =
    let seen = g.D.Disk.seen in
    record {
      taken = at_first_gate (g.T.FrameTaker.has c.args.taker.now c.args.taker.now) (seen c.args.disk.now) c.requires.none;
      within = c.requires.long;
      least = omega arith;
      unchanged = (same_disk (seen c.args.disk.now)).unchanged;
      faults = omega arith;
    }

pub returns-in_err-payload-clause-lost : goal.returns-in_err-payload-clause-lost
returns-in_err-payload-clause-lost g c =
    let exit = err_from_is_err_and c.from_residual.result c.from_residual.ensures.1 in
    let invariant = c.gates.invariant in
    let taken = invariant.taken in
    rw (exit.1, exit.2) (λ wrong is b told.
    lost_walk b taken.frames c.gates.place wrong (taken.walked b told) (c.in_err-payload.ensures.lost wrong (same_fault c.in_err-payload.field-0.0 (NotAJournal wrong) is) b (invariant.unchanged.content ∙ told)))
