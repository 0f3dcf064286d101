use Rattle.std.proofs.Common.{◌-◌, ◌<◌, ◌≤◌}
use Rattle.outside.specs.Disk.{Unchanged}
use Rattle.commit_journal.specs.declared.format.TheConstants.{FIRST_GATE}
use Rattle.commit_journal.proofs.Taken.{LeadTo}
use Rattle.commit_journal.proofs.reading.take_frames.Given as goal

abbrev pub invariant-gates : goal.invariant-gates
invariant-gates g l =
    let seen = g.D.Disk.seen in
    record {
      taken : LeadTo (g.T.FrameTaker.has l.fn.taker l.taker) l.place (seen l.fn.disk);
      within : l.place < (seen l.fn.disk).len;
      least : FIRST_GATE ≤ l.place;
      unchanged : Unchanged (seen l.fn.disk) (seen l.disk);
      faults : (seen l.fn.disk).faults ≤ (seen l.disk).faults;
    }

abbrev pub decreases-gates : goal.decreases-gates
decreases-gates g l = (g.D.Disk.seen l.disk).len - l.place
