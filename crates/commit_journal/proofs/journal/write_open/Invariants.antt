use Rattle.std.proofs.Common.{◌≡◌, length, take}
use Rattle.commit_journal.specs.declared.format.TheConstants.{FRAME_ROOM}
use Rattle.commit_journal.proofs.Chains.{AreWritten}
use Rattle.commit_journal.proofs.journal.write_open.Given as goal

abbrev pub invariant-loop-payload : goal.invariant-loop-payload
invariant-loop-payload g l =
    record {
      room : length l.buffer ≡ FRAME_ROOM;
      written : AreWritten l.at (take l.payload-index l.payloads) l.next (g.D.Disk.seen l.fn.disk) (g.D.Disk.seen l.disk);
    }
