use Rattle.entry_record.proofs.Growing.{IsRoomTo}
use Rattle.entry_record.proofs.admission.has_no_room.Given as goal

abbrev pub invariant-loop-place : goal.invariant-loop-place
invariant-loop-place l = IsRoomTo l.fn.class l.fields l.place l.len
