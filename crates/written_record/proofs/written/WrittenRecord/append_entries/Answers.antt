use Rattle.std.proofs.Common.{refl, arith}
use Rattle.written_record.proofs.Parts.{entry_found}
use Rattle.written_record.proofs.Rewritten.{entries_more, lengths_more}
use Rattle.written_record.proofs.written.WrittenRecord.append_entries.Goals as goal

pub loop-entry-init : goal.loop-entry-init
loop-entry-init c = record { done = refl; left = c.requires.small }

pub field_of-requires-clause-sound : goal.field_of-requires-clause-sound
field_of-requires-clause-sound c = c.parts.ensures.holds.sound

pub loop-entry-preserved : goal.loop-entry-preserved
loop-entry-preserved c =
    let e = entry_found _ _ c.loop-entry.entry _ _ c.parts.ensures.holds (omega (arith, c.parts.ensures.count)) c.field_of.ensures.tag c.field_of.ensures.area in
    record {
      done = rw c.in_ok-extend_from_slice.ensures.items (entries_more _ _ _ _ _ _ _ _ _ e (omega arith) c.entry_block.ensures c.loop-entry.invariant.done);
      left = omega (arith, lengths_more _ _ _ _ _ e refl, c.loop-entry.invariant.left);
    }
