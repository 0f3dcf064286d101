use Rattle.std.proofs.Common.{◌≤◌, ◌-◌, length, take}
use Rattle.std.specs.Prelude.{string_bytes}
use Rattle.marc8_latin.specs.Progress.{IsRead}
use Rattle.marc8_latin.proofs.text.convert.Given as goal

abbrev pub invariant-loop-at : goal.invariant-loop-at
invariant-loop-at l =
    record {
      within : l.at ≤ length l.bytes;
      read : IsRead (take l.at l.bytes) l.sets (string_bytes l.writer.text) (string_bytes l.writer.run);
    }

abbrev pub decreases-loop-at : goal.decreases-loop-at
decreases-loop-at l = length l.bytes - l.at
