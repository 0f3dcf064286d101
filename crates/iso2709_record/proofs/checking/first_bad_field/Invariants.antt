use Rattle.std.proofs.Common.{◌≡◌, ◌*◌, ◌≤◌}
use Rattle.iso2709_record.specs.First.{AllGood}
use Rattle.iso2709_record.specs.Layout.{lengths_of}
use Rattle.iso2709_record.specs.Faults.{is_good_field}
use Rattle.iso2709_record.proofs.checking.first_bad_field.Given as goal

abbrev pub invariant-loop-entry : goal.invariant-loop-entry
invariant-loop-entry l = AllGood (is_good_field l.bytes) l.entry × (l.lengths ≡ lengths_of l.bytes l.entry) × (l.lengths ≤ 9999 * l.entry)
