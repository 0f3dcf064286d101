use Rattle.std.proofs.Common.{length}
use Rattle.iso2709_record.proofs.Cuts.{IsCutUpTo}
use Rattle.iso2709_record.proofs.field_data.subfields_of.Given as goal

abbrev pub invariant-loop-cut : goal.invariant-loop-cut
invariant-loop-cut l = IsCutUpTo l.text l.rest l.subfields.items

abbrev pub decreases-loop-cut : goal.decreases-loop-cut
decreases-loop-cut l = length l.rest
