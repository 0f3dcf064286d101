use Rattle.iso2709_record.specs.First.{AllGood}
use Rattle.iso2709_record.specs.Faults.{is_good_entry}
use Rattle.iso2709_record.proofs.checking.first_bad_entry.Given as goal

abbrev pub invariant-loop-entry : goal.invariant-loop-entry
invariant-loop-entry l = AllGood (is_good_entry l.bytes) l.entry
