use Rattle.std.proofs.Common.{◌≡◌, ◌==◌, ◌++◌, filter, take}
use Rattle.entry_record.proofs.successor.append_numbers.Given as goal

abbrev pub invariant-loop-subfield : goal.invariant-loop-subfield
invariant-loop-subfield l = l.out.items ≡ l.fn.out.items ++ filter (λ s. s.code == 48) (take l.subfield-index l.subfields)
