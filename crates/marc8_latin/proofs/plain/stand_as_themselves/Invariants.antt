use Rattle.std.proofs.Common.{◌≡◌, false, drop}
use Rattle.marc8_latin.specs.Progress.{stand_as_themselves}
use Rattle.marc8_latin.proofs.plain.stand_as_themselves.Given as goal

abbrev pub invariant-loop-byte : goal.invariant-loop-byte
invariant-loop-byte l = stand_as_themselves l.delimited (drop l.byte-index l.bytes) ≡ stand_as_themselves false l.bytes
