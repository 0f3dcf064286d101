use Rattle.std.proofs.Common.{◌≡◌, true, take}
use Rattle.std.specs.List.{list_all}
use Rattle.marc8_latin.specs.Progress.{is_plain}
use Rattle.marc8_latin.proofs.plain.plain_len.Given as goal

abbrev pub invariant-loop-i : goal.invariant-loop-i
invariant-loop-i l = list_all is_plain (take l.i l.bytes) ≡ true
