use Rattle.std.proofs.Common.{}
use Rattle.outside_sure.proofs.Kepts.{NoneBefore}
use Rattle.outside_sure.proofs.sure_files.place_of.Given as goal

abbrev pub invariant-loop-place : goal.invariant-loop-place
invariant-loop-place g l = NoneBefore l.files l.name l.place
