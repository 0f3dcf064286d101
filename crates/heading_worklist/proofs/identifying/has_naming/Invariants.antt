use Rattle.std.proofs.Common.{◌≡◌, false, take}
use Rattle.std.specs.List.{list_any}
use Rattle.heading_worklist.specs.Identifying.{names_so}
use Rattle.heading_worklist.proofs.identifying.has_naming.Given as goal

abbrev pub invariant-loop-subfield : goal.invariant-loop-subfield
invariant-loop-subfield l = list_any (names_so l.engine.state l.naming) (take l.subfield-index l.subfield-items) ≡ false
