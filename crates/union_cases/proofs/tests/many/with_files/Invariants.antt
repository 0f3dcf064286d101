use Rattle.std.proofs.Common.{◌≡◌, ℕ, List, None}
use Rattle.outside_sure.specs.SureRoom.{sure_room_view}
use Rattle.union_cases.proofs.tests.many.with_files.Given as goal

abbrev pub invariant-loop-index : goal.invariant-loop-index
invariant-loop-index l = (n : List ℕ) → (sure_room_view l.room).open_as n ≡ None
