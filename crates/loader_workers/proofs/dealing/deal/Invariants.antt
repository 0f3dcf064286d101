use Rattle.std.proofs.Common.{◌≡◌, ◌+◌, ◌++◌, Some, map, length, vec_len, vec_capacity}
use Rattle.std.specs.Vec.Iter.{into_iter_items, into_iter_len}
use Rattle.loader_workers.specs.Tasks.{tasks_from}
use Rattle.loader_workers.proofs.dealing.deal.Given as goal

abbrev pub invariant-loop-file : goal.invariant-loop-file
invariant-loop-file g l =
    (l.places.items ++ map Some (tasks_from (vec_len l.places) (into_iter_items l.passes) (into_iter_items l.files)) ≡ map Some (tasks_from 0 l.fn.passes l.fn.files))
    × (into_iter_len l.passes ≡ into_iter_len l.files) × (vec_len l.places + into_iter_len l.files ≡ length l.fn.files)
    × (vec_capacity l.places ≡ vec_capacity l.fn.places)

abbrev pub decreases-loop-file : goal.decreases-loop-file
decreases-loop-file g l = into_iter_len l.files
