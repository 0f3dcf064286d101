use Rattle.std.proofs.Common.{◌≡◌, ◌+◌, ◌++◌, All, IsSome, map, vec_len, vec_capacity}
use Rattle.std.specs.Vec.Iter.{into_iter_items, into_iter_len}
use Rattle.loader_workers.specs.SideBySide.{HasTask}
use Rattle.loader_workers.specs.Tasks.{tasks_in, results_of}
use Rattle.loader_workers.proofs.dealing.take_apart.Given as goal

abbrev pub invariant-loop-place : goal.invariant-loop-place
invariant-loop-place g l = (map (λ t. t.file) (tasks_in l.fn.places.items) ≡ l.files.items ++ map (λ t. t.file) (tasks_in (into_iter_items l.places)))
    × (l.fn.passes.items ++ map (λ t. t.pass) (tasks_in l.fn.places.items) ≡ l.passes.items ++ map (λ t. t.pass) (tasks_in (into_iter_items l.places)))
    × (results_of (tasks_in l.fn.places.items) ≡ l.results.items ++ results_of (tasks_in (into_iter_items l.places)))
    × All (HasTask (λ t. IsSome t.result)) (into_iter_items l.places)
    × (vec_len l.files + into_iter_len l.places ≡ vec_len l.fn.places) × (vec_len l.passes + into_iter_len l.places ≡ vec_len l.fn.passes + vec_len l.fn.places)
    × (vec_len l.results + into_iter_len l.places ≡ vec_len l.fn.places)
    × (vec_capacity l.files ≡ vec_capacity l.fn.files) × (vec_capacity l.passes ≡ vec_capacity l.fn.passes)
    × (vec_capacity l.results ≡ vec_capacity l.fn.results)

abbrev pub decreases-loop-place : goal.decreases-loop-place
decreases-loop-place g l = into_iter_len l.places
