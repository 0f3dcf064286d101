use Rattle.std.proofs.Common.{rules, ◌≡◌, ◌≢◌, ◌∙◌, ◌≤◌, ◌++◌, [], length, take, drop, vec_len, ap, refl, arith}
use Rattle.std.proofs.lemmas.List.{length-map}
use Rattle.entry_record.specs.History.{in_run, with_run}
use Rattle.entry_history.proofs.Batches.{payload_filled, run_laid}
use Rattle.entry_history.proofs.Runs.{written_whole}
use Rattle.entry_history.proofs.batch.Batch.set_run.Goals as goal

pub write_run-requires : goal.write_run-requires
write_run-requires c =
    let items = c.self.inside.items.items in
    let some : items ≢ [] = search rules in
    let long : 14 ≤ length c.self.inside.payload.items = payload_filled items c.self.inside.payload.items c.self.inside.payload.items c.self.invariant refl some in
    omega arith

pub invariant_of-self : goal.invariant_of-self
invariant_of-self c =
    let items = c.self.inside.items.items in
    let some : items ≢ [] = search rules in
    let runs : c.set_runs.new.items ≡ with_run c.args.run items = rw (← c.as_mut_slice.ensures.value) c.set_runs.ensures in
    let count : vec_len c.self.inside.items ≡ length items = search rules in
    let whole : take (vec_len c.self.inside.items) (c.set_runs.new.items ++ drop (length c.set_runs.new.items) items) ≡ c.set_runs.new.items =
    written_whole (vec_len c.self.inside.items) c.set_runs.new.items items count (ap length runs ∙ length-map items (in_run c.args.run)) in
    rw (whole, runs, c.write_run.ensures) (run_laid c.args.run items c.self.inside.payload.items some c.self.invariant)
