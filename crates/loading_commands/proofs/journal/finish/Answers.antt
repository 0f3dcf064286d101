use Rattle.std.proofs.Common.{length, sym, ap, subst, ◌∙◌, arith}
use Rattle.outside.proofs.Rooms.{same_but_none, same_but_then}
use Rattle.durable_catalogue.specs.Views.{durable_view}
use Rattle.loading_commands.specs.Inputs.{RisesFrom}
use Rattle.loading_commands.specs.Outcomes.{HasLoaded}
use Rattle.loading_commands.proofs.Finished.{input_count, has_loaded, has_failed}
use Rattle.loading_commands.proofs.Kept.{loading_keeps}
use Rattle.loading_commands.proofs.journal.finish.Goals as goal

pub close_inputs-requires-after_bounds : goal.close_inputs-requires-after_bounds
close_inputs-requires-after_bounds g c κs within =
    let count = input_count c.args.loaded.inputs c.args.loaded.results (durable_view c.args.loaded.durable) c.requires.read in
    let same = ap length c.as_slice-libraries.ensures in
    omega (arith, count, same)

pub close_unless_whole-requires-after_bounds : goal.close_unless_whole-requires-after_bounds
close_unless_whole-requires-after_bounds g c κs within =
    c.close_inputs.ensures.stays.open_names c.args.loaded.asked.journal.now tt ∙ c.requires.waiting.is_open

pub returns-in-Ok-clause-apart : goal.returns-in-Ok-clause-apart
returns-in-Ok-clause-apart g c =
    same_but_then _ _ _ _ c.requires.waiting.apart (same_but_then _ _ _ _ (same_but_none _ _ _ c.close_inputs.ensures.stays) c.close_unless_whole.ensures.apart)

pub returns-in-Ok-clause-loaded : goal.returns-in-Ok-clause-loaded
returns-in-Ok-clause-loaded g c =
    let seen = g.R.Room.seen in
    let loaded = c.args.loaded in
    let whole = c.in-Ok.ensures.loaded in
    subst (λ d. HasLoaded (seen loaded.before.value) (seen c.close_unless_whole.new.room) loaded.asked.journal.now loaded.asked.libraries (durable_view d) c.in-Ok.results)
    (sym whole.0)
    (has_loaded loaded.inputs loaded.results (durable_view loaded.durable) c.requires.read (seen c.close_unless_whole.new.room) c.in-Ok.results c.in-Ok.ensures.opened
    whole.1)

pub returns-clause-apart : goal.returns-clause-apart
returns-clause-apart g c =
    same_but_then _ _ _ _ c.requires.waiting.apart (same_but_then _ _ _ _ (same_but_none _ _ _ c.close_inputs.ensures.stays) c.close_unless_whole.ensures.apart)

pub returns-clause-failed : goal.returns-clause-failed
returns-clause-failed g c =
    let seen = g.R.Room.seen in
    let loaded = c.args.loaded in
    let inputs = c.close_inputs.ensures in
    let rises = subst (λ libraries. RisesFrom g.R.In.Source.faults 0 libraries loaded.inputs (seen c.args.room.now) (seen c.close_inputs.new.room)) c.as_slice-libraries.ensures
    inputs.rose in
    has_failed loaded.inputs loaded.results (durable_view loaded.durable) c.requires.read (seen c.args.room.now) (seen c.close_inputs.new.room)
    (seen c.close_unless_whole.new.room) c.in-Err.fault c.requires.waiting inputs.stays inputs.lefts rises c.close_unless_whole.ensures.apart
    c.close_unless_whole.ensures.lefts c.in-Err.ensures.closed

pub returns-clause-missing : goal.returns-clause-missing
returns-clause-missing g c tells missing =
    loading_keeps _ _ _ _ _ tells ((returns-clause-failed g c).because tells) missing
