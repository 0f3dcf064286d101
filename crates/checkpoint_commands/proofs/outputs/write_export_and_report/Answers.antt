use Rattle.checkpoint_commands.proofs.Written.{both_stopped}
use Rattle.checkpoint_commands.proofs.outputs.write_export_and_report.Goals as goal

pub returns-in-Err-clause-unwritten : goal.returns-in-Err-clause-unwritten
returns-in-Err-clause-unwritten g c =
    both_stopped c.args.engine.now.state c.args.out.now c.args.report.now c.in-Ok-of_state.export c.in-Ok.made.items _ _ c.in-Err.which c.in-Ok-of_state.ensures
    c.in-Ok.ensures c.in-Err.ensures.stopped
