use Rattle.entry_history.proofs.Alone.{extent_of_copies, run_first, run_there}
use Rattle.entry_history.proofs.entry_payload.extent_before.Goals as goal

pub returns-in-Some : goal.returns-in-Some
returns-in-Some c e of = extent_of_copies e c.in-Some.run' (run_first e c.args.payload.now _ c.in-Some.run' of c.in-Some.ensures.found c.in-Some.ensures.fits)

pub returns-in-None : goal.returns-in-None
returns-in-None c e of = absurd (run_there e c.args.payload.now of c.in-None.ensures.none)
