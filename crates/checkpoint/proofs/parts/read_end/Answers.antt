use Rattle.checkpoint.proofs.Sorts.{end_there, no_end}
use Rattle.checkpoint.proofs.parts.read_end.Goals as goal

pub returns-in-Some-clause-part : goal.returns-in-Some-clause-part
returns-in-Some-clause-part c =
    end_there c.args.bytes.now c.in-Some.entries c.in-Some.count c.in-Some.ensures.fits.0 c.in-Some.ensures.fits.1 c.in-Some.ensures.found

pub returns-in-None-clause-bad : goal.returns-in-None-clause-bad
returns-in-None-clause-bad c = no_end c.args.bytes.now c.in-None.ensures.none
