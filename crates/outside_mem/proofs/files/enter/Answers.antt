use Rattle.outside_mem.proofs.Places.{file_in_entered}
use Rattle.outside_mem.proofs.files.enter.Goals as goal

pub returns-clause-same : goal.returns-clause-same
returns-clause-same c n = rw c.in_ok-push.ensures.items (file_in_entered c.args.files.now.items c.args.name.now n c.in_ok-blank.field-0 c.in_ok-blank.ensures)
