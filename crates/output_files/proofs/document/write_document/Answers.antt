use Rattle.outside.proofs.Rooms.{untouched_then}
use Rattle.output_files.proofs.Parts.{left_of_closed, left_of_given_up}
use Rattle.output_files.proofs.document.write_document.Goals as goal

pub returns-in-Err-clause-left : goal.returns-in-Err-clause-left
returns-in-Err-clause-left g c =
    left_of_given_up _ _ _ _ _ _ _ c.open_out.ensures.untouched c.open_out.ensures.failed_at c.in_ok-out.ensures.empty c.write_to.ensures.front
    c.give_up_out.ensures.untouched c.give_up_out.ensures.failed_at

pub returns-in-Err-clause-untouched : goal.returns-in-Err-clause-untouched
returns-in-Err-clause-untouched g c memory = untouched_then _ _ _ _ c.open_out.ensures.untouched c.give_up_out.ensures.untouched

pub returns-in_err-close_out-clause-left : goal.returns-in_err-close_out-clause-left
returns-in_err-close_out-clause-left g c =
    left_of_closed _ _ _ _ _ _ _ _ c.open_out.ensures.untouched c.open_out.ensures.apart.tells c.open_out.ensures.failed_at c.in_ok-out.ensures.empty
    c.in_default.ensures.written c.write_to.ensures.front c.close_out.ensures.put c.close_out.ensures.put_or_not c.close_out.ensures.failed_at

pub returns-clause-left : goal.returns-clause-left
returns-clause-left g c =
    left_of_closed _ _ _ _ _ _ _ _ c.open_out.ensures.untouched c.open_out.ensures.apart.tells c.open_out.ensures.failed_at c.in_ok-out.ensures.empty
    c.in_default.ensures.written c.write_to.ensures.front c.close_out.ensures.put c.close_out.ensures.put_or_not c.close_out.ensures.failed_at
