use Rattle.entry_history.proofs.ReadEntries.{refused_is_none}
use Rattle.entry_history.proofs.entry.prepare_written.Goals as goal

pub returns-in-Err-Refused-clause-bad : goal.returns-in-Err-Refused-clause-bad
returns-in-Err-Refused-clause-bad c = λ e h of_library its is.
    refused_is_none c.args.library.now c.args.written.now c.in-Err-Refused.field-0-0 (rw c.in-Err-Refused.field-0-is at c.in-Err-Refused.ensures.refused) e h of_library is
