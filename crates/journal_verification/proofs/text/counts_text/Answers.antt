use Rattle.std.proofs.Common.{append_assoc}
use Rattle.journal_verification.specs.Verifying.{counts_line}
use Rattle.journal_verification.proofs.text.counts_text.Goals as goal

pub returns : goal.returns
unfolding counts_line
returns c = simp append_assoc c.in_ok-format.ensures.ok
