use Rattle.std.proofs.Common.{rules}
use Rattle.commit_journal.proofs.FromBytes.{long_read}
use Rattle.commit_journal.proofs.numbers.long_number.Goals as goal

pub returns-clause-found : goal.returns-clause-found
returns-clause-found c =
    let parts = c.in_ok-number.ensures.cases in
    long_read c.args.bytes.now c.in_ok-number.number.now c.in_ok-number.rest.now c.from_be_bytes.result parts.0 parts.1 (search rules) c.type_inv.bytes c.from_be_bytes.ensures
