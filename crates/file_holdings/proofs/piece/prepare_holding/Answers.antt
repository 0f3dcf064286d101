use Rattle.std.proofs.Common.{sym, subst}
use Rattle.std.proofs.lemmas.Result.{IfErr-weaker}
use Rattle.file_holdings.specs.Making.{IsNotMade}
use Rattle.file_holdings.proofs.Made.{not_taken, not_read, made_if}
use Rattle.file_holdings.proofs.piece.prepare_holding.Goals as goal

pub returns-in-Ok-clause-made : goal.returns-in-Ok-clause-made
returns-in-Ok-clause-made c =
    made_if c.args.code.now c.args.bytes.now c.in-Ok.rec c.admit_holding.result c.in-Ok.ensures.read c.admit_holding.ensures.taken c.admit_holding.ensures.holding

pub returns-in-Ok-clause-refused : goal.returns-in-Ok-clause-refused
returns-in-Ok-clause-refused c =
    IfErr-weaker c.admit_holding.result _ (IsNotMade c.args.code.now c.args.bytes.now)
    (λ fault. not_taken c.args.code.now c.args.bytes.now c.in-Ok.rec fault c.in-Ok.ensures.read) c.admit_holding.ensures.refused

pub returns-in-Err-clause-refused : goal.returns-in-Err-clause-refused
returns-in-Err-clause-refused c =
    subst (IsNotMade c.args.code.now c.args.bytes.now) (sym c.from.ensures)
    (not_read c.args.code.now c.args.bytes.now c.in-Err.fault c.in-Err.ensures.refused)
