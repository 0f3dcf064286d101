use Rattle.std.proofs.lemmas.Result.{IfErr-weaker}
use Rattle.reading.specs.Answers.{IsNotPrepared}
use Rattle.reading.proofs.Entries.{not_taken}
use Rattle.reading.proofs.entry.prepare.Goals as goal

pub returns-in-Ok-clause-refused : goal.returns-in-Ok-clause-refused
returns-in-Ok-clause-refused c =
    IfErr-weaker c.admit.result _ (IsNotPrepared c.args.code.now c.args.bytes.now)
    (λ fault. not_taken c.args.code.now c.args.bytes.now c.in-Ok.rec fault c.in-Ok.ensures.read) c.admit.ensures.refused
