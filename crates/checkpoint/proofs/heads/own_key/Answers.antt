use Rattle.std.proofs.Common.{◌≡◌, ◌∙◌, ap, subst}
use Rattle.entry_record.specs.Identity.{control_number_of}
use Rattle.std.specs.Prelude.{IfOk, IfErr}
use Rattle.checkpoint.specs.Reading.{IsNoKey}
use Rattle.checkpoint.proofs.heads.own_key.Goals as goal

pub returns-clause-key : goal.returns-clause-key
returns-clause-key c =
    subst (λ n. IfOk c.proper_key.result (λ key. key ≡ record { code = c.args.code.now; number = n })) (c.as_bytes.ensures ∙ c.in_ok-number.ensures ∙ ap control_number_of c.as_slice.ensures)
    c.proper_key.ensures.key

pub returns-clause-bad : goal.returns-clause-bad
returns-clause-bad c =
    subst (λ n. IfErr c.proper_key.result (IsNoKey c.args.code.now n)) (c.as_bytes.ensures ∙ c.in_ok-number.ensures ∙ ap control_number_of c.as_slice.ensures) c.proper_key.ensures.bad
