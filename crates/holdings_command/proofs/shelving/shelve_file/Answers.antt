use Rattle.std.proofs.Common.{◌∙◌}
use Rattle.std.proofs.lemmas.Result.{IfOk-weaker}
use Rattle.holdings_command.proofs.OnShelves.{there_and}
use Rattle.holdings_command.proofs.shelving.shelve_file.Goals as goal

pub returns-clause-shelved : goal.returns-clause-shelved
returns-clause-shelved g c =
    IfOk-weaker c.shelve_source-shelved.result.0 _ _
    (λ shelved is tells. there_and _ (c.in-Ok.ensures.there tells) (λ bytes at. is bytes (c.in-Ok.ensures.bytes tells ∙ at))) c.shelve_source-shelved.ensures.shelved
