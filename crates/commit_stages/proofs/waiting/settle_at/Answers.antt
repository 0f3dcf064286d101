use Rattle.std.proofs.lemmas.Result.{on_ok_weaker}
use Rattle.catalogue_rules.specs.State.{linkable_authorities}
use Rattle.catalogue_rules.specs.Settle.{settle_field}
use Rattle.commit_stages.proofs.TurnsEnd.{made_suits}
use Rattle.commit_stages.proofs.Turning.{ahead_itself}
use Rattle.commit_stages.proofs.SettledFields.{ordered}
use Rattle.commit_stages.proofs.waiting.settle_at.Goals as goal

pub returns-in_err-made-clause-ahead : goal.returns-in_err-made-clause-ahead
returns-in_err-made-clause-ahead g c = ahead_itself c.args.store.now

pub exchange_made-requires-clause-suits : goal.exchange_made-requires-clause-suits
exchange_made-requires-clause-suits g c =
    made_suits (settle_field (linkable_authorities c.args.store.now.state)) c.args.seat c.args.store.now c.in_ok-made.made c.in_ok-made.ensures.made

pub exchange_made-requires-clause-ordered : goal.exchange_made-requires-clause-ordered
exchange_made-requires-clause-ordered g c = ordered c.args.store.now.state c.requires.middle

pub returns-clause-ok : goal.returns-clause-ok
returns-clause-ok g c =
    on_ok_weaker c.exchange_made.result (λ turned. turned (settle_field (linkable_authorities c.args.store.now.state)) c.in_ok-made.ensures.made) c.exchange_made.ensures.ok

pub returns-clause-noted : goal.returns-clause-noted
returns-clause-noted g c = on_ok_weaker c.exchange_made.result (λ turned. c.in_ok-made.ensures.noted) c.exchange_made.ensures.ok
