use Rattle.std.proofs.lemmas.Result.{on_ok_weaker}
use Rattle.field_settling.specs.Held.{heading_as}
use Rattle.commit_stages.proofs.TurnsEnd.{made_suits}
use Rattle.commit_stages.proofs.Turning.{ahead_itself}
use Rattle.commit_stages.specs.Carrying.{carry_heading}
use Rattle.commit_stages.proofs.CarriedField.{one_visit}
use Rattle.commit_stages.proofs.carrying.carry_at.Goals as goal

pub returns-in_err-made-clause-ahead : goal.returns-in_err-made-clause-ahead
returns-in_err-made-clause-ahead g c = ahead_itself c.args.store.now

pub returns-in_err-made-clause-visits : goal.returns-in_err-made-clause-visits
returns-in_err-made-clause-visits g c = one_visit c.args.key.now c.args.seat c.args.store.now c.args.steps.now c.carried.new.steps c.requires.to_do c.carried.ensures.step

pub exchange_made-requires-clause-suits : goal.exchange_made-requires-clause-suits
exchange_made-requires-clause-suits g c =
    made_suits (carry_heading c.args.key.now (heading_as c.args.heading)) c.args.seat c.args.store.now c.in_ok-made.made c.in_ok-made.ensures.made

pub exchange_made-requires-clause-ordered : goal.exchange_made-requires-clause-ordered
exchange_made-requires-clause-ordered g c = record { authorities = c.requires.middle.authorities_ascend; bibliographic = c.requires.middle.bibliographic_ascend }

pub returns-clause-ok : goal.returns-clause-ok
returns-clause-ok g c =
    on_ok_weaker c.exchange_made.result (λ turned. turned (carry_heading c.args.key.now (heading_as c.args.heading)) c.in_ok-made.ensures.made) c.exchange_made.ensures.ok

pub returns-clause-visits : goal.returns-clause-visits
returns-clause-visits g c = one_visit c.args.key.now c.args.seat c.args.store.now c.args.steps.now c.carried.new.steps c.requires.to_do c.carried.ensures.step

pub returns-clause-noted : goal.returns-clause-noted
returns-clause-noted g c = on_ok_weaker c.exchange_made.result (λ turned. c.in_ok-made.ensures.noted) c.exchange_made.ensures.ok
