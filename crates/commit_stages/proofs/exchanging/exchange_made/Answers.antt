use Rattle.std.proofs.Common.{Option, subst}
use Rattle.std.proofs.lemmas.Result.{on_ok_weaker}
use Rattle.field_settling.specs.Held.{held_as}
use Rattle.field_settling.specs.declared.held.Held.{Held}
use Rattle.commit_stages.specs.Turns.{IsMadeOf}
use Rattle.commit_stages.proofs.TurnsEnd.{left_turned, made_turned}
use Rattle.commit_stages.proofs.Turning.{ahead_itself}
use Rattle.commit_stages.proofs.exchanging.exchange_made.Goals as goal

pub returns-in-Some-clause-ok : goal.returns-in-Some-clause-ok
returns-in-Some-clause-ok c =
    on_ok_weaker c.exchange_field.result
    (λ now change is. made_turned change c.args.seat (held_as c.in-Some.held) c.args.store.now c.exchange_field.new.self c.exchange_field.ensures.ahead now
    (subst (λ (made : Option Held). IsMadeOf change c.args.seat c.args.store.now made) c.in-Some.is is)) c.exchange_field.ensures.ok

pub returns-in-None-clause-ok : goal.returns-in-None-clause-ok
returns-in-None-clause-ok c = λ change is.
    left_turned change c.args.seat c.args.store.now c.requires.ordered (subst (λ (made : Option Held). IsMadeOf change c.args.seat c.args.store.now made) c.in-None.is is)

pub returns-in-None-clause-ahead : goal.returns-in-None-clause-ahead
returns-in-None-clause-ahead c = ahead_itself c.args.store.now
