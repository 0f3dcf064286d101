use Rattle.std.proofs.lemmas.Result.{on_ok_weaker}
use Rattle.catalogue_rules.specs.State.{linkable_authorities}
use Rattle.commit_stages.proofs.TurnsEnd.{made_suits}
use Rattle.commit_stages.proofs.Turning.{ahead_itself}
use Rattle.commit_stages.specs.Dropping.{drop_ending, dropping_of}
use Rattle.commit_stages.proofs.Dropped.{turn_ordered}
use Rattle.commit_stages.proofs.dropping.drop_at.Goals as goal

pub returns-in_err-made-clause-ahead : goal.returns-in_err-made-clause-ahead
returns-in_err-made-clause-ahead g c = ahead_itself c.args.store.now

pub exchange_made-requires-clause-suits : goal.exchange_made-requires-clause-suits
exchange_made-requires-clause-suits g c =
    made_suits (drop_ending c.args.links (linkable_authorities c.args.store.now.state)) c.args.seat c.args.store.now c.in_ok-made.made c.in_ok-made.ensures.made

pub exchange_made-requires-clause-ordered : goal.exchange_made-requires-clause-ordered
exchange_made-requires-clause-ordered g c = turn_ordered (dropping_of c.args.links) c.args.links.key.now c.args.seat c.args.store.now c.requires.turn

pub returns-clause-ok : goal.returns-clause-ok
returns-clause-ok g c =
    on_ok_weaker c.exchange_made.result (λ turned. turned (drop_ending c.args.links (linkable_authorities c.args.store.now.state)) c.in_ok-made.ensures.made) c.exchange_made.ensures.ok

pub returns-clause-noted : goal.returns-clause-noted
returns-clause-noted g c = on_ok_weaker c.exchange_made.result (λ turned. c.in_ok-made.ensures.noted) c.exchange_made.ensures.ok
