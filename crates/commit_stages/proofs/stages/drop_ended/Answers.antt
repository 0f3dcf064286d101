use Rattle.std.proofs.Common.{refl, true, false}
use Rattle.commit_stages.proofs.Turning.{ahead_itself}
use Rattle.commit_stages.specs.declared.brought.Ending.TheVariants.{Bases, All}
use Rattle.commit_stages.proofs.Ended.{dropped_steps, nothing_dropped, nothing_noted}
use Rattle.commit_stages.proofs.stages.drop_ended.Goals as goal

pub returns-in-Nothing-clause-ok : goal.returns-in-Nothing-clause-ok
returns-in-Nothing-clause-ok g c = nothing_dropped c.args.ending c.args.item.now c.args.store.now c.in-Nothing.is c.requires.can

pub returns-in-Nothing-clause-noted : goal.returns-in-Nothing-clause-noted
returns-in-Nothing-clause-noted g c = nothing_noted c.args.ending c.args.item.now c.args.store.now c.in-Nothing.is c.args.noted.now

pub returns-in-Nothing-clause-ahead : goal.returns-in-Nothing-clause-ahead
returns-in-Nothing-clause-ahead g c = ahead_itself c.args.store.now

pub returns-in-Bases-clause-visits : goal.returns-in-Bases-clause-visits
returns-in-Bases-clause-visits g c =
    dropped_steps c.args.ending Bases true c.args.item.now c.ended.result c.args.store.now.state c.args.steps.now c.drop_links.new.steps refl c.in-Bases.is c.ended.ensures.key c.ended.ensures.only_base
    c.ended.ensures.successor c.drop_links.ensures.visits

pub returns-in-All-clause-visits : goal.returns-in-All-clause-visits
returns-in-All-clause-visits g c =
    dropped_steps c.args.ending All false c.args.item.now c.ended-in-All.result c.args.store.now.state c.args.steps.now c.drop_links-in-All.new.steps refl c.in-All.is c.ended-in-All.ensures.key
    c.ended-in-All.ensures.only_base c.ended-in-All.ensures.successor c.drop_links-in-All.ensures.visits
