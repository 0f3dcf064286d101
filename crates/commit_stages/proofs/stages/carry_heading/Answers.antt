use Rattle.std.proofs.Common.{◌∙◌, ap, sym}
use Rattle.std.proofs.lemmas.Result.{on_ok_weaker}
use Rattle.marc_types.specs.declared.key.Class.{Class}
use Rattle.catalogue_rules.specs.State.{linkable_authorities}
use Rattle.linked_store.specs.Placing.{own_record}
use Rattle.commit_stages.proofs.Turning.{ahead_itself}
use Rattle.commit_stages.proofs.Carried.{can_carry, carried_noted, carried_steps, nothing_carried, nothing_noted}
use Rattle.commit_stages.proofs.stages.carry_heading.Goals as goal

pub carry-requires-clause-heading : goal.carry-requires-clause-heading
carry-requires-clause-heading g c =
    can_carry c.args.item.now c.key.result.now c.args.number c.args.store.now _ c.key.ensures c.requires.admitted c.requires.key c.requires.middle c.requires.own c.in-Some.ensures

pub carry-requires-clause-own : goal.carry-requires-clause-own
carry-requires-clause-own g c = c.requires.placed ∙ ap (λ (k : Class). own_record k c.args.number) c.requires.class

pub returns-in-Some-clause-noted : goal.returns-in-Some-clause-noted
returns-in-Some-clause-noted g c =
    on_ok_weaker c.carry.result
    (carried_noted c.args.item.now c.key.result.now (linkable_authorities c.args.store.now.state) c.args.store.now c.args.noted.now c.carry.new.noted c.key.ensures c.requires.own)
    c.carry.ensures.noted

pub returns-in-Some-clause-visits : goal.returns-in-Some-clause-visits
returns-in-Some-clause-visits g c =
    carried_steps c.args.item.now c.key.result.now (linkable_authorities c.args.store.now.state) c.args.store.now.state c.args.steps.now c.carry.new.steps c.key.ensures c.requires.own c.carry.ensures.visits

pub returns-in-None-clause-ok : goal.returns-in-None-clause-ok
returns-in-None-clause-ok g c = nothing_carried c.args.item.now c.args.store.now (sym c.in-None.ensures) c.requires.middle

pub returns-in-None-clause-noted : goal.returns-in-None-clause-noted
returns-in-None-clause-noted g c = nothing_noted c.args.item.now c.args.store.now c.args.noted.now (sym c.in-None.ensures)

pub returns-in-None-clause-ahead : goal.returns-in-None-clause-ahead
returns-in-None-clause-ahead g c = ahead_itself c.args.store.now
