use Rattle.std.proofs.Common.{◌∙◌, ap}
use Rattle.std.proofs.lemmas.Result.{IfOk-weaker}
use Rattle.catalogue_rules.specs.State.{KeptField, linkable_authorities}
use Rattle.commit_stages.specs.Fields.{field_as}
use Rattle.commit_stages.specs.Standing.{stands_settled}
use Rattle.commit_stages.proofs.Finding.{heading_there, plain_stands, plain_stays}
use Rattle.commit_stages.proofs.SettledFields.{choice_made, in_order, own_costs, same_field, unlinked_there}
use Rattle.commit_stages.proofs.own.settled_own.Goals as goal

pub heading_found-requires-clause-known : goal.heading_found-requires-clause-known
heading_found-requires-clause-known g c = c.requires.to_do.known

pub settle_with_standing-requires-clause-ordered : goal.settle_with_standing-requires-clause-ordered
settle_with_standing-requires-clause-ordered g c = in_order c.args.store.now.state c.requires.middle

pub settle_with_standing-requires-clause-known : goal.settle_with_standing-requires-clause-known
settle_with_standing-requires-clause-known g c = c.requires.to_do.known

pub settle_with_standing-requires-clause-stands : goal.settle_with_standing-requires-clause-stands
settle_with_standing-requires-clause-stands g c =
    heading_there c.args.seat.class _ _ c.in-Some.found _ c.in_ok-found.ensures c.in-Some.is c.lent-at.ensures

pub settle_with_standing-requires-clause-unlinked : goal.settle_with_standing-requires-clause-unlinked
settle_with_standing-requires-clause-unlinked g c =
    unlinked_there c.args.seat c.args.store.now (field_as c.lent-at.result) c.requires.to_do
    (heading_there c.args.seat.class _ _ c.in-Some.found _ c.in_ok-found.ensures c.in-Some.is c.lent-at.ensures)

pub returns-in-Some-clause-made : goal.returns-in-Some-clause-made
returns-in-Some-clause-made g c =
    let there = heading_there c.args.seat.class _ _ c.in-Some.found _ c.in_ok-found.ensures c.in-Some.is c.lent-at.ensures in
    IfOk-weaker c.settle_with_standing.result _ _
    (λ settled. choice_made c.args.store.now c.args.seat (field_as c.lent-at.result) c.requires.middle c.requires.to_do.known there
    (unlinked_there c.args.seat c.args.store.now (field_as c.lent-at.result) c.requires.to_do there) c.is_proper.ensures settled.made)
    c.settle_with_standing.ensures.settled

pub returns-in-Some-clause-stands : goal.returns-in-Some-clause-stands
returns-in-Some-clause-stands g c =
    let there = heading_there c.args.seat.class _ _ c.in-Some.found _ c.in_ok-found.ensures c.in-Some.is c.lent-at.ensures in
    IfOk-weaker c.settle_with_standing.result _ _
    (λ settled is h there_too. is ∙ ap (λ (k : KeptField). stands_settled (linkable_authorities c.args.store.now.state) c.args.seat.class k)
    (same_field h (field_as c.lent-at.result) _ there there_too))
    c.settle_with_standing.ensures.stands

pub returns-in-Some-clause-visits : goal.returns-in-Some-clause-visits
returns-in-Some-clause-visits g c =
    let there = heading_there c.args.seat.class _ _ c.in-Some.found _ c.in_ok-found.ensures c.in-Some.is c.lent-at.ensures in
    own_costs c.args.seat c.args.store.now (linkable_authorities c.args.store.now.state) (field_as c.lent-at.result) c.args.steps.now c.settle_with_standing.new.steps
    there (unlinked_there c.args.seat c.args.store.now (field_as c.lent-at.result) c.requires.to_do there) c.settle_with_standing.ensures.visits

pub returns-in-None-clause-made : goal.returns-in-None-clause-made
returns-in-None-clause-made g c = λ h there. plain_stays c.args.seat c.args.store.now c.requires.to_do _ c.in_ok-found.ensures c.in-None.is h there

pub returns-in-None-clause-stands : goal.returns-in-None-clause-stands
returns-in-None-clause-stands g c = λ h there. plain_stands c.args.seat c.args.store.now c.requires.to_do _ c.in_ok-found.ensures c.in-None.is h there
