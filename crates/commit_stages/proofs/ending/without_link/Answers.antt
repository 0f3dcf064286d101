use Rattle.std.proofs.Common.{◌∙◌, sym, subst, ◌+◌, ◌≤◌, arith}
use Rattle.catalogue_rules.specs.State.{KeptField, linkable_authorities}
use Rattle.linking_laws.specs.Visits.{link_visit}
use Rattle.commit_stages.specs.Settled.{IsChoiceSettled}
use Rattle.field_settling.specs.Held.{held_as}
use Rattle.commit_stages.specs.Fields.{field_as}
use Rattle.commit_stages.specs.Dropping.{successor_to}
use Rattle.commit_stages.proofs.DroppedField.{ended_changed, ended_visits, linked_visit, spared_stays}
use Rattle.commit_stages.proofs.ending.without_link.Goals as goal

pub returns-then-is_spared-clause-made : goal.returns-then-is_spared-clause-made
returns-then-is_spared-clause-made g c =
    spared_stays (linkable_authorities c.args.store.now.state) c.args.links.key.now (successor_to c.args.links) c.args.class (field_as c.args.at) c.args.links.only_base c.requires.linked (sym c.is_spared.ensures ∙ c.if-is_spared.true)

pub returns-then-is_spared-clause-visits : goal.returns-then-is_spared-clause-visits
returns-then-is_spared-clause-visits g c =
    let own = linked_visit (linkable_authorities c.args.store.now.state) c.args.links.key.now (successor_to c.args.links) c.args.class (field_as c.args.at) c.args.links.only_base c.requires.linked in omega arith

pub returns-in_err-ended-clause-visits : goal.returns-in_err-ended-clause-visits
returns-in_err-ended-clause-visits g c =
    let own = linked_visit (linkable_authorities c.args.store.now.state) c.args.links.key.now (successor_to c.args.links) c.args.class (field_as c.args.at) c.args.links.only_base c.requires.linked in omega arith

pub returns-in_err-chosen-clause-visits : goal.returns-in_err-chosen-clause-visits
returns-in_err-chosen-clause-visits g c =
    ended_visits (linkable_authorities c.args.store.now.state) c.args.links.key.now (successor_to c.args.links) c.args.class (field_as c.args.at) c.args.links.only_base c.requires.linked c.args.steps.now c.with_choice.new.steps (sym c.is_spared.ensures ∙ c.if-is_spared.false)
    (subst (λ (h : KeptField). c.with_choice.new.steps ≤ c.args.steps.now + link_visit (linkable_authorities c.args.store.now.state) c.args.class h) c.in_ok-ended.ensures c.with_choice.ensures.visits)

pub returns-clause-made : goal.returns-clause-made
returns-clause-made g c =
    ended_changed (linkable_authorities c.args.store.now.state) c.args.links.key.now (successor_to c.args.links) c.args.class (field_as c.args.at) c.args.links.only_base c.requires.linked (held_as c.in_ok-chosen.chosen) (sym c.is_spared.ensures ∙ c.if-is_spared.false)
    (subst (λ (h : KeptField). IsChoiceSettled (linkable_authorities c.args.store.now.state) c.args.class h (held_as c.in_ok-chosen.chosen)) c.in_ok-ended.ensures c.in_ok-chosen.ensures.settled)

pub returns-clause-visits : goal.returns-clause-visits
returns-clause-visits g c =
    ended_visits (linkable_authorities c.args.store.now.state) c.args.links.key.now (successor_to c.args.links) c.args.class (field_as c.args.at) c.args.links.only_base c.requires.linked c.args.steps.now c.with_choice.new.steps (sym c.is_spared.ensures ∙ c.if-is_spared.false)
    (subst (λ (h : KeptField). c.with_choice.new.steps ≤ c.args.steps.now + link_visit (linkable_authorities c.args.store.now.state) c.args.class h) c.in_ok-ended.ensures c.with_choice.ensures.visits)
