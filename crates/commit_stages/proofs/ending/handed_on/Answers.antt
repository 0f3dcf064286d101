use Rattle.std.proofs.Common.{◌∙◌, sym, ap, subst, ◌+◌, ◌≤◌, arith}
use Rattle.std.specs.Option.{option_copied}
use Rattle.catalogue_rules.specs.State.{KeptField, linkable_authorities}
use Rattle.linking_laws.specs.Visits.{link_visit}
use Rattle.commit_stages.specs.Settled.{IsChoiceSettled}
use Rattle.field_settling.specs.Held.{held_as}
use Rattle.commit_stages.specs.Fields.{field_as}
use Rattle.commit_stages.specs.Dropping.{successor_to}
use Rattle.commit_stages.proofs.DroppedField.{handed_changed, handed_visits, unawaited_stays, unsucceeded_stays, waiting_visit}
use Rattle.commit_stages.proofs.ending.handed_on.Goals as goal

pub returns-then-not-is_key-clause-made : goal.returns-then-not-is_key-clause-made
returns-then-not-is_key-clause-made g c = unawaited_stays (linkable_authorities c.args.store.now.state) c.args.links.key.now (successor_to c.args.links) c.args.class (field_as c.args.at) c.args.links.only_base c.requires.unlinked (sym c.is_key.ensures ∙ c.if-not-is_key.true)

pub returns-then-not-is_key-clause-visits : goal.returns-then-not-is_key-clause-visits
returns-then-not-is_key-clause-visits g c = let own = waiting_visit (linkable_authorities c.args.store.now.state) c.args.links.key.now (successor_to c.args.links) c.args.class (field_as c.args.at) c.args.links.only_base c.requires.unlinked c.requires.to_do in omega arith

pub returns-in-None-clause-made : goal.returns-in-None-clause-made
returns-in-None-clause-made g c = unsucceeded_stays (linkable_authorities c.args.store.now.state) c.args.links.key.now (successor_to c.args.links) c.args.class (field_as c.args.at) c.args.links.only_base c.requires.unlinked (ap option_copied c.in-None.is)

pub returns-in-None-clause-visits : goal.returns-in-None-clause-visits
returns-in-None-clause-visits g c = let own = waiting_visit (linkable_authorities c.args.store.now.state) c.args.links.key.now (successor_to c.args.links) c.args.class (field_as c.args.at) c.args.links.only_base c.requires.unlinked c.requires.to_do in omega arith

pub returns-in_err-handed-in-Some-clause-visits : goal.returns-in_err-handed-in-Some-clause-visits
returns-in_err-handed-in-Some-clause-visits g c = let own = waiting_visit (linkable_authorities c.args.store.now.state) c.args.links.key.now (successor_to c.args.links) c.args.class (field_as c.args.at) c.args.links.only_base c.requires.unlinked c.requires.to_do in omega arith

pub returns-in_err-chosen-in-Some-clause-visits : goal.returns-in_err-chosen-in-Some-clause-visits
returns-in_err-chosen-in-Some-clause-visits g c =
    handed_visits (linkable_authorities c.args.store.now.state) c.args.links.key.now (successor_to c.args.links) c.args.class (field_as c.args.at) c.args.links.only_base c.requires.unlinked c.in-Some.successor.now (ap option_copied c.in-Some.is) (sym c.is_key.ensures ∙ c.if-not-is_key.false) c.args.steps.now c.with_choice.new.steps c.requires.to_do
    (subst (λ (h : KeptField). c.with_choice.new.steps ≤ c.args.steps.now + link_visit (linkable_authorities c.args.store.now.state) c.args.class h) c.in_ok-handed-in-Some.ensures c.with_choice.ensures.visits)

pub returns-in_ok-chosen-in-Some-clause-made : goal.returns-in_ok-chosen-in-Some-clause-made
returns-in_ok-chosen-in-Some-clause-made g c =
    handed_changed (linkable_authorities c.args.store.now.state) c.args.links.key.now (successor_to c.args.links) c.args.class (field_as c.args.at) c.args.links.only_base c.requires.unlinked c.in-Some.successor.now (ap option_copied c.in-Some.is) (sym c.is_key.ensures ∙ c.if-not-is_key.false) (held_as c.in_ok-chosen-in-Some.chosen)
    (subst (λ (h : KeptField). IsChoiceSettled (linkable_authorities c.args.store.now.state) c.args.class h (held_as c.in_ok-chosen-in-Some.chosen)) c.in_ok-handed-in-Some.ensures c.in_ok-chosen-in-Some.ensures.settled)

pub returns-in_ok-chosen-in-Some-clause-visits : goal.returns-in_ok-chosen-in-Some-clause-visits
returns-in_ok-chosen-in-Some-clause-visits g c =
    handed_visits (linkable_authorities c.args.store.now.state) c.args.links.key.now (successor_to c.args.links) c.args.class (field_as c.args.at) c.args.links.only_base c.requires.unlinked c.in-Some.successor.now (ap option_copied c.in-Some.is) (sym c.is_key.ensures ∙ c.if-not-is_key.false) c.args.steps.now c.with_choice.new.steps c.requires.to_do
    (subst (λ (h : KeptField). c.with_choice.new.steps ≤ c.args.steps.now + link_visit (linkable_authorities c.args.store.now.state) c.args.class h) c.in_ok-handed-in-Some.ensures c.with_choice.ensures.visits)
