use Rattle.std.proofs.Common.{◌∙◌}
use Rattle.catalogue_rules.specs.State.{linkable_authorities}
use Rattle.linked_store.proofs.Wanting.{none_left}
use Rattle.commit_stages.specs.Fields.{field_as}
use Rattle.commit_stages.proofs.Given.{link_given, link_known, told_so}
use Rattle.commit_stages.proofs.Standing.{stands_so}
use Rattle.commit_stages.proofs.settling.settle_chosen.Goals as goal

pub link_chosen-requires : goal.link_chosen-requires
link_chosen-requires g c =
    link_known c.args.store.now c.requires.ordered c.each_authority_has_a_number.ensures c.args.class (field_as c.args.at) c.in-Link.number c.in-Link.whole
    (told_so _ _ _ _ c.in-Some.is c.in-Link.is c.requires.chosen)

pub returns-in_ok-made-in-Link-clause-settled : goal.returns-in_ok-made-in-Link-clause-settled
returns-in_ok-made-in-Link-clause-settled g c =
    link_given c.args.store.now c.requires.ordered c.each_authority_has_a_number.ensures c.args.class c.args.at.field.now c.args.at.tie.now c.in-Link.number c.in-Link.whole
    (told_so _ _ _ _ c.in-Some.is c.in-Link.is c.requires.chosen) c.in_ok-made-in-Link.made c.in_ok-made-in-Link.ensures.linked c.link_chosen.ensures.proper

pub returns-in_ok-made-in-Link-clause-stands : goal.returns-in_ok-made-in-Link-clause-stands
returns-in_ok-made-in-Link-clause-stands g c = λ unlinked.
    stands_so (linkable_authorities c.args.store.now.state) c.args.class (field_as c.args.at) unlinked c.args.store.now.keys.authorities _
    (told_so _ _ _ _ c.in-Some.is c.in-Link.is c.requires.chosen)

pub returns-in_default-clause-stands : goal.returns-in_default-clause-stands
returns-in_default-clause-stands g c = λ unlinked.
    c.stays.ensures.stands
    ∙ stands_so (linkable_authorities c.args.store.now.state) c.args.class (field_as c.args.at) unlinked c.args.store.now.keys.authorities _
    (none_left c.args.chosen c.in_default.not-Some ∙ c.requires.chosen)

pub returns-in-Ambiguous-clause-stands : goal.returns-in-Ambiguous-clause-stands
returns-in-Ambiguous-clause-stands g c = λ unlinked.
    c.stays-in-Ambiguous.ensures.stands
    ∙ stands_so (linkable_authorities c.args.store.now.state) c.args.class (field_as c.args.at) unlinked c.args.store.now.keys.authorities _
    (told_so _ _ _ _ c.in-Some.is c.in-Ambiguous.is c.requires.chosen)

pub returns-in-Unlinked-clause-stands : goal.returns-in-Unlinked-clause-stands
returns-in-Unlinked-clause-stands g c = λ unlinked.
    c.stays-in-Unlinked.ensures.stands
    ∙ stands_so (linkable_authorities c.args.store.now.state) c.args.class (field_as c.args.at) unlinked c.args.store.now.keys.authorities _
    (told_so _ _ _ _ c.in-Some.is c.in-Unlinked.is c.requires.chosen)
