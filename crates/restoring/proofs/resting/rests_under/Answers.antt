use Rattle.catalogue_rules.specs.State.{kept_field}
use Rattle.commit_stages.specs.Headings.{own_heading}
use Rattle.field_settling.specs.Held.{held_as}
use Rattle.restoring.proofs.Rests.{linked_anew}
use Rattle.restoring.proofs.resting.rests_under.Goals as goal

pub returns : goal.returns
returns c =
    linked_anew c.args.class (kept_field c.args.field.now c.args.tie.now) c.args.key.now (own_heading c.args.heading.now) (held_as c.in_ok-made.made) c.is.result
    (c.can_have.ensures.0 c.if-not-can_have.false) c.in_ok-made.ensures c.is.ensures
