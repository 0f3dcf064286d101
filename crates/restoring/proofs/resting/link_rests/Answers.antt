use Rattle.std.proofs.Common.{◌∙◌, ap, sym}
use Rattle.std.specs.Option.{option_map}
use Rattle.std.proofs.lemmas.Result.{IfOk-weaker}
use Rattle.catalogue_rules.specs.State.{kept_field}
use Rattle.commit_stages.specs.Headings.{own_heading}
use Rattle.restoring.proofs.Rests.{link_decides, nobody_decides}
use Rattle.restoring.proofs.resting.link_rests.Goals as goal

pub returns-in-Some : goal.returns-in-Some
returns-in-Some c =
    IfOk-weaker c.rests_under.result _ _
    (λ told so. link_decides c.args.store.now.state c.requires.ordered c.args.class (kept_field c.args.field.now c.args.tie.now) c.args.key.now c.requires.linked
    (own_heading c.in-Some.heading) told c.requires.whole (sym (ap (option_map own_heading) c.in-Some.is) ∙ c.in_ok-heading.ensures) so)
    c.rests_under.ensures

pub returns-in-None : goal.returns-in-None
returns-in-None c =
    nobody_decides c.args.store.now.state c.requires.ordered c.args.class (kept_field c.args.field.now c.args.tie.now) c.args.key.now c.requires.linked
    (sym (ap (option_map own_heading) c.in-None.is) ∙ c.in_ok-heading.ensures)
