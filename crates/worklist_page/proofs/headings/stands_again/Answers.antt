use Rattle.std.proofs.Common.{◌∙◌}
use Rattle.std.specs.Prelude.{Some, None}
use Rattle.worklist_page.specs.Headings.{same_heading}
use Rattle.worklist_page.proofs.Tops.{again_seen}
use Rattle.worklist_page.proofs.headings.stands_again.Goals as goal

pub returns-in-Some : goal.returns-in-Some
returns-in-Some c =
    c.is_same.ensures ∙ again_seen same_heading (λ r. r.now) c.args.found.now c.args.heading.now (Some c.in-Some.last.now) c.in-Some.ensures.value

pub returns-in-None : goal.returns-in-None
returns-in-None c = again_seen same_heading (λ r. r.now) c.args.found.now c.args.heading.now None c.in-None.ensures.value
