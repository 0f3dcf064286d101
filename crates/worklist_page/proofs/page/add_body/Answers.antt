use Rattle.worklist_page.proofs.Adding.{round}
use Rattle.std.proofs.Common.{[]}
use Rattle.worklist_page.specs.declared.names.Element.TheVariants as tag
use Rattle.worklist_page.specs.Page.{content}
use Rattle.worklist_page.proofs.page.add_body.Goals as goal

pub returns : goal.returns
returns c = round _ _ _ _ tag.Body [] (content c.args.shown.now.engine.now.state c.args.shown.now.figures.now c.args.shown.now.brought.now) c.in_ok-start.ensures c.in_ok-add_content.ensures c.in_ok-end.ensures
