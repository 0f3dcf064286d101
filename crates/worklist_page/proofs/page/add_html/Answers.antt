use Rattle.worklist_page.proofs.Adding.{round}
use Rattle.std.proofs.Common.{[], ◌∷◌, ◌++◌}
use Rattle.std.specs.Prelude.{codes}
use Rattle.worklist_page.specs.declared.names.Element.TheVariants as tag
use Rattle.worklist_page.specs.declared.names.Attribute.TheVariants as attribute
use Rattle.worklist_page.specs.Page.{content, head}
use Rattle.worklist_page.specs.Pieces.{element}
use Rattle.worklist_page.proofs.page.add_html.Goals as goal

pub returns : goal.returns
returns c = round _ _ _ _ tag.Html ((attribute.Lang, codes "en") ∷ []) (head ++ element tag.Body (content c.args.shown.now.engine.now.state c.args.shown.now.figures.now c.args.shown.now.brought.now)) c.in_ok-start_with.ensures c.in_ok-add_halves.ensures c.in_ok-end.ensures
