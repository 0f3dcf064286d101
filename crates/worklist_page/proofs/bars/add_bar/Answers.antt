use Rattle.worklist_page.specs.declared.names.Element.TheVariants.{Svg}
use Rattle.worklist_page.specs.Bars.{parts, picture}
use Rattle.worklist_page.proofs.Adding.{round}
use Rattle.worklist_page.proofs.bars.add_bar.Goals as goal

pub returns : goal.returns
returns c = round _ _ _ _ Svg (picture c.args.shown.now) (parts c.args.shown.now) c.in_ok-start_picture.ensures c.in_ok-add_parts.ensures c.in_ok-end.ensures
