use Rattle.worklist_page.proofs.Adding.{round}
use Rattle.std.proofs.Common.{[], ◌∷◌}
use Rattle.std.specs.Prelude.{codes}
use Rattle.worklist_page.specs.declared.names.Element.TheVariants as tag
use Rattle.worklist_page.specs.declared.names.Attribute.TheVariants as attribute
use Rattle.worklist_page.specs.Pieces.{words}
use Rattle.std.specs.Fmt.{decimal}
use Rattle.worklist_page.proofs.sections.add_run.Goals as goal

pub returns : goal.returns
returns c = round _ _ _ _ tag.Th ((attribute.Scope, codes "row") ∷ []) (words (decimal c.args.run)) c.in_ok-start_with.ensures c.in_ok-add_number.ensures c.in_ok-end.ensures
