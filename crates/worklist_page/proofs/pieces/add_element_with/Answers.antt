use Rattle.std.proofs.Common.{[], ◌∷◌}
use Rattle.worklist_page.specs.Pieces.{words}
use Rattle.worklist_page.proofs.Adding.{round}
use Rattle.worklist_page.proofs.pieces.add_element_with.Goals as goal

pub returns : goal.returns
returns c = round _ _ _ _ c.args.name ((c.args.attribute, c.args.value.now) ∷ []) (words c.args.text.now) c.in_ok-start_with.ensures c.in_ok-add_words.ensures c.in_ok-end.ensures
