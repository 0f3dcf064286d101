use Rattle.worklist_page.proofs.Adding.{round}
use Rattle.std.proofs.Common.{[], ◌∷◌, ◌++◌}
use Rattle.std.specs.Prelude.{codes}
use Rattle.worklist_page.specs.declared.names.Element.TheVariants as tag
use Rattle.worklist_page.specs.declared.names.Attribute.TheVariants as attribute
use Rattle.worklist_page.specs.Pieces.{Start, element, words}
use Rattle.worklist_page.specs.Page.{page_name}
use Rattle.worklist_page.specs.declared.style.TheConstants.{STYLE}
use Rattle.worklist_page.proofs.page.add_head.Goals as goal

pub returns : goal.returns
returns c = round _ _ _ _ tag.Head [] (Start tag.Meta ((attribute.Charset, codes "utf-8") ∷ []) ∷ [] ++ element tag.Title (words page_name) ++ element tag.Style (words STYLE.now)) c.in_ok-start.ensures c.in_ok-add_head_parts.ensures c.in_ok-end.ensures
