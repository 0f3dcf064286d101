use Rattle.std.proofs.Common.{◌∙◌, ap}
use Rattle.catalogue_core.specs.Catalogues.{entries_seen, without_staged}
use Rattle.catalogue_core.proofs.Catalogues.{seen_front, undone_catalogue, undone_is}
use Rattle.catalogue_core.proofs.catalogue.Catalogue.undo.Goals as goal

pub invariant_of-self : goal.invariant_of-self
invariant_of-self c =
    let k = c.self.inside in
    let now = c.truncate.new.self.items in
    undone_catalogue k.engine c.undo.new.self k.kept k.kept_bytes (entries_seen k.entries.items) (entries_seen now) k.bytes k.limits c.self.invariant c.undo.ensures
    (seen_front k.entries.items now k.kept c.truncate.ensures.items)

pub returns : goal.returns
returns c =
    let k = c.self.inside in
    let now = c.truncate.new.self.items in
    undone_is k.kept (entries_seen k.entries.items) (entries_seen now) k.limits (seen_front k.entries.items now k.kept c.truncate.ensures.items) ∙ ap without_staged c.self.view_is
