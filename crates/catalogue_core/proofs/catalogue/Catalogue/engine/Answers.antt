use Rattle.std.proofs.Common.{◌∙◌, ap}
use Rattle.catalogue_rules.specs.Settle.{state_of}
use Rattle.catalogue_core.specs.Catalogues.{Catalogued, all_entries, entries_seen}
use Rattle.catalogue_core.proofs.Catalogues.{engine_is}
use Rattle.catalogue_core.proofs.catalogue.Catalogue.engine.Goals as goal

pub returns : goal.returns
returns c =
    let k = c.self.inside in
    engine_is k.engine k.kept k.kept_bytes (entries_seen k.entries.items) k.bytes k.limits c.self.invariant ∙ ap (λ (x : Catalogued). state_of (all_entries x)) c.self.view_is
