use Rattle.std.proofs.Common.{map}
use Rattle.catalogue_rules.specs.Settle.{state_of}
use Rattle.catalogue_core.specs.Catalogues.{all_entries}
use Rattle.numbered_store.specs.Kept.{shown_row}
use Rattle.browsing_commands.proofs.Stands.{IsListing}
use Rattle.browsing_commands.proofs.standing.standing_tables.Given as goal

abbrev pub invariant-loop-key : goal.invariant-loop-key
invariant-loop-key l = IsListing (state_of (all_entries l.core)) l.tables.0.listing (map shown_row l.key-iterator)
    × IsListing (state_of (all_entries l.core)) l.tables.1.listing (map shown_row l.key-iterator)
