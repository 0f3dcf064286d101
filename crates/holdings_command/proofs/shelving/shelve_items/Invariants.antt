use Rattle.holdings_command.proofs.OnShelves.{IsShelving}
use Rattle.holdings_command.proofs.shelving.shelve_items.Given as goal

abbrev pub invariant-items : goal.invariant-items
invariant-items g l = IsShelving l.initial.items l.items l.shelf l.count l.refused.items

abbrev pub decreases-items : goal.decreases-items
decreases-items g l = l.items.stream.most
