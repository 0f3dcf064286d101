use Rattle.std.proofs.Common.{subst}
use Rattle.numbered_store.proofs.Keeping.{AreKnown, kept_known}
use Rattle.numbered_store.proofs.shelf.Shelf.each_record_has_a_number.Goals as goal

pub returns : goal.returns
returns c = subst AreKnown c.self.view_is (kept_known c.self.inside.keys c.self.inside.slots.items)
