use Rattle.std.proofs.Common.{subst}
use Rattle.numbered_store.proofs.Keeping.{AreProper, kept_proper}
use Rattle.numbered_store.proofs.shelf.Shelf.each_record_is_proper.Goals as goal

pub returns : goal.returns
returns c = subst AreProper c.self.view_is (kept_proper c.self.inside.keys c.self.inside.slots.items)
