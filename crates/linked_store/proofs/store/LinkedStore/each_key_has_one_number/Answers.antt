use Rattle.std.proofs.Common.{subst}
use Rattle.catalogue_tables.specs.Seam.{AreDistinct}
use Rattle.linked_store.specs.Linked.{Linked}
use Rattle.linked_store.proofs.store.LinkedStore.each_key_has_one_number.Goals as goal

pub returns : goal.returns
returns c = subst (λ (x : Linked). AreDistinct x.keys) c.self.view_is c.self.invariant.distinct
