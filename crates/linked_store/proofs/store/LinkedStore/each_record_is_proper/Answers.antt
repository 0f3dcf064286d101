use Rattle.std.proofs.Common.{IfSome, subst}
use Rattle.marc_types.specs.declared.key.Class.{Class}
use Rattle.marc_types.specs.declared.key.Key.{Key}
use Rattle.catalogue_rules.specs.Receipt.{kept_under}
use Rattle.numbered_store.specs.Rows.{IsProper}
use Rattle.linked_store.specs.Linked.{Linked}
use Rattle.linked_store.proofs.store.LinkedStore.each_record_is_proper.Goals as goal

pub returns : goal.returns
returns c = subst (λ (x : Linked). (class : Class) (key : Key) → IfSome (kept_under class key x.state) IsProper) c.self.view_is c.each_record_is_proper.ensures
