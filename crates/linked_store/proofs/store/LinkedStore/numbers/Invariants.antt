use Rattle.std.proofs.Common.{take}
use Rattle.marc_types.specs.Order.{same_key}
use Rattle.catalogue_tables.specs.Waiting.{AreNumbersOf}
use Rattle.linked_store.specs.Linked.{IsUnchanged}
use Rattle.linked_store.proofs.store.LinkedStore.numbers.Given as goal

abbrev pub invariant-loop-key : goal.invariant-loop-key
invariant-loop-key l = IsUnchanged l.fn.self l.self × AreNumbersOf same_key l.self.keys.authorities (take l.key-index l.keys) l.numbers.items
