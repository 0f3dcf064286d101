use Rattle.std.proofs.Common.{ℕ, ◌<◌, get_or}
use Rattle.marc_types.specs.declared.entry.Entry.{Entry}
use Rattle.entry_history.specs.Payloads.{IsEntry}
use Rattle.entry_history.proofs.laws.each_can_stand_in_a_payload.Given as goal

abbrev pub invariant-loop-item : goal.invariant-loop-item
invariant-loop-item l = (k : ℕ) (d : Entry) → k < l.item-index → IsEntry (get_or l.items k d)
