use Rattle.std.proofs.Common.{◌≡◌, ◌*◌, ◌≤◌, length, take}
use Rattle.std.specs.List.{flat_map}
use Rattle.entry_history.specs.Format.{entry_bytes}
use Rattle.entry_history.proofs.batch.parts_len.Given as goal

abbrev pub invariant-loop-item : goal.invariant-loop-item
invariant-loop-item l = (l.len ≡ length (flat_map entry_bytes (take l.item-index l.items))) × (l.len ≤ 100011 * l.item-index)
