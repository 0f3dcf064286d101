use Rattle.std.proofs.Common.{◌≡◌, ◌++◌, ℕ, take}
use Rattle.sound_frames.specs.Looking.{HasLeft}
use Rattle.sound_frames.proofs.found.take_all.Given as goal

abbrev pub invariant-loop-item : goal.invariant-loop-item
invariant-loop-item l = record {
  entries : l.entries.items ≡ l.fn.entries.items ++ take l.item-index l.items;
  left : (bytes : ℕ) → HasLeft bytes l.fn.entries.items l.fn.left → HasLeft bytes l.entries.items l.left;
}
