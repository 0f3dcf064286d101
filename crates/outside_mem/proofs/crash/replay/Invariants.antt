use Rattle.std.proofs.Common.{◌≡◌, reverse, take}
use Rattle.outside_mem.specs.Disk.{content_after, image_after}
use Rattle.outside_mem.proofs.crash.replay.Given as goal

abbrev pub invariant-loop-change : goal.invariant-loop-change
invariant-loop-change l = record {
  content : l.content.items ≡ content_after l.start (reverse (take l.change-index l.changes));
  image : l.image.items ≡ image_after l.choice l.start (reverse (take l.change-index l.changes));
}
