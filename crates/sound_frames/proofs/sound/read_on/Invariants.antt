use Rattle.std.proofs.Common.{◌≡◌, ℕ, ◌+◌, ◌-◌, ◌^◌, ◌<◌, ◌≤◌, true, List, [], length}
use Rattle.sound_frames.specs.declared.window.TheConstants.{TWO_FRAMES}
use Rattle.sound_frames.specs.Looking.{HasLeft, IsWindowOf}
use Rattle.sound_frames.proofs.Readings.{IsReadingIn}
use Rattle.sound_frames.proofs.sound.read_on.Given as goal

abbrev pub invariant-gates : goal.invariant-gates
invariant-gates g l =
    let left = g.S.Source.left in
    record {
      reading : (log : List ℕ) → IsWindowOf log 0 l.fn.coming.window.items (left l.fn.coming.source) l.more
          → IsReadingIn l.fn.counter.version log l.fn.found.damages.items l.coming.place l.place.at l.coming.window.items (left l.coming.source) l.place.more
          l.found.entries.items l.found.damages.items l.counter.version l.counter.extent l.ahead;
      inside : l.place.at < length l.coming.window.items;
      far : l.place.more ≡ true → l.place.at + TWO_FRAMES ≤ length l.coming.window.items;
      left : (bytes : ℕ) → HasLeft bytes [] l.fn.found.left → HasLeft bytes l.found.entries.items l.found.left;
      faults : g.S.Source.faults l.fn.coming.source ≤ g.S.Source.faults l.coming.source;
    }

abbrev pub decreases-gates : goal.decreases-gates
decreases-gates g l = 2 ^ 64 - (l.coming.place + l.place.at)
