use Rattle.std.proofs.Common.{◌≡◌, ℕ, ◌-◌, ◌^◌, ◌≤◌, List}
use Rattle.commit_journal.specs.Versions.{number_of}
use Rattle.journal_verification.specs.Coming.{Comes}
use Rattle.journal_verification.specs.Walking.{HasTaken}
use Rattle.journal_verification.proofs.walking.take_frames.Given as goal

abbrev pub invariant-gates : goal.invariant-gates
invariant-gates g l =
    let left = g.S.Source.left in
    record {
      taken : (b : List ℕ) → Comes l.initial.coming.window.items (left l.initial.coming.source) b
          → HasTaken (number_of l.fn.version) l.initial.coming.place
          (record { started = l.initial.coming.hasher; wanted = l.fn.wanted; hasher = l.coming.hasher; front = l.front }) b l.counter.extent l.frames l.coming.place l.coming.window.items (left l.coming.source);
      version : l.counter.version ≡ number_of l.fn.version;
      counted : l.counter.extent.count ≤ l.coming.place;
      few : l.frames ≤ l.coming.place;
      faults : g.S.Source.faults l.initial.coming.source ≤ g.S.Source.faults l.coming.source;
    }

abbrev pub decreases-gates : goal.decreases-gates
decreases-gates g l = 2 ^ 64 - l.coming.place
