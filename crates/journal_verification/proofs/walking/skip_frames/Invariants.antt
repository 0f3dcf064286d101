use Rattle.std.proofs.Common.{ℕ, ◌-◌, ◌^◌, ◌≤◌, List}
use Rattle.commit_journal.specs.declared.frame.Frame.{Frame}
use Rattle.journal_verification.specs.Coming.{Comes}
use Rattle.journal_verification.specs.Walking.{WalksOn}
use Rattle.journal_verification.proofs.walking.skip_frames.Given as goal

abbrev pub invariant-gates : goal.invariant-gates
invariant-gates g l =
    let left = g.S.Source.left in
    record {
      on : (b : List ℕ) → Comes l.initial.coming.window.items (left l.initial.coming.source) b
          → (frames : List Frame) × WalksOn l.initial.coming.place b frames l.coming.place l.coming.window.items (left l.coming.source);
      faults : g.S.Source.faults l.initial.coming.source ≤ g.S.Source.faults l.coming.source;
    }

abbrev pub decreases-gates : goal.decreases-gates
decreases-gates g l = 2 ^ 64 - l.coming.place
