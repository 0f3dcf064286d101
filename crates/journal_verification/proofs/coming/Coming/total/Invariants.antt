use Rattle.std.proofs.Common.{ℕ, ◌-◌, ◌^◌, ◌≤◌, List}
use Rattle.journal_verification.specs.Coming.{Comes, ComesOn}
use Rattle.journal_verification.proofs.coming.Coming.total.Given as goal

abbrev pub invariant-loop-self : goal.invariant-loop-self
invariant-loop-self g l =
    let left = g.S.Source.left in
    record {
      on : (b : List ℕ) → Comes l.fn.self.window.items (left l.fn.self.source) b
          → ComesOn l.fn.self.place b l.self.place l.self.window.items (left l.self.source);
      faults : g.S.Source.faults l.fn.self.source ≤ g.S.Source.faults l.self.source;
    }

abbrev pub decreases-loop-self : goal.decreases-loop-self
decreases-loop-self g l = 2 ^ 64 - l.self.place
