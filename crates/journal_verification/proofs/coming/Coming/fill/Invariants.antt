use Rattle.std.proofs.Common.{◌≡◌, ℕ, ◌-◌, ◌≤◌, List, length}
use Rattle.journal_verification.specs.Coming.{Comes}
use Rattle.journal_verification.proofs.coming.Coming.fill.Given as goal

abbrev pub invariant-loop-self : goal.invariant-loop-self
invariant-loop-self g l =
    let left = g.S.Source.left in
    record {
      place : l.self.place ≡ l.fn.self.place;
      hasher : l.self.hasher ≡ l.fn.self.hasher;
      comes : (b : List ℕ) → Comes l.fn.self.window.items (left l.fn.self.source) b → Comes l.self.window.items (left l.self.source) b;
      grows : length l.fn.self.window.items ≤ length l.self.window.items;
      faults : g.S.Source.faults l.fn.self.source ≤ g.S.Source.faults l.self.source;
    }

abbrev pub decreases-loop-self : goal.decreases-loop-self
decreases-loop-self g l = l.count - length l.self.window.items
