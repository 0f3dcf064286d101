-- The numbers of a receipt that a commit answers.
use Rattle.std.specs.Prelude.{◌≡◌, ℕ}
use Rattle.marc_types.specs.declared.entry.Receipt.{Receipt}
use Rattle.catalogue_rules.specs.Receipt.{receipt_of}
use Rattle.catalogue_rules.specs.Settle.{Arrival, step}
use Rattle.catalogue_rules.specs.State.{State}
use Rattle.commit_stages.specs.declared.changes.CommitCounts.{CommitCounts}

-- the numbers of a receipt
pub record AreReceiptCounts (r : Receipt) (changes : CommitCounts) : Type 0 where
  pub linked : changes.linked ≡ r.linked
  pub ambiguous : changes.ambiguous ≡ r.ambiguous
  pub unlinked : changes.unlinked ≡ r.unlinked
  pub changed_records : changes.changed_records ≡ r.changed_records

-- those of the receipt of an arrival that comes to a state, under whatever number
abbrev pub AreCountsOfStep : State → Arrival → CommitCounts → Type 0
AreCountsOfStep s a changes = (at : ℕ) → AreReceiptCounts (receipt_of at s a (step s a)) changes
