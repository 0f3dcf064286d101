-- Sums over receipts. The bounds are this project's own.
use Rattle.std.specs.Prelude.{ℕ, ◌+◌, ◌*◌, ◌^◌, ◌<◌, ◌≤◌, List}
use Rattle.std.specs.List.{sum_by}
use Rattle.marc_types.specs.Limits.{most_entries}
use Rattle.marc_types.specs.declared.entry.Receipt.{Receipt}
use Rattle.marc_types.specs.declared.sums.Sums.{Sums}

-- the sums over no receipts
abbrev pub no_sums : Sums
no_sums = record { linked = 0; ambiguous = 0; unlinked = 0; changed = 0 }

-- the sums with these receipts added
abbrev pub with_receipts : Sums → List Receipt → Sums
with_receipts s receipts = record {
  linked = s.linked + sum_by (λ r. r.linked) receipts;
  ambiguous = s.ambiguous + sum_by (λ r. r.ambiguous) receipts;
  unlinked = s.unlinked + sum_by (λ r. r.unlinked) receipts;
  changed = s.changed + sum_by (λ r. r.changed_records) receipts;
}

-- the sums over these receipts
abbrev pub sums_of : List Receipt → Sums
sums_of receipts = with_receipts no_sums receipts

-- one more receipt, that changed so many records, can be added without passing 64 bits
pub record HasRoom (s : Sums) (changed : ℕ) : Type 0 where
  pub linked : s.linked < 2 ^ 63
  pub ambiguous : s.ambiguous < 2 ^ 63
  pub unlinked : s.unlinked < 2 ^ 63
  pub changed_fits : s.changed + changed < 2 ^ 64

-- so many receipts were added, of which no number but that of the changed records passes 32 bits
pub record AddsFew (s now : Sums) (receipts : ℕ) : Type 0 where
  pub linked : now.linked ≤ s.linked + receipts * 2 ^ 32
  pub ambiguous : now.ambiguous ≤ s.ambiguous + receipts * 2 ^ 32
  pub unlinked : now.unlinked ≤ s.unlinked + receipts * 2 ^ 32

-- the sums over so many receipts of entries with few fields each, of which none changed more records than a catalogue takes entries
pub record AreFew (s : Sums) (receipts : ℕ) : Type 0 where
  pub linked : s.linked ≤ receipts * 2 ^ 32
  pub ambiguous : s.ambiguous ≤ receipts * 2 ^ 32
  pub unlinked : s.unlinked ≤ receipts * 2 ^ 32
  pub changed : s.changed ≤ receipts * most_entries
