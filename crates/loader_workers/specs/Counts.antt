-- What is counted of a file's committed entries. The bounds are this project's own.
use Rattle.std.specs.Prelude.{◌≡◌, ◌+◌, ◌*◌, ◌≤◌, List, [], length}
use Rattle.std.specs.List.{sum_by}
use Rattle.marc_types.specs.Limits.{most_entries}
use Rattle.marc_types.specs.declared.entry.Receipt.{Receipt}
use Rattle.marc_types.specs.Sums.{no_sums, with_receipts, AddsFew, AreFew}
use Rattle.file_entries.specs.declared.refused.RefusedItem.{RefusedItem}
use Rattle.loader_workers.specs.declared.counts.Counts.{Counts}
use Rattle.loader_workers.specs.declared.file_end.FileEnd.{FileEnd}
use Rattle.loader_workers.specs.declared.file_end.FileEnd.TheVariants.{NoMemory}
use Rattle.loader_workers.specs.declared.result.FileResult.{FileResult}

-- nothing counted
abbrev pub no_counts : Counts
no_counts = record { accepted = 0; sums = no_sums }

-- the entries that are counted and these are no more than a catalogue takes, and no commit of theirs changed more records
pub record CanCount (c : Counts) (receipts : List Receipt) : Type 0 where
  pub few : AreFew c.sums c.accepted
  pub within : c.accepted + length receipts ≤ most_entries
  pub changed : sum_by (λ r. r.changed_records) receipts ≤ length receipts * most_entries

-- these receipts were added
pub record HasCounted (c now : Counts) (receipts : List Receipt) : Type 0 where
  pub accepted : now.accepted ≡ c.accepted + length receipts
  pub sums : now.sums ≡ with_receipts c.sums receipts
  pub few : AddsFew c.sums now.sums (length receipts)

-- what became of a file, of what was counted and refused, and how it ended
abbrev pub result_of : Counts → List RefusedItem → FileEnd → FileResult
result_of c refused end = record { refused = refused; accepted = c.accepted; sums = c.sums; end = end }

-- the counts of a result
abbrev pub counts_in : FileResult → Counts
counts_in r = record { accepted = r.accepted; sums = r.sums }

-- the result of a file for which there was no memory to begin
abbrev pub unbegun : FileResult
unbegun = result_of no_counts [] NoMemory
