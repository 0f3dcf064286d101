-- What a pass sums over a file, and what a catalogue with its limits takes. The rules are this project's own.
use Rattle.std.specs.Prelude.{◌≡◌, ◌≤◌, List, [], length}
use Rattle.marc_types.specs.declared.entry.Entry.{Entry}
use Rattle.marc_types.specs.declared.entry.Limits.{Limits}
use Rattle.entry_record.specs.History.{entries_size}
use Rattle.catalogue_rules.specs.Receipts.{receipts_behind}
use Rattle.catalogue_core.specs.Catalogues.{Catalogued}
use Rattle.marc_types.specs.Sums.{sums_of, AreFew}
use Rattle.marc_types.specs.declared.sums.Sums.{Sums}

-- the catalogue with these limits to which these entries were committed
abbrev pub holding : Limits → List Entry → Catalogued
holding limits accepted = record { history = accepted; staged = []; limits = limits }

-- a catalogue with these limits has room for these entries
pub record IsWithinLimits (limits : Limits) (accepted : List Entry) : Type 0 where
  pub entries : length accepted ≤ limits.entries
  pub bytes : entries_size accepted ≤ limits.bytes

-- the sums over the receipts of these entries in an empty catalogue
unfoldable pub sums_behind : List Entry → Sums
sums_behind accepted = sums_of (receipts_behind [] accepted)

-- these are the sums, and what keeps them within 64 bits
pub record IsSummed (accepted : List Entry) (sums : Sums) : Type 0 where
  pub are : sums ≡ sums_of (receipts_behind [] accepted)
  pub few : AreFew sums (length accepted)
