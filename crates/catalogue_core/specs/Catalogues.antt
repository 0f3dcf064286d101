-- What clauses see of a catalogue, and what its type keeps.
use Rattle.std.specs.Prelude.{◌≡◌, ℕ, ◌+◌, ◌≤◌, Bool, true, false, List, [], ◌∷◌, ◌++◌, length, map, take, drop, All}
use Rattle.std.specs.declared.snapshot.Snapshot.{Snapshot}
use Rattle.marc_types.specs.declared.entry.Entry.{Entry}
use Rattle.marc_types.specs.declared.entry.Limits.{Limits}
use Rattle.marc_types.specs.declared.entry.Receipt.{Receipt}
use Rattle.entry_record.specs.History.{IsAdmitted, entries_size, passes_limits}
use Rattle.catalogue_rules.specs.Settle.{state_of}
use Rattle.commit_stages.specs.declared.changes.CommitCounts.{CommitCounts}
use Rattle.catalogue_core.specs.Engines.{Engined}
use Rattle.catalogue_core.specs.declared.catalogue.CoreFault.{CoreFault}
use Rattle.catalogue_core.specs.declared.catalogue.CoreFault.TheVariants.{Full, NoMemory}

-- the committed entries, those that are staged behind them, and the limits of both together
pub record Catalogued : Type 0 where
  pub history : List Entry
  pub staged : List Entry
  pub limits : Limits

-- the history and what is staged behind it
abbrev pub all_entries : Catalogued → List Entry
all_entries c = c.history ++ c.staged

-- a catalogue of no entry
abbrev pub empty_catalogue : Limits → Catalogued
empty_catalogue limits = record { history = []; staged = []; limits = limits }

-- with one more entry, the catalogue has too many, or they have too many bytes
abbrev pub is_full : Catalogued → Entry → Bool
is_full c e = passes_limits c.limits (all_entries c) e

-- Full exactly where it is full
abbrev pub IsDue : Bool → CoreFault → Type 0
IsDue full Full = full ≡ true
IsDue full NoMemory = full ≡ false

-- with one more entry staged
abbrev pub with_staged : Catalogued → Entry → Catalogued
with_staged c e = record { history = c.history; staged = c.staged ++ e ∷ []; limits = c.limits }

-- what is staged becomes history
abbrev pub with_kept : Catalogued → Catalogued
with_kept c = record { history = all_entries c; staged = []; limits = c.limits }

-- with nothing staged
abbrev pub without_staged : Catalogued → Catalogued
without_staged c = record { history = c.history; staged = []; limits = c.limits }

-- with one more entry in the history
abbrev pub with_entry : Catalogued → Entry → Catalogued
with_entry c e = record { history = c.history ++ e ∷ []; staged = []; limits = c.limits }

-- the receipt of an entry with so many before it, by what its commit did
abbrev pub receipt_with : ℕ → CommitCounts → Receipt
receipt_with at changes = record {
  at = at;
  linked = changes.linked;
  ambiguous = changes.ambiguous;
  unlinked = changes.unlinked;
  changed_records = changes.changed_records;
}

-- the entries that a catalogue keeps for contracts alone
abbrev pub entries_seen : List (Snapshot Entry) → List Entry
entries_seen kept = map (λ s. s.value) kept

-- so many of the entries are history, and the others are staged
abbrev pub catalogued : ℕ → List Entry → Limits → Catalogued
catalogued kept entries limits = record { history = take kept entries; staged = drop kept entries; limits = limits }

-- The state is that behind all entries, and the one to which it can go back that behind the history. Each entry was admitted, and
-- together they are within the limits.
pub record IsCatalogue (engine : Engined) (kept : ℕ) (kept_bytes : ℕ) (entries : List Entry) (bytes : ℕ) (limits : Limits) : Type 0 where
  pub state_is : engine.state ≡ state_of entries
  pub before_is : engine.before ≡ state_of (take kept entries)
  pub admitted : All IsAdmitted entries
  pub bytes_are : bytes ≡ entries_size entries
  pub kept_bytes_are : kept_bytes ≡ entries_size (take kept entries)
  pub entries_fit : length entries ≤ limits.entries
  pub bytes_fit : entries_size entries ≤ limits.bytes
  pub within : kept ≤ length entries
