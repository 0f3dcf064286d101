-- Entries, histories, and what the files of one command add to a history. The rules are this project's own.
use Rattle.std.specs.Prelude.{◌≡◌, ℕ, ◌+◌, ◌<◌, ◌≤◌, ◌==◌, Bool, ◌||◌, nat_lt, List, length, map, filter, slice_get, All, true, Some, None}
use Rattle.std.specs.List.{sum_by, last_or}
use Rattle.std.specs.Option.{option_map_or}
use Rattle.marc_types.specs.Valid.{is_code}
use Rattle.marc_types.specs.declared.entry.Entry.{Entry}
use Rattle.marc_types.specs.declared.entry.Limits.{Limits}
use Rattle.iso2709_record.specs.Written.{record_length}
use Rattle.entry_record.specs.Identity.{class_of, key_of}
use Rattle.entry_record.specs.Admission.{admission_refusal}

-- a catalogue takes the entry: its file's code is proper, nothing refuses its record, and class and key are the record's
pub record IsAdmitted (e : Entry) : Type 0 where
  pub ordinal : 1 ≤ e.ordinal
  pub library : is_code e.library ≡ true
  pub taken : admission_refusal e.library e.rec.leader e.rec.fields ≡ None
  pub class_is : e.class ≡ class_of e.rec.leader
  pub key_is : e.key ≡ key_of e.library e.rec.fields

-- twelve bytes for the ordinal and the record's length, and the written record
abbrev pub entry_size : Entry → ℕ
entry_size e = 12 + record_length e.rec.fields

-- the bytes that entries count, together
abbrev pub entries_size : List Entry → ℕ
entries_size entries = sum_by entry_size entries

-- not more entries than the limits, and not more bytes
pub record IsWithin (limits : Limits) (entries : List Entry) : Type 0 where
  pub count : length entries ≤ limits.entries
  pub size : entries_size entries ≤ limits.bytes

-- with one more entry behind these there are too many, or they have too many bytes
abbrev pub passes_limits : Limits → List Entry → Entry → Bool
passes_limits limits entries e =
    nat_lt limits.entries (length entries + 1) || nat_lt limits.bytes (entries_size entries + entry_size e)

-- the entries of one loader, in their order
abbrev pub brought_by : ℕ → List Entry → List Entry
brought_by loader entries = filter (λ e. e.loader == loader) entries

-- the entry with this run
abbrev pub in_run : ℕ → Entry → Entry
in_run run e = record e { run = run }

-- the entries with this run
abbrev pub with_run : ℕ → List Entry → List Entry
with_run run entries = map (in_run run) entries

-- the run of a history's last entry, 0 of an empty history
abbrev pub last_run : List Entry → ℕ
last_run history = option_map_or (λ e. e.run) (last_or None history) 0

-- the run of what one command adds: one more than that of the last entry before, and the first is 1
abbrev pub next_run : List Entry → ℕ
next_run before = 1 + last_run before

-- What some files added behind a history: each file's accepted entries, each once and in its file's order, in one run. The
-- number of a file is that of its loader.
pub record IsMerged (before : List Entry) (accepted : List (List Entry)) (added : List Entry) : Type 0 where
  pub loaders : All (λ e. e.loader < length accepted) added
  pub files : (loader : ℕ) (entries : List Entry) → slice_get accepted loader ≡ Some entries →
      brought_by loader added ≡ with_run (next_run before) entries
