-- A workload's records as the entries that admission makes of them. The rules are this project's own.
use Rattle.std.specs.Prelude.{◌≡◌, ℕ, ◌+◌, Bool, true, false, List, [], ◌∷◌, Option, Some, None, codes, refl}
use Rattle.std.specs.List.{AllByRecursion}
use Rattle.marc_types.specs.Valid.{is_record}
use Rattle.marc_types.specs.declared.record.Record.{Record}
use Rattle.marc_types.specs.declared.entry.Entry.{Entry}
use Rattle.entry_record.specs.Admission.{admission_refusal}
use Rattle.entry_record.specs.Prepared.{new_entry}
use Rattle.workload.specs.Records.{Contents}
use Rattle.workload.specs.Workload.{workload}

-- the library code of a workload's file
abbrev pub workload_library : List ℕ
workload_library = codes "UCAT"

-- the record of these contents, where the test of records came out so
abbrev pub tested_record : (c : Contents) (good : Bool) → is_record c.leader c.fields ≡ good → Option Record
tested_record c true valid = Some (record { leader = c.leader; fields = c.fields; valid = valid })
tested_record c false invalid = None

-- the record of these contents, where they are a record's
unfoldable pub record_of : Contents → Option Record
record_of c = tested_record c (is_record c.leader c.fields) refl

-- with the entry of one more record, where there is one
abbrev pub with_entry : ℕ → Option Record → List Entry → List Entry
with_entry ordinal (Some rec) entries = new_entry workload_library 0 ordinal rec ∷ entries
with_entry ordinal None entries = entries

-- the entries that loader 0 brings of these records, as the pieces from that ordinal on, in no run yet
abbrev pub entries_from : ℕ → List Contents → List Entry
entries_from ordinal [] = []
entries_from ordinal (c ∷ cs) = with_entry ordinal (record_of c) (entries_from (ordinal + 1) cs)

-- the entries of a seed and a count; each record of a workload has one
unfoldable pub workload_entries : ℕ → ℕ → List Entry
workload_entries seed count = entries_from 1 (workload seed count)

-- of the entries still to come the next one is given; none where there is none
abbrev pub GivesNextEntry : List Entry → List Entry → Option Entry → Type 0
GivesNextEntry before after (Some e) = before ≡ e ∷ after
GivesNextEntry before after None = (before ≡ []) × (after ≡ [])

-- a record that a catalogue takes
pub record IsTaken (c : Contents) : Type 0 where
  pub valid : is_record c.leader c.fields ≡ true
  pub taken : admission_refusal workload_library c.leader c.fields ≡ None

-- each of these records is admitted
abbrev pub AreTaken : List Contents → Type 0
AreTaken cs = AllByRecursion IsTaken cs
