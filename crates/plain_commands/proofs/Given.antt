-- The entries of records that a catalogue takes: one for each.
use Rattle.std.proofs.Common.{◌≡◌, ℕ, suc, ◌+◌, ◌≤◌, Bool, true, false, List, [], ◌∷◌, length, Some, refl, ap, ◌∙◌}
use Rattle.std.proofs.Math.Bool.{Bool-set}
use Rattle.marc_types.specs.Valid.{is_record, is_code}
use Rattle.marc_types.specs.declared.record.Record.{Record}
use Rattle.marc_types.specs.declared.entry.Entry.{Entry}
use Rattle.entry_record.specs.Prepared.{new_entry}
use Rattle.workload.specs.Records.{Contents}
use Rattle.workload.specs.Workload.{contents_of_record, workload}
use Rattle.plain_commands.specs.Entries.{workload_library, tested_record, record_of, entries_from, workload_entries, AreTaken}
use Rattle.plain_commands.proofs.Drafts.{workload_taken}

tested : (c : Contents) (good : Bool) (test : is_record c.leader c.fields ≡ good) (valid : is_record c.leader c.fields ≡ true)
    → tested_record c good test ≡ Some (record { leader = c.leader; fields = c.fields; valid = valid })
tested c true test valid =
    ap (λ p. Some (record { leader = c.leader; fields = c.fields; valid = p })) (Bool-set (is_record c.leader c.fields) true test valid)
tested c false test valid = cc

-- the record of contents that are one
record_is : (c : Contents) (valid : is_record c.leader c.fields ≡ true) → record_of c ≡ Some (record { leader = c.leader; fields = c.fields; valid = valid })
unfolding record_of
record_is c valid = tested c (is_record c.leader c.fields) refl valid

-- a record's entry stands before those of the records behind it
pub first_entry : (ordinal : ℕ) (c : Contents) (valid : is_record c.leader c.fields ≡ true) (rest : List Contents)
    → entries_from ordinal (c ∷ rest) ≡ new_entry workload_library 0 ordinal (record { leader = c.leader; fields = c.fields; valid = valid }) ∷ entries_from (ordinal + 1) rest
first_entry ordinal c valid rest = rw (record_is c valid) refl

pub entry_given : (made : Entry) (code : List ℕ) (ordinal : ℕ) (rec : Record) (before after : List Contents) → code ≡ workload_library
    → made ≡ new_entry code 0 ordinal rec → before ≡ contents_of_record rec ∷ after → entries_from ordinal before ≡ made ∷ entries_from (ordinal + 1) after
entry_given made code ordinal rec before after code_is made_is before_is =
    rw (before_is, made_is, code_is) (first_entry ordinal (contents_of_record rec) rec.valid after)

pub library_proper : (code : List ℕ) → code ≡ workload_library → is_code code ≡ true
unfolding is_code
library_proper code is = rw is refl

-- there is an entry for each record
pub entry_count : (ordinal : ℕ) (cs : List Contents) → AreTaken cs → length (entries_from ordinal cs) ≡ length cs
entry_count ordinal [] taken = refl
entry_count ordinal (c ∷ cs) taken =
    let rest = entry_count (ordinal + 1) cs taken.1 in
    rw (record_is c taken.0.valid) (ap suc rest)

-- ---- all entries, from all records

pub all_taken : (seed count : ℕ) (cs : List Contents) → count ≤ 1048576 → cs ≡ workload seed count → AreTaken cs
all_taken seed count cs most all = rw all (workload_taken seed count most)

pub all_entries : (seed count : ℕ) (cs : List Contents) → cs ≡ workload seed count → entries_from 1 cs ≡ workload_entries seed count
unfolding workload_entries
all_entries seed count cs all = ap (entries_from 1) all

pub all_counted : (seed count : ℕ) (cs : List Contents) → count ≤ 1048576 → cs ≡ workload seed count → length cs ≡ count → length (entries_from 1 cs) ≡ count
all_counted seed count cs most all many = entry_count 1 cs (all_taken seed count cs most all) ∙ many
