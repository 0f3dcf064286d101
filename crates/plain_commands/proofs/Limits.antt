-- The entries of a workload are within the limits of a catalogue.
use Rattle.std.proofs.Common.{◌≡◌, ℕ, ◌+◌, ◌*◌, ◌≤◌, ◌/◌, List, [], ◌∷◌, length, All, refl, arith, ◌∙◌}
use Rattle.std.specs.List.{AllByRecursion}
use Rattle.std.proofs.lemmas.List.Elements.{All-from_recursion}
use Rattle.std.proofs.lemmas.List.Sums.{sum_by-cons}
use Rattle.marc_types.specs.declared.entry.Entry.{Entry}
use Rattle.marc_types.specs.declared.record.Record.{Record}
use Rattle.entry_record.specs.History.{IsAdmitted, entry_size, entries_size}
use Rattle.entry_record.specs.Prepared.{new_entry}
use Rattle.workload.specs.Records.{Contents}
use Rattle.workload.specs.Workload.{workload}
use Rattle.workload.proofs.Counts.{record_count}
use Rattle.plain_commands.specs.Entries.{workload_library, entries_from, workload_entries, IsTaken, AreTaken}
use Rattle.plain_commands.proofs.Drafts.{AreShort, workload_taken, workload_short}
use Rattle.plain_commands.proofs.Given.{first_entry, library_proper, entry_count}

-- ---- one by one

abbrev record_of_taken : (c : Contents) → IsTaken c → Record
record_of_taken c taken = record { leader = c.leader; fields = c.fields; valid = taken.valid }

entry_admitted : (ordinal : ℕ) (c : Contents) (taken : IsTaken c) → 1 ≤ ordinal → IsAdmitted (new_entry workload_library 0 ordinal (record_of_taken c taken))
entry_admitted ordinal c taken some = record {
  ordinal = some;
  library = library_proper workload_library refl;
  taken = taken.taken;
  class_is = refl;
  key_is = refl;
}

each_admitted : (ordinal : ℕ) (cs : List Contents) → 1 ≤ ordinal → AreTaken cs → AllByRecursion IsAdmitted (entries_from ordinal cs)
each_admitted ordinal [] some taken = tt
each_admitted ordinal (c ∷ cs) some taken =
    rw (first_entry ordinal c taken.0.valid cs) (entry_admitted ordinal c taken.0 some, each_admitted (ordinal + 1) cs (omega (arith, some)) taken.1)

each_small : (ordinal : ℕ) (cs : List Contents) → AreTaken cs → AreShort cs → AllByRecursion (λ e. entry_size e ≤ 512) (entries_from ordinal cs)
each_small ordinal [] taken short = tt
each_small ordinal (c ∷ cs) taken short =
    let own = short.0 in
    rw (first_entry ordinal c taken.0.valid cs) (omega (arith, own), each_small (ordinal + 1) cs taken.1 short.1)

small_total : (entries : List Entry) → AllByRecursion (λ e. entry_size e ≤ 512) entries → entries_size entries ≤ 512 * length entries
small_total [] small = omega arith
small_total (e ∷ es) small =
    let own = small.0 in
    omega (arith, own, sum_by-cons entry_size e es, small_total es small.1)

-- ---- of a seed and a count

pub entries_many : (seed count : ℕ) → count ≤ 1048576 → length (workload_entries seed count) ≡ count
unfolding workload_entries workload
entries_many seed count most = entry_count 1 (workload seed count) (workload_taken seed count most) ∙ record_count (1 + count / 16) count 1 seed

pub entries_admitted : (seed count : ℕ) → count ≤ 1048576 → All IsAdmitted (workload_entries seed count)
unfolding workload_entries
entries_admitted seed count most = All-from_recursion IsAdmitted _ (each_admitted 1 (workload seed count) (omega arith) (workload_taken seed count most))

small_entries : (seed count : ℕ) → count ≤ 1048576 → AllByRecursion (λ e. entry_size e ≤ 512) (workload_entries seed count)
unfolding workload_entries
small_entries seed count most = each_small 1 (workload seed count) (workload_taken seed count most) (workload_short seed count most)

pub entries_small : (seed count : ℕ) → count ≤ 1048576 → All (λ e. entry_size e ≤ 512) (workload_entries seed count)
entries_small seed count most = All-from_recursion (λ e. entry_size e ≤ 512) _ (small_entries seed count most)

pub entries_total : (seed count : ℕ) → count ≤ 1048576 → entries_size (workload_entries seed count) ≤ 536870912
entries_total seed count most =
    let total = small_total (workload_entries seed count) (small_entries seed count most) in
    let many = entries_many seed count most in
    omega (arith, total, many, most)
