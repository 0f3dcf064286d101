-- The most that a catalogue takes. The limits are this project's own: those of a catalogue by itself, and those of a large one.
use Rattle.std.specs.Prelude.{ℕ, Bool, true, false}
use Rattle.marc_types.specs.declared.entry.Limits.{Limits}

-- 134,217,728 entries, the most of any catalogue
abbrev pub most_entries : ℕ
most_entries = 134217728

-- 137,438,953,472 bytes, of all entries, the most of any catalogue
abbrev pub most_bytes : ℕ
most_bytes = 137438953472

-- what a catalogue takes by itself: 2^20 entries, of 2^29 bytes in all
abbrev pub plain_limits : Limits
plain_limits = record { entries = 1048576; bytes = 536870912 }

-- what a large one takes: 2^27 entries, of 2^37 bytes in all
abbrev pub large_limits : Limits
large_limits = record { entries = most_entries; bytes = most_bytes }

-- the most records of a workload that `make` makes
abbrev pub most_made : ℕ
most_made = 1048576

-- the limits of a catalogue, large or not
abbrev pub limits_of : Bool → Limits
limits_of false = plain_limits
limits_of true = large_limits
