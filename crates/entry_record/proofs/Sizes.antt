-- The bytes of entries, counted one after the other.
use Rattle.std.proofs.Common.{◌≡◌, ℕ, ◌+◌, ◌<◌, ◌≤◌, List, [], ◌∷◌, ◌++◌, length, arith}
use Rattle.std.proofs.lemmas.List.Sums.{sum_by-append, sum_by-cons}
use Rattle.marc_types.specs.declared.entry.Entry.{Entry}
use Rattle.marc_types.specs.declared.entry.Limits.{Limits}
use Rattle.entry_record.specs.History.{entry_size, entries_size, IsWithin}

pub size_behind : (entries : List Entry) (e : Entry) → entries_size (entries ++ e ∷ []) ≡ entries_size entries + entry_size e
size_behind entries e =
    let both = sum_by-append entry_size entries (e ∷ []) in
    let first = sum_by-cons entry_size e [] in
    omega (arith, both, first)

-- an entry that is no longer than what is left
pub left_more : (bytes : ℕ) (entries : List Entry) (e : Entry) (left now : ℕ) → entry_size e ≤ left → now + entry_size e ≡ left → entries_size entries + left ≡ bytes →
    entries_size (entries ++ e ∷ []) + now ≡ bytes
left_more bytes entries e left now fits less split = let next = size_behind entries e in omega (arith, next, fits, less, split)

-- an entry that is longer
pub left_passed : (bytes : ℕ) (entries : List Entry) (e : Entry) (left : ℕ) → left < entry_size e → entries_size entries + left ≡ bytes →
    bytes < entries_size (entries ++ e ∷ [])
left_passed bytes entries e left long split = let next = size_behind entries e in omega (arith, next, long, split)

pub passed_more : (bytes : ℕ) (entries : List Entry) (e : Entry) → bytes < entries_size entries → bytes < entries_size (entries ++ e ∷ [])
passed_more bytes entries e long = let next = size_behind entries e in omega (arith, next, long)

pub within_both : (limits : Limits) (entries : List Entry) (count left : ℕ) → count ≡ length entries → count ≤ limits.entries → entries_size entries + left ≡ limits.bytes →
    IsWithin limits entries
within_both limits entries count left is few split = record { count = omega (arith, is, few); size = omega (arith, split) }

pub within_few : (limits : Limits) (entries : List Entry) → IsWithin limits entries → length entries ≤ limits.entries
within_few limits entries within = within.count

pub within_short : (limits : Limits) (entries : List Entry) → IsWithin limits entries → limits.bytes < entries_size entries → ⊥
within_short limits entries within long = let short = within.size in omega (arith, short, long)
