-- What stands behind a log's end.
use Rattle.std.specs.Prelude.{ℕ, ◌+◌, Bool, List, length, nat_le, nat_lt, if◌then◌else◌}
use Rattle.commit_journal.specs.declared.format.TheConstants.{BLANK_LENGTH, LARGEST_APPEND}
use Rattle.commit_journal.specs.declared.tail.Tail.{Tail}
use Rattle.commit_journal.specs.declared.tail.Tail.TheVariants.{Nothing, Torn, More}
use Rattle.commit_journal.specs.Log.{walk_of}

-- of so many bytes some stand behind the closed gate at that place
abbrev pub has_tail : ℕ → ℕ → Bool
has_tail place bytes = nat_lt (place + 1) bytes

-- no more of them than one append leaves
abbrev pub is_crash_tail : ℕ → ℕ → Bool
is_crash_tail place bytes = nat_le bytes (place + 1 + LARGEST_APPEND)

-- what stands behind the closed gate at that place, of so many bytes
abbrev pub tail_behind : ℕ → ℕ → Tail
tail_behind place bytes = if has_tail place bytes then (if is_crash_tail place bytes then Torn else More) else Nothing

-- what stands behind the first closed gate of a log; a blank one has nothing there
abbrev pub tail_of : List ℕ → Tail
tail_of log = if nat_le (length log) BLANK_LENGTH then Nothing else tail_behind (walk_of log).place (length log)
