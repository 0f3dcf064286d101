use Rattle.std.proofs.Common.{◌≡◌, ◌+◌, take}
use Rattle.commit_journal.specs.declared.format.TheConstants.{LARGEST_APPEND}
use Rattle.commit_journal.specs.Journal.{frames_len}
use Rattle.migrate_command.proofs.appending.run_length.Given as goal

abbrev pub invariant-loop-count : goal.invariant-loop-count
invariant-loop-count l = frames_len (take l.count l.payloads) + l.room ≡ LARGEST_APPEND
