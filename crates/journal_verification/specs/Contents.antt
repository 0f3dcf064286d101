-- What a journal has, and what is no journal.
use Rattle.std.specs.Prelude.{◌≡◌, ℕ, List, [], length, nat_le, if◌then◌else◌, Option, Some, None, Ok}
use Rattle.marc_types.specs.declared.entry.Entry.{Entry}
use Rattle.commit_journal.specs.declared.frame.Frame.{Frame}
use Rattle.commit_journal.specs.declared.format.TheConstants.{BLANK_LENGTH}
use Rattle.commit_journal.specs.Log.{frames_of, version_of, walk_of, payloads_of}
use Rattle.commit_journal.specs.Tails.{has_tail, tail_of}
use Rattle.sha2.specs.Sha256.{sha256}
use Rattle.entry_history.specs.Payloads.{IsHistory}
use Rattle.journal_verification.specs.Digests.{front_of}
use Rattle.journal_verification.specs.declared.verified.Verified.{Verified}

-- the closed gate at that place, where of so many bytes some stand behind it
abbrev pub torn_behind : ℕ → ℕ → Option ℕ
torn_behind place bytes = if has_tail place bytes then Some place else None

-- the place of the closed gate behind which bytes stand that are no part of the log; a blank log has none
abbrev pub torn_of : List ℕ → Option ℕ
torn_of log = if nat_le (length log) BLANK_LENGTH then None else torn_behind (walk_of log).place (length log)

-- A log is a journal, and this is what it has: its version, the entries of its history, its frames and its bytes, the digest of those in
-- front of the gate behind its frames, of a blank log of its first 16, and what stands behind its end.
pub record IsVerified (log : List ℕ) (v : Verified) : Type 0 where
  pub history : List Entry
  pub found : List Frame
  pub frames_are : frames_of log ≡ Ok found
  pub holds : IsHistory (version_of log) [] (payloads_of found) history
  pub version : v.version ≡ version_of log
  pub entries : v.entries ≡ length history
  pub frames : v.frames ≡ length found
  pub bytes : v.bytes ≡ length log
  pub digest : v.digest ≡ sha256 (front_of log found)
  pub torn : v.torn ≡ torn_of log
  pub tail : v.tail ≡ tail_of log
