-- The digest of a journal's front. SHA-256 is that of FIPS 180-4, and what is digested is this project's own.
use Rattle.std.specs.Prelude.{◌≡◌, ℕ, ◌+◌, List, [], ◌++◌, length, take, codes, Option, Some, IfSome, Ok}
use Rattle.std.specs.Fmt.{decimal}
use Rattle.std.specs.List.{sum_by}
use Rattle.sha2.specs.Sha256.{sha256}
use Rattle.hex.specs.Hex.{encode_lower, decode_sized}
use Rattle.marc_types.specs.declared.entry.Entry.{Entry}
use Rattle.commit_journal.specs.declared.frame.Frame.{Frame}
use Rattle.commit_journal.specs.declared.format.TheConstants.{FIRST_GATE, HEAD_BYTES}
use Rattle.commit_journal.specs.Log.{frames_of, version_of, payloads_of}
use Rattle.entry_history.specs.Payloads.{IsHistory}

-- how many bytes frames have, each of a gate, a payload's length and the payload
abbrev pub frames_length : List Frame → ℕ
frames_length frames = sum_by (λ f. HEAD_BYTES + length f.payload) frames

-- the bytes of a log in front of the gate behind its first frames
abbrev pub front_of : List ℕ → List Frame → List ℕ
front_of log frames = take (FIRST_GATE + frames_length frames) log

-- Some first frames of a log, none or all of them too, have so many entries, and that is the digest of the bytes in front of the gate
-- behind them.
pub record HasFront (log : List ℕ) (count : ℕ) (digest : List ℕ) : Type 0 where
  pub frames : List Frame
  pub more : List Frame
  pub entries : List Entry
  pub frames_are : frames_of log ≡ Ok (frames ++ more)
  pub holds : IsHistory (version_of log) [] (payloads_of frames) entries
  pub count_is : length entries ≡ count
  pub digest_is : digest ≡ sha256 (front_of log frames)

-- the digest of the front of so many entries; none where no frame ends behind so many
pub record IsFrontDigest (log : List ℕ) (count : ℕ) (digest : Option (List ℕ)) : Type 0 where
  pub there : IfSome digest (HasFront log count)
  pub only : (front : List ℕ) → HasFront log count front → digest ≡ Some front

-- these are 64 hexadecimal digits, of either case, of the digest of the front of so many entries
pub record IsDigestOf (count : ℕ) (digits log : List ℕ) : Type 0 where
  pub digest : List ℕ
  pub front : HasFront log count digest
  pub digits_are : decode_sized digits 32 ≡ Ok digest

-- the line of the digest of so many entries
unfoldable pub digest_line : List ℕ → ℕ → List ℕ
digest_line digest count = codes "sha256 " ++ encode_lower digest ++ codes " of " ++ decimal count ++ codes " entries\n"
