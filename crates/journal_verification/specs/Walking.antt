-- What is found of a journal as its bytes come.
use Rattle.std.specs.Prelude.{◌≡◌, ℕ, ◌+◌, ◌≤◌, true, false, List, [], ◌++◌, length, take, drop, Option, Some, IsSome, IfSome}
use Rattle.sha2.specs.Sha256.{sha256}
use Rattle.sha2.specs.Hashers.{Holds256}
use Rattle.sha2.specs.declared.Sha256.{Sha256}
use Rattle.marc_types.specs.declared.entry.Entry.{Entry}
use Rattle.commit_journal.specs.declared.frame.Frame.{Frame}
use Rattle.commit_journal.specs.Log.{Walk, walk, closed_at, behind, payloads_of}
use Rattle.entry_history.specs.Frames.{IsBadFrame}
use Rattle.entry_history.specs.Payloads.{IsHistory}
use Rattle.entry_history.specs.Readers.{HasExtent}
use Rattle.entry_history.specs.declared.extent.Extent.{Extent}
use Rattle.journal_verification.specs.Coming.{Comes}
use Rattle.journal_verification.specs.Digests.{frames_length}
use Rattle.journal_verification.specs.declared.walking.Found.{Found}

-- a walk that leads to no closed gate, but to that place
pub record IsLostAt (place : ℕ) (walk : Walk) : Type 0 where
  pub at : walk.place ≡ place
  pub lost : walk.is_closed ≡ false

-- Some first ones of frames, none or all of them too, have so many entries, and that is the digest of a header and of the bytes up to the
-- gate behind them.
pub record HasFrontAt (version wanted : ℕ) (header bytes : List ℕ) (frames : List Frame) (digest : List ℕ) : Type 0 where
  pub first : List Frame
  pub more : List Frame
  pub entries : List Entry
  pub split : frames ≡ first ++ more
  pub holds : IsHistory version [] (payloads_of first) entries
  pub count_is : length entries ≡ wanted
  pub digest_is : digest ≡ sha256 (header ++ take (frames_length first) bytes)

-- the digest at the gate behind so many entries; none where no frame ended there
pub record IsDigestAt (version wanted : ℕ) (header bytes : List ℕ) (frames : List Frame) (digest : Option (List ℕ)) : Type 0 where
  pub there : IfSome digest (HasFrontAt version wanted header bytes frames)
  pub only : (front : List ℕ) → HasFrontAt version wanted header bytes frames front → digest ≡ Some front

-- how far digesting went: from which state of the hasher on, which front is wanted, what the hasher is now, and the digest that is wanted
pub record Digesting : Type 0 where
  pub started : Sha256
  pub wanted : ℕ
  pub hasher : Sha256
  pub front : Option (List ℕ)

-- behind a header these frames, of so many entries, were digested
pub record AreDigested (version : ℕ) (d : Digesting) (header bytes : List ℕ) (frames : List Frame) (count : ℕ) : Type 0 where
  pub hashed : Holds256 d.hasher (header ++ take (frames_length frames) bytes)
  pub front : IsDigestAt version d.wanted header bytes frames d.front
  pub reached : IsSome d.front → d.wanted ≤ count

-- From a place on the bytes lead over these frames to a gate at another place, behind which these bytes are still to come.
pub record WalksOn (from : ℕ) (bytes : List ℕ) (frames : List Frame) (place : ℕ) (window : List ℕ) (left : Option (List ℕ)) : Type 0 where
  pub now : List ℕ
  pub comes : Comes window left now
  pub size : place + length now ≡ from + length bytes
  pub rest : now ≡ drop (frames_length frames) bytes
  pub walked : walk from 0 bytes ≡ behind frames (walk place 0 now)

-- the same, where the frames are so many, hold entries that go so far, and were digested
pub record HasTaken (version from : ℕ) (d : Digesting) (bytes : List ℕ) (extent : Extent) (count place : ℕ) (window : List ℕ)
    (left : Option (List ℕ)) : Type 0 where
  pub frames : List Frame
  pub entries : List Entry
  pub on : WalksOn from bytes frames place window left
  pub holds : IsHistory version [] (payloads_of frames) entries
  pub count_is : length frames ≡ count
  pub extent_is : HasExtent entries extent
  pub digested : (header : List ℕ) → Holds256 d.started header → AreDigested version d header bytes frames extent.count

-- behind a header frames have these digests: of them all, and of their front of so many entries
pub record HaveDigests (version wanted : ℕ) (header bytes : List ℕ) (frames : List Frame) (found : Found) : Type 0 where
  pub whole : found.digest ≡ sha256 (header ++ take (frames_length frames) bytes)
  pub front : IsDigestAt version wanted header bytes frames found.front

-- the bytes lead over frames, so many with so many entries and of such digests, to a closed gate at that place
pub record IsRead (version from wanted : ℕ) (started : Sha256) (bytes : List ℕ) (found : Found) (place : ℕ) : Type 0 where
  pub frames : List Frame
  pub history : List Entry
  pub walked : walk from 0 bytes ≡ behind frames (closed_at place)
  pub holds : IsHistory version [] (payloads_of frames) history
  pub count_is : length frames ≡ found.frames
  pub entries_is : length history ≡ found.entries
  pub digests : (header : List ℕ) → Holds256 started header → HaveDigests version wanted header bytes frames found

-- the bytes lead to no closed gate but to that place, or that is the gate of the first payload that isn't valid
pub data IsUnread (version : ℕ) (walk : Walk) (place : ℕ) : Type 0 where
  NoGate : IsLostAt place walk → IsUnread version walk place
  NoPayload : walk.is_closed ≡ true → IsBadFrame version walk.frames place → IsUnread version walk place
