-- What a crash leaves of a catalogue's log. The rules are this project's own.
use Rattle.std.specs.Prelude.{◌≡◌, ◌⊎◌, ℕ, ◌+◌, ◌<◌, ◌≤◌, List, [], ◌∷◌, ◌++◌, length, take}
use Rattle.marc_types.specs.declared.entry.Entry.{Entry}
use Rattle.commit_journal.specs.declared.format.TheConstants.{LENGTH_BYTES}
use Rattle.commit_journal.specs.Log.{version_of}
use Rattle.entry_history.specs.Format.{payload_of}
use Rattle.entry_history.specs.Batches.{batch_payload}
use Rattle.durable_catalogue.specs.Logs.{IsLogOf}

-- An image of version 2 of at least so many of the entries, in their order. If it has more than all of them, it has all that are marked.
pub record Reaches (least : ℕ) (entries marked : List Entry) (image : List ℕ) : Type 0 where
  pub count : ℕ
  pub newest : version_of image ≡ 2
  pub has : IsLogOf (take count (entries ++ marked)) image
  pub at_least : least ≤ count
  pub within : count ≤ length (entries ++ marked)
  pub whole : length entries < count → count ≡ length (entries ++ marked)

-- an image of version 2 of at least so many of the entries, in their order; or of all, and those of the mark
abbrev pub HoldsEntries : ℕ → List Entry → List Entry → List ℕ → Type 0
HoldsEntries least entries marked image = ∥ Reaches least entries marked image ∥₁

-- what the commit of a frame may leave: the history before, or that and all of the frame, of version 2 and in no more bytes than the
-- log with the frame and one gate
pub record HasCommitOrNot (before frame : List Entry) (log image : List ℕ) : Type 0 where
  pub history : ∥ IsLogOf before image ⊎ IsLogOf (before ++ frame) image ∥₁
  pub newest : version_of image ≡ 2
  pub no_longer : length image ≤ length log + LENGTH_BYTES + length (batch_payload frame) + 1

-- how many bytes a frame for this entry alone has: the length of its payload, the payload, and a gate
abbrev pub framed_length : Entry → ℕ
framed_length e = LENGTH_BYTES + length (payload_of e) + 1

-- and a frame for each of these
abbrev pub framed_lengths : List Entry → ℕ
framed_lengths [] = 0
framed_lengths (e ∷ es) = framed_length e + framed_lengths es
