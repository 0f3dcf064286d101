-- What the turns of a loader commit, and what its counts come to. The rules are this project's own.
use Rattle.std.specs.Prelude.{◌≡◌, ◌≢◌, ℕ, ◌+◌, ◌<◌, ◌≤◌, true, List, [], ◌∷◌, ◌++◌, length, Option, Some, None, if◌then◌else◌}
use Rattle.marc_types.specs.declared.entry.Entry.{Entry}
use Rattle.marc_types.specs.declared.entry.Limits.{Limits}
use Rattle.marc_types.specs.declared.entry.Receipt.{Receipt}
use Rattle.marc_types.specs.Limits.{most_entries}
use Rattle.entry_record.specs.History.{in_run, with_run, passes_limits}
use Rattle.catalogue_rules.specs.Receipts.{receipts_behind}
use Rattle.entry_history.specs.Commits.{Origin, IsCommit}
use Rattle.entry_history.specs.Events.{entries_of, committed_entries, committed, is_broken}
use Rattle.entry_history.specs.declared.event.Event.{Event}
use Rattle.entry_history.specs.declared.event.Event.TheVariants.{Broke}
use Rattle.entry_history.specs.declared.reply.BatchReply.{BatchReply}
use Rattle.catalogue_lock.specs.declared.view.Numbered.{Numbered}
use Rattle.catalogue_lock.specs.History.{items, items_by, is_same_number}
use Rattle.catalogue_lock.specs.Passes.{Lock, Pass, IsPassOf, HasSeenItsOwn}
use Rattle.marc_types.specs.Sums.{with_receipts, AreFew}
use Rattle.loader_workers.specs.declared.counts.Counts.{Counts}
use Rattle.loader_workers.specs.declared.file_end.FileEnd.{FileEnd}
use Rattle.loader_workers.specs.declared.file_end.FileEnd.TheVariants.{Done, ReadFault, Full, DeviceFault, NoMemory}

-- what an object replies to a batch
abbrev pub Replies : Type 1
Replies = List Event → List Entry → BatchReply → List Event → Type 0

-- the object commits batches as a catalogue does that began with this origin
abbrev pub CommitsAs : Replies → Origin → Type 0
CommitsAs replies origin = (before : List Event) (batch : List Entry) (reply : BatchReply) (added : List Event)
    → replies before batch reply added → IsCommit origin before batch reply added

-- the object is such a catalogue, whose limits aren't above the most
pub record AnswersAsCatalogue (replies : Replies) : Type 0 where
  pub origin : Origin
  pub commits : CommitsAs replies origin
  pub few : origin.limits.entries ≤ most_entries

-- and it takes each batch with an entry
pub record IsCatalogue (Takes : List Entry → Type 0) (replies : Replies) : Type 0 where
  pub takes : (batch : List Entry) → batch ≢ [] → Takes batch
  pub answers : AnswersAsCatalogue replies

-- the entry of a history's item, where a pass of this number added it and it is no mark
abbrev pub entries_at : ℕ → Numbered Event → List Entry
entries_at number e = if is_same_number (Some number) e.by then committed_entries e.item else []

-- the receipts of one pass's entries in the later part of a history, each at its own place; `before` are all entries of the part before
unfoldable pub receipts_by : ℕ → List Entry → List (Numbered Event) → List Receipt
receipts_by number before [] = []
receipts_by number before (e ∷ later) = receipts_behind before (entries_at number e) ++ receipts_by number (before ++ committed_entries e.item) later

-- What the turns of a pass did: they committed these entries, in the origin's run, and added these marks behind them. Their
-- receipts, each at its own place in the history that the pass has seen, were counted.
pub record HasCommitted {O : Type 0} (origin : Origin) (entries : List Entry) (marks : List Event) (counted now : Counts) (old new : Pass O Event) : Type 0 where
  pub added : new.added ≡ old.added ++ (committed (with_run origin.run entries) ++ marks)
  pub later : List (Numbered Event)
  pub seen : new.seen ≡ old.seen ++ later
  pub own : items_by (Some old.number) later ≡ committed (with_run origin.run entries) ++ marks
  pub sums : now.sums ≡ with_receipts counted.sums (receipts_by old.number (entries_of (items old.seen)) later)
  pub accepted : now.accepted ≡ counted.accepted + length entries

-- the pass is the same but for its turns, and for what it added and has seen
pub record IsSamePass {O : Type 0} (old new : Pass O Event) : Type 0 where
  pub lock : new.lock ≡ old.lock
  pub opened : new.opened ≡ old.opened
  pub number : new.number ≡ old.number

-- the pass is one of this lock's, has seen its own items, and has made fewer than so many turns
pub record CanTurn {O : Type 0} (lock : Lock O) (pass : Pass O Event) (most : ℕ) : Type 0 where
  pub own : IsPassOf lock pass
  pub seen : HasSeenItsOwn pass
  pub room : pass.turns < most

-- the pass made at most so many turns, and can be used again
pub record HasTurned {O : Type 0} (old new : Pass O Event) (most : ℕ) : Type 0 where
  pub same : IsSamePass old new
  pub seen : HasSeenItsOwn new
  pub turns : new.turns ≤ old.turns + most

-- no mark, or one whose list is the next of the entries that are left
pub data IsMarkOf (run : ℕ) (rest : List Entry) (marks : List Event) : Type 0 where
  NoMark : marks ≡ [] → IsMarkOf run rest marks
  OneMark : (next more : List Entry) → rest ≡ next ++ more → next ≢ [] → marks ≡ Broke (with_run run next) ∷ [] → IsMarkOf run rest marks

-- the next of the entries that are left would pass a limit behind this history
pub record IsFullBehind (limits : Limits) (history : List Entry) (run : ℕ) (rest : List Entry) : Type 0 where
  pub next : Entry
  pub more : List Entry
  pub rest_is : rest ≡ next ∷ more
  pub passes : passes_limits limits history (in_run run next) ≡ true

-- What is left of the accepted entries at an end, which marks were added, and what stands in the history that the pass has seen.
-- Done and ReadFault: all are committed. Full: the next passes a limit. DeviceFault: a device failed, in this loader's turn or in
-- one before. Marks come with DeviceFault alone.
abbrev pub IsEndOf : Origin → FileEnd → List Entry → List Event → List Event → Type 0
IsEndOf origin Done rest marks history = (rest ≡ []) × (marks ≡ [])
IsEndOf origin ReadFault rest marks history = (rest ≡ []) × (marks ≡ [])
IsEndOf origin Full rest marks history = IsFullBehind origin.limits (entries_of history) origin.run rest × (marks ≡ [])
IsEndOf origin DeviceFault rest marks history = (is_broken history ≡ true) × IsMarkOf origin.run rest marks
IsEndOf origin NoMemory rest marks history = marks ≡ []

-- after a batch that was committed whole the file goes on, and else it ends by the commit's fault
abbrev pub IsEndOfBatch : Origin → Option FileEnd → List Entry → List Event → List Event → Type 0
IsEndOfBatch origin None rest marks history = (rest ≡ []) × (marks ≡ [])
IsEndOfBatch origin (Some Done) rest marks history = ⊥
IsEndOfBatch origin (Some ReadFault) rest marks history = ⊥
IsEndOfBatch origin (Some Full) rest marks history = IsEndOf origin Full rest marks history
IsEndOfBatch origin (Some DeviceFault) rest marks history = IsEndOf origin DeviceFault rest marks history
IsEndOfBatch origin (Some NoMemory) rest marks history = IsEndOf origin NoMemory rest marks history

-- a front of the batch was committed, and the file goes on or ends so
pub record CommitsFront {O : Type 0} (origin : Origin) (batch : List Entry) (end : Option FileEnd) (counted now : Counts) (old new : Pass O Event) : Type 0 where
  pub front : List Entry
  pub rest : List Entry
  pub marks : List Event
  pub split : batch ≡ front ++ rest
  pub committed_is : HasCommitted origin front marks counted now old new
  pub ends : IsEndOfBatch origin end rest marks (items new.seen)

-- what keeps the counts within 64 bits: they count few entries of the history, and the sums are over as many receipts
pub record IsCounted (c : Counts) (seen : List (Numbered Event)) : Type 0 where
  pub entries : c.accepted ≤ length (entries_of (items seen))
  pub few : c.accepted ≤ most_entries
  pub sums : AreFew c.sums c.accepted
