-- What the commit of a batch answers and adds to the history. The rules are this project's own.
use Rattle.std.specs.Prelude.{◌≡◌, ◌≢◌, ℕ, true, false, List, [], ◌∷◌, ◌++◌, Option, Some, None, if◌then◌else◌}
use Rattle.marc_types.specs.declared.entry.Entry.{Entry}
use Rattle.marc_types.specs.declared.entry.Limits.{Limits}
use Rattle.marc_types.specs.declared.entry.Receipt.{Receipt}
use Rattle.marc_types.specs.declared.entry.CommitFault.{CommitFault}
use Rattle.marc_types.specs.declared.entry.CommitFault.TheVariants.{Full, NoMemory, DeviceFault, Broken}
use Rattle.entry_record.specs.History.{passes_limits, with_run}
use Rattle.catalogue_rules.specs.Receipts.{receipts_behind}
use Rattle.entry_history.specs.Events.{entries_of, is_broken, committed}
use Rattle.entry_history.specs.declared.event.Event.{Event}
use Rattle.entry_history.specs.declared.event.Event.TheVariants.{Broke}
use Rattle.entry_history.specs.declared.reply.BatchReply.{BatchReply}

-- those of some entries that come before the first that passes a limit
unfoldable pub fitting : Limits → List Entry → List Entry → List Entry
fitting limits before [] = []
fitting limits before (e ∷ es) = if passes_limits limits before e then [] else e ∷ fitting limits (before ++ e ∷ []) es

-- what an object over a journal begins with, and keeps: its limits, and the run of all that it commits
pub record Origin : Type 0 where
  pub limits : Limits
  pub run : ℕ

-- the entries of the frame that a batch is given
abbrev pub frame_of : Origin → List Event → List Entry → List Entry
frame_of origin before batch = fitting origin.limits (entries_of before) (with_run origin.run batch)

-- all of the frame is committed, and each of its entries has its receipt
pub record CommitsFrame (before : List Event) (frame : List Entry) (receipts : List Receipt) (added : List Event) : Type 0 where
  pub whole : is_broken before ≡ false
  pub receipts_are : receipts ≡ receipts_behind (entries_of before) frame
  pub added_are : added ≡ committed frame

-- no entry is committed, and there is no receipt
pub record CommitsNothing (receipts : List Receipt) (added marks : List Event) : Type 0 where
  pub receipts_are : receipts ≡ []
  pub added_are : added ≡ marks

-- By the end: none, where the frame holds the whole batch; Full, where it doesn't; Broken, where a device failed before; want
-- of memory, which adds nothing; and a failing device, where the frame has an entry, which adds a mark with the frame's entries.
abbrev pub IsEnd : Origin → List Event → List Entry → List Receipt → List Event → Option CommitFault → Type 0
IsEnd origin before batch receipts added None =
    (frame_of origin before batch ≡ with_run origin.run batch) × CommitsFrame before (frame_of origin before batch) receipts added
IsEnd origin before batch receipts added (Some Full) =
    (frame_of origin before batch ≢ with_run origin.run batch) × CommitsFrame before (frame_of origin before batch) receipts added
IsEnd origin before batch receipts added (Some Broken) =
    (is_broken before ≡ true) × CommitsNothing receipts added []
IsEnd origin before batch receipts added (Some NoMemory) =
    (is_broken before ≡ false) × CommitsNothing receipts added []
IsEnd origin before batch receipts added (Some DeviceFault) =
    (is_broken before ≡ false) × (frame_of origin before batch ≢ [])
    × CommitsNothing receipts added (Broke (frame_of origin before batch) ∷ [])

-- the commit of a batch behind a history answers so, and adds these
abbrev pub IsCommit : Origin → List Event → List Entry → BatchReply → List Event → Type 0
IsCommit origin before batch reply added = IsEnd origin before batch reply.receipts added reply.end
