-- A catalogue over a journal, as the clauses above it see it.
use Rattle.std.specs.Prelude.{◌≡◌, ℕ, true, false, List, ◌++◌, length, Option, Some, is_some}
use Rattle.marc_types.specs.declared.entry.Entry.{Entry}
use Rattle.marc_types.specs.declared.entry.CommitFault.{CommitFault}
use Rattle.outside.specs.Disk.{LeavesOnly}
use Rattle.outside.specs.declared.disk.Disk.{Ghosts}
use Rattle.entry_record.specs.History.{with_run}
use Rattle.entry_history.specs.Commits.{fitting, IsCommit}
use Rattle.entry_history.specs.declared.event.Event.{Event}
use Rattle.entry_history.specs.declared.reply.BatchReply.{BatchReply}
use Rattle.durable_catalogue.specs.Durables.{Opening, mark_of, marked, events, is_taken, opening}
use Rattle.durable_catalogue.specs.Images.{HoldsEntries, HasCommitOrNot}
use Rattle.durable_catalogue.specs.Logs.{HasHistory}
use Rattle.durable_catalogue.specs.declared.durable.Durable.{Durable}

-- what is committed, the frame that a device failed to take, and what the opening left
pub record DurableView : Type 0 where
  pub entries : List Entry
  pub mark : Option (List Entry)
  pub opened : Opening

-- what contracts see of a catalogue over a journal
abbrev pub durable_view : {D : Type 0} {disk : Ghosts D} → Durable D disk → DurableView
durable_view {D} {disk} d = record {
  entries = d.core.history;
  mark = mark_of d.mark;
  opened = opening d.core.limits d.run d.opened (disk.seen d.before.value) (disk.seen d.first.value.disk);
}

module _ {D : Type 0} {disk : Ghosts D} where
  -- the committed entries, and the mark where a device failed
  abbrev pub events_of : Durable D disk → List Event
  events_of d = events d.core.history (mark_of d.mark)

  -- what of a batch is committed next, in a run of its own: all of it, or what comes before the first entry that would pass a limit
  abbrev pub frame_for : Durable D disk → List Entry → List Entry
  frame_for d batch = fitting d.core.limits d.core.history (with_run d.run batch)

  -- a batch was answered so, and that was added to the history
  abbrev pub IsAnsweredBatch : Durable D disk → Durable D disk → List Entry → BatchReply → Type 0
  IsAnsweredBatch old new batch reply = (added : List Event) × (events_of new ≡ events_of old ++ added)
      × IsCommit (record { limits = old.core.limits; run = old.run }) (events_of old) batch reply added

  -- each image at each moment of a call has the history before, or that and all of a frame
  abbrev pub LeavesFrameOrNot : Durable D disk → Durable D disk → List Entry → List ℕ → Type 0
  LeavesFrameOrNot old new frame log = LeavesOnly (disk.seen old.journal.disk) (disk.seen new.journal.disk) (HasCommitOrNot old.core.history frame log)

  -- so it is of the commit of a batch, where no frame is in doubt
  abbrev pub LeavesBatchOrNot : Durable D disk → Durable D disk → List Entry → Type 0
  LeavesBatchOrNot old new batch = (log : List ℕ) → is_some old.mark ≡ false → (disk.seen old.journal.disk).content ≡ Some log
      → LeavesFrameOrNot old new (frame_for old batch) log

  -- each image now has all that is committed, and maybe all that is marked
  abbrev pub HoldsCommitted : Durable D disk → Type 0
  HoldsCommitted d = (c : List ℕ) → is_some (disk.seen d.before.value).content ≡ true → (disk.seen d.journal.disk).image c
      → HoldsEntries (length d.core.history) d.core.history (marked (mark_of d.mark)) c

  -- and where it takes the frame at hand, exactly the history
  abbrev pub HasCommitted : Durable D disk → Option CommitFault → Type 0
  HasCommitted d end = (log c : List ℕ) → is_taken end ≡ true → (disk.seen d.journal.disk).content ≡ Some log → (disk.seen d.journal.disk).image c → HasHistory d.core.history c
