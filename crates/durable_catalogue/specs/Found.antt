-- A log that was begun, and what is found of it. The rules are this project's own.
use Rattle.std.specs.Prelude.{◌≡◌, ◌≤◌, List, []}
use Rattle.marc_types.specs.declared.entry.Entry.{Entry}
use Rattle.marc_types.specs.declared.entry.Limits.{Limits}
use Rattle.outside.specs.Disk.{Unchanged}
use Rattle.outside.specs.declared.disk.Disk.{Ghosts}
use Rattle.commit_journal.specs.declared.begun.BegunLog.{BegunLog}
use Rattle.commit_journal.specs.declared.found.FoundLog.{FoundLog}
use Rattle.commit_journal.specs.declared.frame.Frame.{Frame}
use Rattle.commit_journal.specs.declared.journal.Journal.{Journal}
use Rattle.commit_journal.specs.Begun.{IsBegun}
use Rattle.commit_journal.specs.Journal.{IsFound}
use Rattle.commit_journal.specs.Log.{payloads_of}
use Rattle.commit_journal.specs.Reading.{IsReadFrom}
use Rattle.commit_journal.specs.Versions.{number_of}
use Rattle.entry_history.specs.Payloads.{IsHistory}
use Rattle.durable_catalogue.specs.declared.fault.OpenFault.{OpenFault}
use Rattle.durable_catalogue.specs.Opened.{IsTakenLog, IsRefusedDisk}
use Rattle.durable_catalogue.specs.Openings.{IsUnloaded}

module _ {D : Type 0} {disk : Ghosts D} where
  -- A log that was begun is found, its disk was only read, and this was made of the history that its frames hold.
  pub record Finds (Made : (List Entry → Type 0) → Type 0) (begun : BegunLog D disk) (log : FoundLog D disk) : Type 0 where
    pub frames : List Frame
    pub read : IsReadFrom frames log.place (number_of log.version) (disk.seen log.disk)
    pub made : Made (IsHistory (number_of log.version) [] (payloads_of frames))
    pub unchanged : Unchanged (disk.seen begun.disk) (disk.seen log.disk)
    pub later : (disk.seen begun.disk).faults ≤ (disk.seen log.disk).faults
    pub version_is : log.version ≡ begun.version

  -- on whatever disk it was begun, it is refused, and is given back as this disk
  abbrev pub RefusesBegun : BegunLog D disk → D → OpenFault → Type 0
  RefusesBegun begun now why = (before : D) (limits : Limits) → IsBegun (disk.seen before) (disk.seen begun.disk) → IsRefusedDisk limits (disk.seen before) (disk.seen now) why

  -- and where it depends on these limits
  abbrev pub RefusesWithin : Limits → BegunLog D disk → D → OpenFault → Type 0
  RefusesWithin limits begun now why = (before : D) → IsBegun (disk.seen before) (disk.seen begun.disk) → IsRefusedDisk limits (disk.seen before) (disk.seen now) why

  -- on whatever disk a log of some frames was found, it is taken as this journal
  abbrev pub TakesFound : FoundLog D disk → Journal D disk → Type 0
  TakesFound log journal = (before : D) (frames : List Frame) → IsFound frames log.place (number_of log.version) (disk.seen before) (disk.seen log.disk)
      → IsTakenLog frames journal.place (number_of journal.version) (disk.seen before) (disk.seen journal.disk)

  -- on whatever disk it was found, it is refused, and is given back as this disk
  abbrev pub RefusesFound : FoundLog D disk → D → OpenFault → Type 0
  RefusesFound log now why = (before : D) (frames : List Frame) (limits : Limits) → IsFound frames log.place (number_of log.version) (disk.seen before) (disk.seen log.disk)
      → IsRefusedDisk limits (disk.seen before) (disk.seen now) why

  -- and where this is why its frames aren't loaded
  abbrev pub RefusesUnloaded : FoundLog D disk → OpenFault → D → OpenFault → Type 0
  RefusesUnloaded log unloaded now why = (before : D) (frames : List Frame) (limits : Limits) → IsFound frames log.place (number_of log.version) (disk.seen before) (disk.seen log.disk)
      → IsUnloaded (number_of log.version) frames limits unloaded → IsRefusedDisk limits (disk.seen before) (disk.seen now) why
