-- A log that was begun on a disk, and found.
use Rattle.std.proofs.Common.{◌≡◌, ℕ, List, length, Some}
use Rattle.marc_types.specs.declared.entry.Entry.{Entry}
use Rattle.outside.specs.declared.disk.Disk.{Ghosts}
use Rattle.commit_journal.specs.declared.begun.BegunLog.{BegunLog}
use Rattle.commit_journal.specs.declared.found.FoundLog.{FoundLog}
use Rattle.commit_journal.specs.Begun.{IsBegun}
use Rattle.commit_journal.specs.Journal.{IsFound}
use Rattle.commit_journal.specs.Versions.{number_of}
use Rattle.commit_journal.proofs.Beginnings.{found_begun}
use Rattle.durable_catalogue.specs.Found.{Finds}

module _ {D : Type 0} {disk : Ghosts D} where
  pub found_since : {Made : (List Entry → Type 0) → Type 0} (begun : BegunLog D disk) (log : FoundLog D disk) (f : Finds Made begun log) (before : D)
      → IsBegun (disk.seen before) (disk.seen begun.disk) → ((b : List ℕ) → (disk.seen log.disk).content ≡ Some b → length b ≡ (disk.seen log.disk).len)
      → IsFound f.frames log.place (number_of log.version) (disk.seen before) (disk.seen log.disk)
  found_since begun log f before is sized =
      found_begun (disk.seen before) (disk.seen begun.disk) (disk.seen log.disk) f.unchanged is f.frames log.place (number_of log.version) f.read sized f.later
