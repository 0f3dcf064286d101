-- What is known of the frames of a log of checkpoints that are taken one by one.
use Rattle.std.specs.Prelude.{◌≡◌, List}
use Rattle.outside.specs.Disk.{DiskView}
use Rattle.outside.specs.declared.disk.Disk.{Ghosts}
use Rattle.commit_journal.specs.declared.found.FoundLog.{FoundLog}
use Rattle.commit_journal.specs.declared.frame.Frame.{Frame}
use Rattle.commit_journal.specs.Journal.{IsFound}
use Rattle.commit_journal.specs.Log.{payloads_of}
use Rattle.commit_journal.specs.Versions.{number_of}
use Rattle.checkpoint.specs.Parts.{ArePartsOf}
use Rattle.checkpoint.specs.Points.{read_all, IsBadFrame}
use Rattle.checkpoint.specs.declared.part.Part.{Part}
use Rattle.checkpoint.specs.declared.point.SoFar.{SoFar}
use Rattle.checkpoint_commands.specs.declared.taking.Known.{Known}
use Rattle.checkpoint_commands.specs.declared.taking.Known.TheVariants.{Parts, BadAt}

-- frames are parts of checkpoints, and this is known behind them all
pub record AreRead (frames : List Frame) (so_far : SoFar) : Type 0 where
  pub parts : List Part
  pub are : ArePartsOf (payloads_of frames) parts
  pub so_far_is : so_far ≡ read_all parts

-- all frames are parts, or the first that is none has its gate there
abbrev pub IsKnown : List Frame → Known → Type 0
IsKnown frames (Parts so_far) = AreRead frames so_far
IsKnown frames (BadAt gate) = IsBadFrame frames gate

-- A log of some frames was found on a disk that was this before, and that is known of them.
pub record FindsPoints {D : Type 0} {disk : Ghosts D} (known : Known) (log : FoundLog D disk) (old : DiskView) : Type 0 where
  pub frames : List Frame
  pub known_is : IsKnown frames known
  pub found : IsFound frames log.place (number_of log.version) old (disk.seen log.disk)
