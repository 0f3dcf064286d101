-- What is found of a journal, before anything is opened to be written.
use Rattle.std.specs.Prelude.{◌≡◌, ℕ, List, length}
use Rattle.marc_types.specs.declared.entry.Entry.{Entry}
use Rattle.marc_types.specs.declared.entry.Limits.{Limits}
use Rattle.entry_record.specs.History.{IsWithin}
use Rattle.console_lines.specs.declared.fault.Fault.{Fault}
use Rattle.console_lines.specs.declared.fault.Fault.TheVariants.{NotAJournal, Full, Memory}
use Rattle.sound_frames.specs.declared.damage.Damage.{Damage}
use Rattle.sound_frames.specs.Sound.{SoundPart, IsSoundOf, IsNothing}
use Rattle.salvage_command.specs.Told.{salvaged_lines}

-- This is sound of a log, which has so many bytes.
pub record IsReadOf (log : List ℕ) (entries : List Entry) (damages : List Damage) (end bytes : ℕ) : Type 0 where
  pub sound : IsSoundOf log (record { entries = entries; damages = damages; end = end })
  pub counted : bytes ≡ length log

-- something is sound, and it is within the limits
pub record IsWorth (limits : Limits) (all : SoundPart) : Type 0 where
  pub something : (place : ℕ) → IsNothing all place → ⊥
  pub within : IsWithin limits all.entries

-- These entries are sound of the bytes, and worth to be brought; this is to be told.
pub record IsFoundSound (limits : Limits) (log : List ℕ) (entries : List Entry) (text : List ℕ) : Type 0 where
  pub all : SoundPart
  pub is : IsSoundOf log all
  pub entries_are : entries ≡ all.entries
  pub worth : IsWorth limits all
  pub lines : text ≡ salvaged_lines log all

-- nothing is sound of them, or more than the limits; or memory ran out
pub data IsUnfound (limits : Limits) (log : List ℕ) (why : Fault) : Type 0 where
  NoMemory : why ≡ Memory → IsUnfound limits log why
  Nothing : (all : SoundPart) (place : ℕ) → IsSoundOf log all → why ≡ NotAJournal place → IsNothing all place → IsUnfound limits log why
  TooMuch : (all : SoundPart) → IsSoundOf log all → why ≡ Full → (IsWithin limits all.entries → ⊥) → IsUnfound limits log why
