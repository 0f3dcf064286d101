-- How loading ends, and what the journal keeps where a file isn't there.
use Rattle.std.proofs.Common.{◌≡◌, ◌≢◌, ◌∙◌, ℕ, ◌+◌, true, suc, zero, List, slice_get, Some, None, refl, sym, ap}
use Rattle.marc_types.specs.declared.entry.Entry.{Entry}
use Rattle.outside.specs.Room.{RoomView}
use Rattle.command_words.specs.declared.library.Library.{Library}
use Rattle.console_lines.specs.Ends.{TellsNoFault, out_unwritten, side_unwritten, pages_unwritten}
use Rattle.console_lines.specs.declared.end.End.{End}
use Rattle.console_lines.specs.declared.end.End.TheVariants.{Done, Refused, Unwritten, Told, BroughtInPart, Differ}
use Rattle.console_lines.specs.declared.end.Unwritten.TheVariants as unwritten
use Rattle.console_lines.specs.declared.fault.Fault.{Fault}
use Rattle.console_lines.specs.declared.fault.Fault.TheVariants as fault
use Rattle.file_entries.specs.declared.refused.RefusedItem.{RefusedItem}
use Rattle.loading_commands.specs.Outcomes.{IsFileMissing, HasSameHistory}
use Rattle.loading_commands.proofs.Kept.{loading_keeps}
use Rattle.loading_commands.specs.Merged.{AreJudged, NoFile, OneFile}
use Rattle.loading_commands.specs.Runs.{IsToldOfLoading, EndsLoad, EndsRun, IsMergedLoad, WhyNotLoad}
use Rattle.loading_commands.specs.Runs as runs

pub told_of_loading : (why : Fault) → why ≢ fault.Usage → why ≢ fault.OtherHistory → IsToldOfLoading why
told_of_loading fault.Usage no_usage no_other = absurd (no_usage refl)
told_of_loading fault.Input no_usage no_other = tt
told_of_loading fault.Device no_usage no_other = tt
told_of_loading (fault.NotAJournal place) no_usage no_other = tt
told_of_loading fault.Full no_usage no_other = tt
told_of_loading fault.Memory no_usage no_other = tt
told_of_loading fault.OldVersion no_usage no_other = tt
told_of_loading fault.OtherHistory no_usage no_other = absurd (no_other refl)

pub loading_untold : (end : End) → TellsNoFault end → (end ≢ out_unwritten) × (end ≢ side_unwritten) → end ≢ pages_unwritten → EndsLoad end
loading_untold Done untold others no_pages = tt
loading_untold Refused untold others no_pages = tt
loading_untold (Unwritten unwritten.Out) untold others no_pages = absurd (others.0 refl)
loading_untold (Unwritten unwritten.Side) untold others no_pages = absurd (others.1 refl)
loading_untold (Unwritten unwritten.Pages) untold others no_pages = absurd (no_pages refl)
loading_untold (Unwritten unwritten.Console) untold others no_pages = tt
loading_untold (Told why) untold others no_pages = absurd untold
loading_untold BroughtInPart untold others no_pages = absurd untold
loading_untold Differ untold others no_pages = absurd untold

pub running_untold : (end : End) → TellsNoFault end → end ≢ pages_unwritten → EndsRun end
running_untold Done untold no_pages = tt
running_untold Refused untold no_pages = tt
running_untold (Unwritten unwritten.Out) untold no_pages = tt
running_untold (Unwritten unwritten.Side) untold no_pages = tt
running_untold (Unwritten unwritten.Pages) untold no_pages = absurd (no_pages refl)
running_untold (Unwritten unwritten.Console) untold no_pages = tt
running_untold (Told why) untold no_pages = absurd untold
running_untold BroughtInPart untold no_pages = absurd untold
running_untold Differ untold no_pages = absurd untold

some_same : {A : Type 0} {x y : A} → Some x ≡ Some y → x ≡ y
some_same is = cc

-- each file that was judged is there
judged_there : (room : RoomView) (loader : ℕ) (libraries : List Library) (accepted : List (List Entry)) (refused : List (List RefusedItem))
    → AreJudged room loader libraries accepted refused → (index : ℕ) (library : Library) → slice_get libraries index ≡ Some library
    → room.file library.file ≡ None → ⊥
judged_there room _ _ _ _ (NoFile loader) index library named missing = cc
judged_there room _ _ _ _ (OneFile loader l bytes entries refused_items ls accepted refused there judged others) zero library named missing =
    let same : l ≡ library = some_same named in
    let both : Some bytes ≡ None = sym there ∙ (ap (λ (x : Library). room.file x.file) same ∙ missing) in cc
judged_there room _ _ _ _ (OneFile loader l bytes entries refused_items ls accepted refused there judged others) (suc index) library named missing =
    judged_there room (loader + 1) ls accepted refused others index library named missing

module _ (old new : RoomView) (journal : List ℕ) where
  merged_there : (libraries : List Library) → IsMergedLoad old new journal libraries → IsFileMissing libraries old → ⊥
  merged_there libraries m gone =
      judged_there old 0 libraries m.accepted m.refused m.history.judged gone.index gone.library gone.named gone.missing

  pub unloaded_keeps : (libraries : List Library) (why : Fault) → old.tells ≡ true → WhyNotLoad old new journal libraries why → IsFileMissing libraries old
      → HasSameHistory old new journal
  unloaded_keeps libraries why tells (runs.NotLoaded so) gone = loading_keeps old new journal libraries why tells so gone
  unloaded_keeps libraries why tells (runs.NoMemory is merged) gone = absurd (merged_there libraries merged gone)
