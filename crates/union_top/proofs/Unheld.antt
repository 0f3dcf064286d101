-- The command `reading holdings`: how it ends where it fits, and with which status where the journal can't be used.
use Rattle.std.proofs.Common.{◌≡◌, ℕ, true, List, Option, Some, subst}
use Rattle.std.specs.Prelude.{IsSomeAnd}
use Rattle.command_words.specs.declared.library.Library.{Library}
use Rattle.console_lines.specs.Ends.{Outcome, end_status, out_unwritten, side_unwritten, console_unwritten}
use Rattle.console_lines.specs.Faults.{fault_status}
use Rattle.console_lines.specs.declared.end.End.{End}
use Rattle.console_lines.specs.declared.end.End.TheVariants.{Unwritten, Told, BroughtInPart, Differ}
use Rattle.console_lines.specs.declared.end.Unwritten.TheVariants.{Pages}
use Rattle.console_lines.specs.declared.fault.Fault.TheVariants as fault
use Rattle.durable_catalogue.specs.Openings.{IsUnopened}
use Rattle.durable_catalogue.specs.declared.fault.OpenFault.{OpenFault}
use Rattle.durable_catalogue.specs.declared.fault.OpenFault.TheVariants as opening
use Rattle.journal_files.specs.Faults.{fault_of_opening}
use Rattle.journal_files.specs.Journals.{journal_limits, HasFittingHistory}
use Rattle.reading_commands.specs.Unheld.{EndsUnheld, AttachesUnheld}
use Rattle.union_top.specs.Fits.{FitsLook}
use Rattle.union_top.specs.Misfits.{IsStatus}
use Rattle.union_top.proofs.Fitting.{EndsWell, by_end}
use Rattle.union_top.proofs.Looking.{only_memory, untaken_status, all_untold}
use Rattle.union_top.proofs.Misfits.{by_told}

module _ (o : Outcome) (journal out rest : List ℕ) (library : Library) (code : Option (List ℕ)) (a : AttachesUnheld journal out rest library code o)
    (no_out : o.end ≡ out_unwritten → ⊥) (no_rest : o.end ≡ side_unwritten → ⊥) (no_console : o.end ≡ console_unwritten → ⊥)
    (no_input : o.end ≡ Told fault.Input → ⊥) where
  ends_so : (end : End) → o.end ≡ end → EndsUnheld end
  ends_so end is = subst EndsUnheld is a.ends

  pub unheld_well : FitsLook o.old journal → EndsWell o.end
  unheld_well f =
      by_end o.end no_out (no_rest, ends_so (Unwritten Pages)) no_console (ends_so BroughtInPart, ends_so Differ)
      (only_memory o journal a.so (ends_so (Told fault.OldVersion)) no_input f)

  pub unheld_status : (status : ℕ) (bytes : List ℕ) → o.old.tells ≡ true → o.old.file journal ≡ Some bytes → (HasFittingHistory o.old bytes → ⊥)
      → ((reason : OpenFault) → IsUnopened (journal_limits o.old) bytes reason → (reason ≡ opening.OldVersion → ⊥) → (fault_of_opening reason ≡ fault.Device → ⊥)
      → IsStatus status (fault_status (fault_of_opening reason))) → IsStatus status (end_status o.end)
  unheld_status status bytes tells there unfit opens =
      by_told status o.end (λ good. unfit (subst (λ file. IsSomeAnd file (HasFittingHistory o.old)) there (a.history (all_untold o.end good) tells))) no_out
      (no_rest, ends_so (Unwritten Pages)) no_console (ends_so BroughtInPart, ends_so Differ)
      (untaken_status o journal a.so (ends_so (Told fault.OldVersion)) no_input status bytes tells there opens)
