-- The command that lists what a cataloguer works from of a journal which it doesn't hold: how it ends where it fits, and with which status
-- where the journal can't be used.
use Rattle.std.proofs.Common.{◌≡◌, ℕ, true, List, Option, Some, subst}
use Rattle.std.specs.Prelude.{IsSomeAnd}
use Rattle.command_words.specs.Command.{ReadWorklist}
use Rattle.console_lines.specs.Ends.{Outcome, end_status}
use Rattle.console_lines.specs.Faults.{fault_status}
use Rattle.console_lines.specs.declared.end.End.{End}
use Rattle.console_lines.specs.declared.end.End.TheVariants.{Told}
use Rattle.console_lines.specs.declared.fault.Fault.TheVariants as fault
use Rattle.durable_catalogue.specs.Openings.{IsUnopened}
use Rattle.durable_catalogue.specs.declared.fault.OpenFault.{OpenFault}
use Rattle.durable_catalogue.specs.declared.fault.OpenFault.TheVariants as opening
use Rattle.journal_files.specs.Faults.{fault_of_opening}
use Rattle.journal_files.specs.Journals.{journal_limits, HasFittingHistory}
use Rattle.worklist_command.specs.Unheld.{ListsUnheld, EndsListingUnheld}
use Rattle.worklist_command.specs.Working.{list_unwritten, page_unwritten}
use Rattle.union_top.specs.Fits.{FitsLook}
use Rattle.union_top.specs.Misfits.{IsStatus, RefusesMisfits}
use Rattle.union_top.proofs.Fitting.{EndsWell, by_end}
use Rattle.union_top.proofs.Looking.{only_memory, untaken_status, all_untold, with_bytes}
use Rattle.union_top.proofs.Misfits.{by_told, none_opened, large_opened, none_fits, large_fits}

module _ (o : Outcome) (journal list page : List ℕ) (code : Option (List ℕ)) (l : ListsUnheld journal list page code o) where
  abbrev Never : End → Type 0
  Never end = o.end ≡ end → ⊥

  no_old : o.end ≡ Told fault.OldVersion → ⊥
  no_old is = subst EndsListingUnheld is l.ends

  pub lists_unheld_well : FitsLook o.old journal → Never list_unwritten → Never page_unwritten → Never (Told fault.Input) → EndsWell o.end
  lists_unheld_well f no_list no_page no_input =
      by_end o.end no_list (no_page, λ is. subst EndsListingUnheld is l.ends) (λ is. subst EndsListingUnheld is l.ends)
      ((λ is. subst EndsListingUnheld is l.ends), (λ is. subst EndsListingUnheld is l.ends))
      (only_memory o journal l.so no_old no_input f)

  list_unheld_status : (status : ℕ) (bytes : List ℕ) → o.old.tells ≡ true → o.old.file journal ≡ Some bytes → (HasFittingHistory o.old bytes → ⊥)
      → ((reason : OpenFault) → IsUnopened (journal_limits o.old) bytes reason → (reason ≡ opening.OldVersion → ⊥) → (fault_of_opening reason ≡ fault.Device → ⊥)
      → IsStatus status (fault_status (fault_of_opening reason)))
      → Never list_unwritten → Never page_unwritten → Never (Told fault.Input) → IsStatus status (end_status o.end)
  list_unheld_status status bytes tells there unfit opens no_list no_page no_input =
      by_told status o.end (λ good. unfit (subst (λ file. IsSomeAnd file (HasFittingHistory o.old)) there (l.history (all_untold o.end good) tells))) no_list
      (no_page, λ is. subst EndsListingUnheld is l.ends) (λ is. subst EndsListingUnheld is l.ends)
      ((λ is. subst EndsListingUnheld is l.ends), (λ is. subst EndsListingUnheld is l.ends))
      (untaken_status o journal l.so no_old no_input status bytes tells there opens)

  pub lists_unheld_refuses : (words : List (List ℕ)) → o.old.tells ≡ true → Never list_unwritten → Never page_unwritten → Never (Told fault.Input)
      → RefusesMisfits words (ReadWorklist journal list page code) o.old (end_status o.end)
  lists_unheld_refuses words tells no_list no_page no_input = record {
    no_history = λ none.
        with_bytes (o.old.file journal) none (λ bytes there no.
        list_unheld_status 6 bytes tells there (none_fits o.old bytes no) (λ reason so current device. none_opened o.old bytes no reason so device) no_list no_page no_input);
    other_version = λ no. absurd no;
    limits = λ large.
        with_bytes (o.old.file journal) large (λ bytes there has.
        list_unheld_status 7 bytes tells there (large_fits o.old bytes has) (λ reason so current device. large_opened o.old bytes has.entries has.has reason so current device)
        no_list no_page no_input);
  }
