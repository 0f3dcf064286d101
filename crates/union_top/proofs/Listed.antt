-- The command that lists what a cataloguer works from: how it ends where it fits, and with which status where the journal can't be used.
use Rattle.std.proofs.Common.{◌≡◌, ℕ, true, List, Option, sym, ap, subst, ◌∙◌}
use Rattle.command_words.specs.Command.{Worklist}
use Rattle.console_lines.specs.Ends.{Outcome, end_status}
use Rattle.console_lines.specs.Faults.{fault_status}
use Rattle.console_lines.specs.declared.end.End.{End}
use Rattle.console_lines.specs.declared.end.End.TheVariants.{Told}
use Rattle.console_lines.specs.declared.fault.Fault.TheVariants as fault
use Rattle.durable_catalogue.specs.Openings.{IsUnopened}
use Rattle.durable_catalogue.specs.declared.fault.OpenFault.{OpenFault}
use Rattle.durable_catalogue.specs.declared.fault.OpenFault.TheVariants as opening
use Rattle.journal_files.specs.Faults.{fault_of_opening}
use Rattle.journal_files.specs.Journals.{journal_limits, log_bytes, HasFittingHistory}
use Rattle.worklist_command.specs.Working.{MakesWorklist, EndsListing, list_unwritten, page_unwritten}
use Rattle.union_top.specs.Fits.{FitsReading}
use Rattle.union_top.specs.Misfits.{IsStatus, RefusesMisfits}
use Rattle.union_top.proofs.Fitting.{EndsWell, by_end}
use Rattle.union_top.proofs.Looking.{all_untold}
use Rattle.union_top.proofs.Unopened.{may_be, opening_well}
use Rattle.union_top.proofs.Misfits.{by_told, none_opened, large_opened, none_fits, large_fits}

module _ (o : Outcome) (journal list page : List ℕ) (code : Option (List ℕ)) (m : MakesWorklist journal list page code o) where
  abbrev Never : End → Type 0
  Never end = o.end ≡ end → ⊥

  pub lists_well : FitsReading o.old journal → Never list_unwritten → Never page_unwritten → Never (Told fault.Device) → EndsWell o.end
  lists_well f no_list no_page no_device =
      by_end o.end no_list (no_page, λ is. subst EndsListing is m.ends) (λ is. subst EndsListing is m.ends)
      ((λ is. subst EndsListing is m.ends), (λ is. subst EndsListing is m.ends))
      (λ why is.
      let w = (m.told why is).1 in
      w.is ∙ opening_well (log_bytes o.old journal) w.reason (λ old. subst EndsListing (is ∙ ap Told (w.is ∙ ap fault_of_opening old)) m.ends)
      (may_be o.old (log_bytes o.old journal) w.reason f.history (w.so f.tells)) (λ device. no_device (is ∙ ap Told (w.is ∙ device))))

  lists_status : (due : ℕ) → o.old.tells ≡ true → (HasFittingHistory o.old (log_bytes o.old journal) → ⊥)
      → ((reason : OpenFault) → IsUnopened (journal_limits o.old) (log_bytes o.old journal) reason → (reason ≡ opening.OldVersion → ⊥)
      → (fault_of_opening reason ≡ fault.Device → ⊥) → IsStatus due (fault_status (fault_of_opening reason)))
      → Never list_unwritten → Never page_unwritten → Never (Told fault.Device) → IsStatus due (end_status o.end)
  lists_status due tells unfit opens no_list no_page no_device =
      by_told due o.end (λ good. unfit (m.history (all_untold o.end good) tells)) no_list (no_page, λ is. subst EndsListing is m.ends)
      (λ is. subst EndsListing is m.ends) ((λ is. subst EndsListing is m.ends), (λ is. subst EndsListing is m.ends))
      (λ why is.
      let w = (m.told why is).1 in
      subst (λ f. IsStatus due (fault_status f)) (sym w.is) (opens w.reason (w.so tells)
      (λ old. subst EndsListing (is ∙ ap Told (w.is ∙ ap fault_of_opening old)) m.ends) (λ device. no_device (is ∙ ap Told (w.is ∙ device)))))

  pub lists_refuses : (words : List (List ℕ)) → o.old.tells ≡ true → Never list_unwritten → Never page_unwritten → Never (Told fault.Device)
      → RefusesMisfits words (Worklist journal list page code) o.old (end_status o.end)
  lists_refuses words tells no_list no_page no_device =
      let log = log_bytes o.old journal in
      record {
        no_history = λ none. lists_status 6 tells (none_fits o.old log none) (λ reason so current device. none_opened o.old log none reason so device) no_list no_page no_device;
        other_version = λ no. absurd no;
        limits = λ large.
            lists_status 7 tells (large_fits o.old log large) (λ reason so current device. large_opened o.old log large.entries large.has reason so current device) no_list no_page no_device;
      }
