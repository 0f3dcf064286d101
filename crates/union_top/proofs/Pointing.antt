-- The commands over a log of checkpoints whose journal can't be used, or whose log is of version 1, end with the status that says why.
use Rattle.std.proofs.Common.{◌≡◌, ◌⊎◌, inl, inr, ℕ, List, Option, Some, None, true, sym, ap, subst, ◌∙◌}
use Rattle.outside.specs.Fault.{Rose}
use Rattle.command_words.specs.Command.{Checkpoint, Quick, QuickReport}
use Rattle.console_lines.specs.Ends.{Outcome, IsAllDone, end_status, out_unwritten, side_unwritten, console_unwritten}
use Rattle.console_lines.specs.Faults.{fault_status}
use Rattle.console_lines.specs.declared.fault.Fault.{Fault}
use Rattle.durable_catalogue.specs.declared.fault.OpenFault.{OpenFault}
use Rattle.journal_files.specs.Faults.{fault_of_opening}
use Rattle.journal_files.specs.Journals.{journal_limits, log_bytes}
use Rattle.journal_files.proofs.Faults.{opening_device}
use Rattle.journal_files.proofs.Histories.{fitting_history}
use Rattle.checkpoint_commands.specs.Refusals.{IsJournalRefused, IsRefusedBehind}
use Rattle.checkpoint_commands.specs.Checkpoints.{EndsCheckpoint, Checkpoints}
use Rattle.checkpoint_commands.specs.Quick.{EndsQuick, ExportsQuickly}
use Rattle.union_top.specs.Complete.{CountsStayed}
use Rattle.union_top.specs.Misfits.{IsNoHistory, IsTooLarge, IsOldPoint, IsStatus, RefusesMisfits}
use Rattle.union_top.proofs.Complete.{around_of}
use Rattle.union_top.proofs.Misfits.{by_told, none_opened, large_opened, none_fits, large_fits}
use Rattle.union_top.proofs.Looking.{all_untold}
use Rattle.union_top.proofs.Pointed.{never_side, old_taken, both_versions}
use Rattle.union_top.proofs.Unopened.{may_be, opening_well}

module _ (o : Outcome) (tells : o.old.tells ≡ true) (journal point : List ℕ) (no_journal : Rose (o.old.log_faults journal) (o.new.log_faults journal) → ⊥)
    (no_point : Rose (o.old.log_faults point) (o.new.log_faults point) → ⊥) where
  abbrev Refusal : Fault → Type 0
  Refusal why = IsJournalRefused journal why o.old o.new ⊎ IsRefusedBehind journal point why o.old o.new

  status_of : (due : ℕ) (why : Fault) (reason : OpenFault) → why ≡ fault_of_opening reason → IsStatus due (fault_status (fault_of_opening reason))
      → IsStatus due (fault_status why)
  status_of due why reason is status = subst (λ f. IsStatus due (fault_status f)) (sym is) status

  none_told : IsNoHistory (log_bytes o.old journal) → (why : Fault) → Refusal why → IsStatus 6 (fault_status why)
  none_told none why (inl r) =
      let w = r.unopened in
      status_of 6 why w.reason w.is (none_opened o.old (log_bytes o.old journal) none w.reason (w.so tells) (λ device. no_journal (r.cause (w.is ∙ device))))
  none_told none why (inr r) = absurd (none_fits o.old (log_bytes o.old journal) none (r.history tells))

  large_told : IsTooLarge (journal_limits o.old) (log_bytes o.old journal) → (why : Fault) → Refusal why → IsStatus 7 (fault_status why)
  large_told large why (inl r) =
      let w = r.unopened in
      status_of 7 why w.reason w.is
      (large_opened o.old (log_bytes o.old journal) large.entries large.has w.reason (w.so tells) (λ old. r.current (w.is ∙ ap fault_of_opening old))
      (λ device. no_journal (r.cause (w.is ∙ device))))
  large_told large why (inr r) = absurd (large_fits o.old (log_bytes o.old journal) large (r.history tells))

  old_told : IsOldPoint o.old journal point → (why : Fault) → Refusal why → IsStatus 9 (fault_status why)
  old_told old why (inl r) =
      let w = r.unopened in
      inr (ap fault_status (w.is ∙ opening_well (log_bytes o.old journal) w.reason (λ same. r.current (w.is ∙ ap fault_of_opening same))
      (may_be o.old (log_bytes o.old journal) w.reason old.history (w.so tells)) (λ device. no_journal (r.cause (w.is ∙ device)))))
  old_told old why (inr r) =
      status_of 9 why r.reason r.is
      (old_taken (log_bytes o.old point) old.last r.reason old.has (r.refused.so tells) (λ device. no_point (r.refused.cause (opening_device r.reason device))))

module _ (o : Outcome) (tells : o.old.tells ≡ true) (words : List (List ℕ)) (journal point : List ℕ) where
  module _ (c : Checkpoints journal point o) (s : CountsStayed words (Checkpoint journal point) (around_of o)) where
    checkpoint_status : (due : ℕ) → (IsAllDone o.end → ⊥) → ((why : Fault) → IsJournalRefused journal why o.old o.new ⊎ IsRefusedBehind journal point why o.old o.new → IsStatus due (fault_status why))
        → IsStatus due (end_status o.end)
    checkpoint_status due good told =
        by_told due o.end good (λ is. subst EndsCheckpoint is c.ends) ((λ is. subst EndsCheckpoint is c.ends), (λ is. subst EndsCheckpoint is c.ends)) (λ is. s.2 (c.console is))
        ((λ is. subst EndsCheckpoint is c.ends), (λ is. subst EndsCheckpoint is c.ends))
        (λ why is. told why (c.told why is).1)

    pub checkpoint_refuses : RefusesMisfits words (Checkpoint journal point) o.old (end_status o.end)
    checkpoint_refuses = record {
      no_history = λ none.
          checkpoint_status 6 (λ all. let w = c.whole (all_untold o.end all) tells in none w.history w.has) (none_told o tells journal point s.0 s.1 none);
      other_version = λ old.
          checkpoint_status 9
          (λ all. let w = c.whole (all_untold o.end all) tells in both_versions (log_bytes o.old point) old.oldest w.put.was.newest)
          (old_told o tells journal point s.0 s.1 old);
      limits = λ large.
          checkpoint_status 7
          (λ all.
          let w = c.whole (all_untold o.end all) tells in
          large_fits o.old (log_bytes o.old journal) large (fitting_history o.old w.history (log_bytes o.old journal) w.has w.within))
          (large_told o tells journal point s.0 s.1 large);
    }

  module _ (out : List ℕ) (report : Option (List ℕ)) (q : ExportsQuickly journal point out report o) (no_journal : Rose (o.old.log_faults journal) (o.new.log_faults journal) → ⊥)
      (no_point : Rose (o.old.log_faults point) (o.new.log_faults point) → ⊥) (no_out : o.end ≡ out_unwritten → ⊥) (no_side : o.end ≡ side_unwritten → ⊥)
      (no_console : o.end ≡ console_unwritten → ⊥) where
    quick_status : (due : ℕ) → (IsAllDone o.end → ⊥) → ((why : Fault) → IsJournalRefused journal why o.old o.new ⊎ IsRefusedBehind journal point why o.old o.new → IsStatus due (fault_status why))
        → IsStatus due (end_status o.end)
    quick_status due good told =
        by_told due o.end good no_out (no_side, (λ is. subst (EndsQuick report) is q.ends)) no_console
        ((λ is. subst (EndsQuick report) is q.ends), (λ is. subst (EndsQuick report) is q.ends)) (λ why is. told why (q.told why is).1)

    quick_none : IsNoHistory (log_bytes o.old journal) → IsStatus 6 (end_status o.end)
    quick_none none =
        quick_status 6 (λ all. let r = (q.exported (all_untold o.end all) tells).resumed in none r.history r.has) (none_told o tells journal point no_journal no_point none)

    quick_old : IsOldPoint o.old journal point → IsStatus 9 (end_status o.end)
    quick_old old =
        quick_status 9
        (λ all. let r = (q.exported (all_untold o.end all) tells).resumed in both_versions (log_bytes o.old point) old.oldest r.was.newest)
        (old_told o tells journal point no_journal no_point old)

    quick_large : IsTooLarge (journal_limits o.old) (log_bytes o.old journal) → IsStatus 7 (end_status o.end)
    quick_large large =
        quick_status 7
        (λ all.
        let r = (q.exported (all_untold o.end all) tells).resumed in
        large_fits o.old (log_bytes o.old journal) large (fitting_history o.old r.history (log_bytes o.old journal) r.has r.within))
        (large_told o tells journal point no_journal no_point large)

  pub quick_refuses : (out : List ℕ) → ExportsQuickly journal point out None o → CountsStayed words (Quick journal point out) (around_of o)
      → RefusesMisfits words (Quick journal point out) o.old (end_status o.end)
  quick_refuses out q s =
      let no_out : o.end ≡ out_unwritten → ⊥ = λ is. s.2 (q.out_cause is) in
      let no_console : o.end ≡ console_unwritten → ⊥ = λ is. s.3 (q.console is) in
      record {
        no_history = quick_none out None q s.0 s.1 no_out (never_side o.end q.ends) no_console;
        other_version = quick_old out None q s.0 s.1 no_out (never_side o.end q.ends) no_console;
        limits = quick_large out None q s.0 s.1 no_out (never_side o.end q.ends) no_console;
      }

  pub quick_report_refuses : (out report : List ℕ) → ExportsQuickly journal point out (Some report) o
      → CountsStayed words (QuickReport journal point out report) (around_of o)
      → RefusesMisfits words (QuickReport journal point out report) o.old (end_status o.end)
  quick_report_refuses out report q s =
      let no_out : o.end ≡ out_unwritten → ⊥ = λ is. s.2 (q.out_cause is) in
      let no_side : o.end ≡ side_unwritten → ⊥ = λ is. s.4 (q.report_cause is) in
      let no_console : o.end ≡ console_unwritten → ⊥ = λ is. s.3 (q.console is) in
      record {
        no_history = quick_none out (Some report) q s.0 s.1 no_out no_side no_console;
        other_version = quick_old out (Some report) q s.0 s.1 no_out no_side no_console;
        limits = quick_large out (Some report) q s.0 s.1 no_out no_side no_console;
      }
