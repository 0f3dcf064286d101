-- How a run ends whose files were loaded whole: its outputs were written, or not, and the journal was closed behind them.
use Rattle.std.proofs.Common.{◌≡◌, ◌∙◌, ℕ, Bool, true, List, [], ◌∷◌, None, Result, Ok, Err, OnOk, IfErr, refl}
use Rattle.outside.specs.Room.{RoomView, SameBut}
use Rattle.command_words.specs.declared.library.Library.{Library}
use Rattle.command_words.specs.Command.{AreNames}
use Rattle.console_lines.specs.Ends.{Outcome, IsTold, IsSilent, IsResultTold, out_unwritten, side_unwritten}
use Rattle.console_lines.specs.declared.end.End.TheVariants.{Unwritten as NotWritten, Told}
use Rattle.console_lines.specs.declared.end.OutputsFault.{OutputsFault}
use Rattle.console_lines.specs.declared.end.OutputsFault.TheVariants.{NoMemory, Unwritten}
use Rattle.console_lines.specs.declared.end.Unwritten.{Unwritten as Which}
use Rattle.console_lines.specs.declared.end.Unwritten.TheVariants.{Out, Side, Pages, Console}
use Rattle.console_lines.specs.declared.fault.Fault.TheVariants as fault
use Rattle.entry_record.specs.History.{IsWithin}
use Rattle.durable_catalogue.specs.Views.{DurableView}
use Rattle.loader_workers.specs.declared.result.FileResult.{FileResult}
use Rattle.journal_files.specs.Journals.{IsClosedAs}
use Rattle.loading_commands.specs.Outcomes.{IsLoadedWhole}
use Rattle.loading_commands.specs.Outputs.{AreUnwritten}
use Rattle.loading_commands.specs.Runs.{AreOutputs}
use Rattle.loading_commands.specs.Texts.{files_text, has_refused}
use Rattle.loading_commands.specs.Runs as runs
use Rattle.loading_commands.specs.Loading.{Runs}
use Rattle.loading_commands.proofs.OneHistory.{MergedBy, merged_by}
use Rattle.loading_commands.proofs.Ended.{TellsLines, runs_failed, runs_told, runs_in_out, runs_in_report, no_memory}
use Rattle.loading_commands.proofs.Written.{outputs_are, out_rose, report_rose_too, no_report, in_out, in_report, ran_out}

module _ (libraries : List Library) (journal out report : List ℕ) (o : Outcome) (mid wrote : RoomView) (d : DurableView) (results : List FileResult)
    (names : AreNames (journal ∷ out ∷ report ∷ [])) (opened : SameBut o.old mid (journal ∷ [])) (apart : SameBut mid wrote (out ∷ report ∷ []))
    (closing : SameBut wrote o.new (journal ∷ [])) (within : IsWithin d.opened.origin.limits d.entries)
    (whole : o.old.tells ≡ true → IsLoadedWhole o.old journal libraries d results)
    (log : wrote.tells ≡ true → d.opened.tells ≡ true → IsClosedAs o.new journal d) where
  merged : o.old.tells ≡ true → MergedBy o.old o.new journal libraries d.entries results
  merged tells = merged_by o.old o.new journal libraries d results within (whole tells) (log (apart.tells ∙ (opened.tells ∙ tells))) tells

  -- both were written, and the console was to be told the lines
  ran_whole : TellsLines libraries journal o results → (mid.tells ≡ true → AreOutputs wrote out report d.entries) → Runs libraries journal out report o
  ran_whole tells_lines written =
      runs_told libraries journal o out report d.entries results tells_lines merged
      (outputs_are o.old mid wrote o.new journal out report d.entries names opened closing written)

  -- OUT was not
  ran_to_out : AreUnwritten mid wrote out report d.entries (Unwritten Out) → o.end ≡ out_unwritten → IsSilent o → Runs libraries journal out report o
  ran_to_out are is silent =
      runs_in_out libraries journal o out report d.entries results silent merged is
      (out_rose o.old mid wrote o.new journal out report d.entries names opened closing (Unwritten Out) are refl)
      (no_report o.old mid wrote o.new journal out report d.entries names opened closing (Unwritten Out) are (λ same. cc))
      (in_out o.old mid wrote o.new journal out report d.entries names opened closing (Unwritten Out) are refl)

  -- REPORT was not
  ran_to_report : AreUnwritten mid wrote out report d.entries (Unwritten Side) → o.end ≡ side_unwritten → IsSilent o → Runs libraries journal out report o
  ran_to_report are is silent =
      runs_in_report libraries journal o out report d.entries results silent merged is
      (report_rose_too o.old mid wrote o.new journal out report d.entries names opened closing (Unwritten Side) are refl)
      (in_report o.old mid wrote o.new journal out report d.entries names opened closing (Unwritten Side) are refl)

  -- memory ran out before any output was begun
  pub ran_to_memory : AreUnwritten mid wrote out report d.entries NoMemory → o.end ≡ Told fault.Memory → IsTold fault.Memory o → o.new.open_as journal ≡ None
      → Runs libraries journal out report o
  ran_to_memory are is told closed =
      runs_failed libraries journal o out report fault.Memory is told
      (ran_out o.old mid wrote o.new journal out report d.entries names opened closing NoMemory are refl)
      (no_memory o.old o.new journal libraries _ closed (λ tells. runs.NoMemory refl (merged tells).merged))

  -- they were written or not, and the console was told the lines, or want of memory
  pub ran_ended : {T : Type 0} → (written : Result T OutputsFault) (text : List ℕ) (refused : Bool) → text ≡ files_text libraries results
      → refused ≡ has_refused results → OnOk written (mid.tells ≡ true → AreOutputs wrote out report d.entries)
      → IfErr written (AreUnwritten mid wrote out report d.entries)
      → OnOk written (IsResultTold o.told o.now o.faults o.faults_now text refused o.end)
      → ((which : Which) → written ≡ Err (Unwritten which) → o.end ≡ NotWritten which) → ((which : Which) → written ≡ Err (Unwritten which) → IsSilent o)
      → (written ≡ Err NoMemory → o.end ≡ Told fault.Memory) → (written ≡ Err NoMemory → IsTold fault.Memory o) → o.new.open_as journal ≡ None
      → Runs libraries journal out report o
  ran_ended (Ok value) text refused text_is refused_is outputs are told unwritten silent memory tells closed =
      ran_whole (record { text = text; refused = refused; told = told; refused_is = refused_is; text_is = text_is }) outputs
  ran_ended (Err (Unwritten Out)) text refused text_is refused_is outputs are told unwritten silent memory tells closed =
      ran_to_out are (unwritten Out refl) (silent Out refl)
  ran_ended (Err (Unwritten Side)) text refused text_is refused_is outputs are told unwritten silent memory tells closed =
      ran_to_report are (unwritten Side refl) (silent Side refl)
  ran_ended (Err (Unwritten Pages)) text refused text_is refused_is outputs are told unwritten silent memory tells closed = absurd (are.no_pages refl)
  ran_ended (Err (Unwritten Console)) text refused text_is refused_is outputs are told unwritten silent memory tells closed = absurd (are.no_console refl)
  ran_ended (Err NoMemory) text refused text_is refused_is outputs are told unwritten silent memory tells closed =
      ran_to_memory are (memory refl) (tells refl) closed
