-- What loading ends with, once the journal and the files are open: the files were loaded and closed, and the journal was kept or closed.
use Rattle.std.proofs.Common.{◌≡◌, ℕ, List, [], ◌∷◌, ◌++◌, Option, Some, length, Result, IfOk, sym, ap, subst, ◌∙◌, arith}
use Rattle.marc_types.specs.declared.copying.NoMemory.{NoMemory}
use Rattle.outside.specs.Room.{RoomView, AsLog, SameBut}
use Rattle.command_words.specs.declared.library.Library.{Library}
use Rattle.command_words.specs.declared.asked.LoadRequest.{LoadRequest}
use Rattle.console_lines.specs.declared.fault.Fault.{Fault}
use Rattle.durable_catalogue.specs.Views.{DurableView}
use Rattle.loader_workers.specs.declared.result.FileResult.{FileResult}
use Rattle.loader_workers.specs.declared.input.InputFile.{InputFile}
use Rattle.loader_workers.specs.Files.{AreLoaded}
use Rattle.journal_files.specs.Journals.{IsOpenedFrom, IsOpenedAs}
use Rattle.loading_commands.specs.Inputs.{RisesFrom, lefts_of_inputs}
use Rattle.loading_commands.specs.Outcomes.{IsLoadingFault, IsFinished, IsClosedBy, HasBegun, IsWaiting, HasRead, HasLoaded, Fails}
use Rattle.loading_commands.proofs.Opened.{get_within, rises_around}
use Rattle.loading_commands.proofs.LoadedFiles.{inputs_count}
use Rattle.loading_commands.proofs.Begun.{same_count, result_count, stopped_device, stopped_input, stopped_usage, stopped_other_history, loaded_whole, loaded_part}

-- what was opened is so still
opened_now : (old : RoomView) (journal : List ℕ) (d now : DurableView) → IsOpenedAs old journal d → now.opened ≡ d.opened
    → IsOpenedFrom old journal d.entries d.mark now.opened
opened_now old journal d now opened same = subst (IsOpenedFrom old journal d.entries d.mark) (sym same) opened

module _ {S : Type 0} {left : S → Option (List ℕ)} {faults : S → ℕ} {old : RoomView} {asked : LoadRequest} (after : List (InputFile S))
    (results : Result (List FileResult) NoMemory) (now : DurableView) (did : HasRead left faults old asked now after results) where
  abbrev journal : List ℕ
  journal = asked.journal.now

  abbrev libraries : List Library
  libraries = asked.libraries

  abbrev d : DurableView
  d = did.d

  abbrev files : List (InputFile S)
  files = did.inputs

  abbrev b : HasBegun left faults old asked d files
  b = did.reads.begun

  abbrev origin : now.opened ≡ d.opened
  origin = did.reads.origin

  abbrev loaded : IfOk results (λ rs. AreLoaded left faults d.opened.origin.limits d.entries files after rs now.entries now.mark)
  loaded = did.reads.loaded

  -- as many inputs come back as there are libraries
  pub input_count : length after ≡ length libraries
  input_count =
      same_count left faults old files after d.opened.origin.limits d.entries now.entries now.mark results loaded did.reads.unread
      ∙ inputs_count left faults old libraries files b.inputs_are

  -- all files were loaded whole
  pub has_loaded : (new : RoomView) (are : List FileResult) → new.open_as journal ≡ Some AsLog → IsFinished results are → HasLoaded old new journal libraries now are
  has_loaded new are is_open finished = record {
    is_open = is_open;
    whole = λ tells.
        loaded_whole left faults old journal libraries files after d.opened.origin.limits d.entries now.entries d.mark now.mark now.opened
        tells b.inputs_are b.catalogue.limits (opened_now old journal d now b.catalogue origin) results are loaded finished;
    count = result_count left faults old files after d.opened.origin.limits d.entries now.entries now.mark results are loaded finished
        ∙ inputs_count left faults old libraries files b.inputs_are;
  }

  -- they were not; the inputs were closed in `read`, and the journal behind them
  pub has_failed : (begun read new : RoomView) (why : Fault) → IsWaiting old begun journal
      → SameBut begun read [] → read.lefts ≡ lefts_of_inputs left after ++ begun.lefts → RisesFrom faults 0 libraries after begun read
      → SameBut read new (journal ∷ []) → new.lefts ≡ read.lefts
      → IsClosedBy why results read new journal now → Fails old new journal libraries why (IsLoadingFault old new journal libraries why)
  has_failed begun read new why waiting stays lefts_read rises apart_then lefts_then is = record {
    closed = is.closed;
    because = λ tells.
        loaded_part left faults old journal libraries files after d.opened.origin.limits d.entries now.entries d.mark now.mark now.opened
        tells b.inputs_are b.catalogue.limits (opened_now old journal d now b.catalogue origin) new why results loaded did.reads.unbegun did.reads.unmarked did.reads.unread is.ended
        (is.log (stays.tells ∙ (waiting.apart.tells ∙ tells))) (lefts_then ∙ lefts_read ∙ ap (λ ls. lefts_of_inputs left after ++ ls) waiting.lefts)
        b.fresh (rises_around faults libraries after old begun read new waiting.apart.ins rises apart_then.ins);
    device = λ device.
        let mark = stopped_device left faults old files after d.opened.origin.limits d.entries now.entries now.mark why results loaded is.ended device in
        let rose = is.cause mark (opened_now old journal d now b.catalogue origin).faults in
        let first = waiting.apart.log_counts journal in
        let second = stays.log_counts journal in
        omega (arith, rose, first, second);
    input = λ input.
        let had = stopped_input left faults old files after d.opened.origin.limits d.entries now.entries now.mark why results loaded b.fresh is.ended input in
        let count = input_count in
        let within = had.within in
        let (library, named) = get_within libraries had.index (omega (arith, within, count)) in
        let rose = rises had.index library had.input (omega arith) named had.is had.rose in
        let first = waiting.apart.ins library.file in
        let last = apart_then.ins library.file in
        record {
          index = had.index;
          library = library;
          named = named;
          rose = omega (arith, rose, first, last);
        };
    no_usage = stopped_usage why results is.ended;
    no_other_history = stopped_other_history why results is.ended;
  }
