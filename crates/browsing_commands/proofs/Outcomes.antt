-- How the command ends, from what its steps say.
use Rattle.std.proofs.Common.{◌≡◌, ◌≢◌, ◌∙◌, ℕ, Bool, true, List, [], ◌∷◌, ◌++◌, length, Some, None, Result, Ok, Err, OnOk, IfErr, refl, sym, ap, subst, arith}
use Rattle.std.specs.Io.KnownBytes.{Appends}
use Rattle.outside.specs.Room.{RoomView, SameBut}
use Rattle.outside.specs.Sink.{WritesFront}
use Rattle.outside.proofs.Rooms.{same_but_first, same_but_more, same_but_then}
use Rattle.command_words.specs.Command.{AreNames}
use Rattle.command_words.specs.declared.library.Library.{Library}
use Rattle.console_lines.specs.Ends.{Outcome, IsTold, IsAllDone, TellsNoFault, IsSilent, IsResultTold, end_of, side_unwritten, pages_unwritten, console_unwritten}
use Rattle.console_lines.specs.declared.end.End.{End}
use Rattle.console_lines.specs.declared.end.End.TheVariants.{Done, Refused, Unwritten as NotWritten, Told, BroughtInPart, Differ}
use Rattle.console_lines.specs.declared.end.OutputsFault.{OutputsFault}
use Rattle.console_lines.specs.declared.end.OutputsFault.TheVariants.{NoMemory, Unwritten}
use Rattle.console_lines.specs.declared.end.Unwritten.{Unwritten as Which}
use Rattle.console_lines.specs.declared.end.Unwritten.TheVariants.{Out, Side, Pages, Console}
use Rattle.console_lines.specs.declared.fault.Fault.{Fault}
use Rattle.console_lines.specs.declared.fault.Fault.TheVariants as fault
use Rattle.console_lines.proofs.Ends.{all_not_unwritten, unwritten_once, out_not_console, out_not_side, side_not_console, pages_not_console, result_done, result_line, result_front, result_no_output, result_no_pages}
use Rattle.entry_record.specs.History.{IsWithin}
use Rattle.durable_catalogue.specs.Views.{DurableView}
use Rattle.loader_workers.specs.declared.result.FileResult.{FileResult}
use Rattle.journal_files.specs.Journals.{IsClosedAs}
use Rattle.output_files.proofs.Parts.{left_since, left_until}
use Rattle.heading_rows.specs.declared.row.BrowsePage.{BrowsePage}
use Rattle.loading_commands.specs.Outcomes.{Fails, IsLoadedWhole}
use Rattle.loading_commands.specs.Runs.{EndsRun, AreOutputs, WhyNotLoad}
use Rattle.loading_commands.specs.Runs as runs
use Rattle.loading_commands.specs.Texts.{files_text, has_refused}
use Rattle.loading_commands.specs.Loading.{Runs}
use Rattle.loading_commands.proofs.OneHistory.{MergedBy, merged_behind}
use Rattle.loading_commands.proofs.Ended.{TellsLines, apart_run, decide_name, no_memory, runs_failed, runs_told}
use Rattle.loading_commands.proofs.Ran.{ran_ended}
use Rattle.loading_commands.proofs.Written.{outputs_are}
use Rattle.browsing_commands.specs.Pages.{ArePagesOf, pages_text}
use Rattle.browsing_commands.specs.Browses.{EndsBrowse, AreUnpaged, Browses}

ends_of_run : (end : End) → EndsRun end → EndsBrowse end
ends_of_run Done ends = tt
ends_of_run Refused ends = tt
ends_of_run (NotWritten which) ends = tt
ends_of_run (Told why) ends = ends
ends_of_run BroughtInPart ends = absurd ends
ends_of_run Differ ends = absurd ends

same_fault : (a b : OutputsFault) → ◌≡◌ {A = Result (Unit {0}) OutputsFault} (Err a) (Err b) → a ≡ b
same_fault a b is = cc

all_untold : (end : End) → IsAllDone end → TellsNoFault end
all_untold Done all = tt
all_untold Refused all = tt
all_untold (NotWritten which) all = absurd all
all_untold (Told why) all = absurd all
all_untold BroughtInPart all = absurd all
all_untold Differ all = absurd all

-- ---- what changed, and what is open

-- a journal was opened in a room, outputs were written, and it was closed: nothing else changed
pub apart_browse : (old mid wrote new : RoomView) (journal out report pages : List ℕ) → SameBut old mid (journal ∷ []) → SameBut mid wrote (out ∷ report ∷ pages ∷ [])
    → SameBut wrote new (journal ∷ []) → SameBut old new (journal ∷ out ∷ report ∷ pages ∷ [])
apart_browse old mid wrote new journal out report pages opened apart closing =
    let names = journal ∷ out ∷ report ∷ pages ∷ [] in
    same_but_then old mid new names (same_but_first old mid journal (out ∷ report ∷ pages ∷ []) opened)
    (same_but_then mid wrote new names (same_but_more mid wrote (out ∷ report ∷ pages ∷ []) names (λ n other. other.1) apart)
    (same_but_first wrote new journal (out ∷ report ∷ pages ∷ []) closing))

-- and no name is open
pub closed_browse : (old mid wrote new : RoomView) (journal out report pages : List ℕ) → ((n : List ℕ) → old.open_as n ≡ None) → SameBut old mid (journal ∷ [])
    → SameBut mid wrote (out ∷ report ∷ pages ∷ []) → wrote.open_as out ≡ None → wrote.open_as report ≡ None → wrote.open_as pages ≡ None
    → SameBut wrote new (journal ∷ []) → new.open_as journal ≡ None → (n : List ℕ) → new.open_as n ≡ None
closed_browse old mid wrote new journal out report pages free opened apart out_closed report_closed pages_closed closing closed n =
    decide_name n journal (λ is. subst (λ m. new.open_as m ≡ None) (sym is) closed) (λ no_journal. closing.open_names n (no_journal, tt) ∙
    decide_name n out (λ is. subst (λ m. wrote.open_as m ≡ None) (sym is) out_closed) (λ no_out.
    decide_name n report (λ is. subst (λ m. wrote.open_as m ≡ None) (sym is) report_closed) (λ no_report.
    decide_name n pages (λ is. subst (λ m. wrote.open_as m ≡ None) (sym is) pages_closed) (λ no_pages.
    apart.open_names n (no_out, (no_report, (no_pages, tt))) ∙ (opened.open_names n (no_journal, tt) ∙ free n)))))

-- ---- an end that `run` has too, before PAGES is begun

module _ (libraries : List Library) (journal out report pages : List ℕ) (o : Outcome) where
  of_run : Runs libraries journal out report o → (IsAllDone o.end → ⊥) → (o.end ≡ console_unwritten → ⊥) → o.end ≢ pages_unwritten
      → (o.end ≡ side_unwritten → SameBut o.old o.new (journal ∷ out ∷ report ∷ [])) → Browses libraries journal out report pages o
  of_run r not_done not_untold no_end apart = record {
    ends = ends_of_run o.end r.ends;
    run = λ other. r;
    pages_cause = λ is. absurd (no_end is);
    silent = λ is. absurd (no_end is);
    in_pages = λ is. absurd (no_end is);
    no_pages = apart;
    whole = λ all. absurd (not_done all);
    untold = λ is. absurd (not_untold is);
  }

  -- a fault was told
  pub browses_told : Runs libraries journal out report o → (TellsNoFault o.end → ⊥) → Browses libraries journal out report pages o
  browses_told r told =
      of_run r (λ all. told (all_untold o.end all)) (λ is. told (subst TellsNoFault (sym is) tt)) (λ is. told (subst TellsNoFault (sym is) tt))
      (λ is. absurd (told (subst TellsNoFault (sym is) tt)))

  pub browses_failed : (why : Fault) → o.end ≡ Told why → IsTold why o → SameBut o.old o.new (journal ∷ [])
      → Fails o.old o.new journal libraries why (WhyNotLoad o.old o.new journal libraries why) → Browses libraries journal out report pages o
  browses_failed why is told apart f = browses_told (runs_failed libraries journal o out report why is told apart f) (λ untold. subst TellsNoFault is untold)

-- ---- the files were loaded whole

module _ (libraries : List Library) (journal out report pages : List ℕ) (o : Outcome) (mid wrote : RoomView) (d : DurableView) (results : List FileResult)
    (names : AreNames (journal ∷ out ∷ report ∷ pages ∷ [])) (opened : SameBut o.old mid (journal ∷ []))
    (closing : SameBut wrote o.new (journal ∷ [])) (within : IsWithin d.opened.origin.limits d.entries)
    (whole : o.old.tells ≡ true → IsLoadedWhole o.old journal libraries d results) (wrote_tells : wrote.tells ≡ mid.tells)
    (log : wrote.tells ≡ true → d.opened.tells ≡ true → IsClosedAs o.new journal d) where
  behind : (tells : o.old.tells ≡ true) → (m : MergedBy o.old o.new journal libraries d.entries results) × (d.opened.opened ≡ length m.merged.before)
  behind tells = merged_behind o.old o.new journal libraries d results within (whole tells) (log (wrote_tells ∙ (opened.tells ∙ tells))) tells

  three : AreNames (journal ∷ out ∷ report ∷ [])
  three = (names.0, (names.1.0, (names.1.1.0, tt)), (names.2.0, (names.2.1.0, tt), (names.2.2.0, tt, tt)))

  no_journal : pages ≢ journal
  no_journal same = names.1.1.1.0 (sym same)

  module _ (due : List BrowsePage) (are : ArePagesOf d.opened.opened d.entries due) where
    -- the pages are those of the one history
    are_merged : (m : MergedBy o.old o.new journal libraries d.entries results) → d.opened.opened ≡ length m.merged.before
        → ArePagesOf (length m.merged.before) (m.merged.before ++ m.merged.added) due
    are_merged m count =
        subst (λ n. ArePagesOf n (m.merged.before ++ m.merged.added) due) count (subst (λ es. ArePagesOf d.opened.opened es due) m.entries_are are)

    -- all was written, and the console was to be told the lines
    browsed_whole : TellsLines libraries journal o results → (mid.tells ≡ true → AreOutputs wrote out report d.entries)
        → (mid.tells ≡ true → wrote.file pages ≡ Some (pages_text due)) → Browses libraries journal out report pages o
    browsed_whole t written paged =
        let outputs : o.old.tells ≡ true → AreOutputs o.new out report d.entries =
        outputs_are o.old mid wrote o.new journal out report d.entries three opened closing written in
        let r = runs_told libraries journal o out report d.entries results t (λ tells. (behind tells).0) outputs in
        let bytes : o.old.tells ≡ true → o.new.file pages ≡ Some (pages_text due) =
        λ tells. closing.files pages (no_journal, tt) ∙ paged (opened.tells ∙ tells) in record {
          ends = ends_of_run o.end r.ends;
          run = λ other. r;
          pages_cause = λ is. absurd (result_no_pages t.told is);
          silent = λ is. absurd (result_no_pages t.told is);
          in_pages = λ is. absurd (result_no_pages t.told is);
          no_pages = λ is. absurd ((result_no_output t.told).1 is);
          whole = λ all tells.
              let b = behind tells in
              let m = b.0 in record {
                run = record {
                  merged = m.merged;
                  outputs = subst (AreOutputs o.new out report) m.entries_are (outputs tells);
                  console = subst (Appends o.told o.now) (t.text_is ∙ m.text_is) (result_line t.told all);
                  end_is = result_done t.told all ∙ ap (λ b. end_of b) (t.refused_is ∙ m.any_is);
                };
                paged = record { pages = due; are = are_merged m b.1; bytes = bytes tells };
              };
          untold = λ failed tells.
              let b = behind tells in
              let m = b.0 in record {
                run = record {
                  merged = m.merged;
                  outputs = subst (AreOutputs o.new out report) m.entries_are (outputs tells);
                  console = subst (WritesFront o.told o.now) (t.text_is ∙ m.text_is) (result_front t.told);
                };
                paged = record { pages = due; are = are_merged m b.1; bytes = bytes tells };
              };
        }

    -- PAGES was not
    browsed_to_pages : AreUnpaged mid wrote out report pages d.entries (pages_text due) (Unwritten Pages) → o.end ≡ pages_unwritten → IsSilent o
        → Browses libraries journal out report pages o
    browsed_to_pages un is silent = record {
      ends = subst EndsBrowse (sym is) tt;
      run = λ other. absurd (other is);
      pages_cause = λ also. let first = opened.outs pages in let last = closing.outs pages in let rose = un.pages_cause refl in omega (arith, first, rose, last);
      silent = λ also. silent;
      in_pages = λ also tells.
          let b = behind tells in
          let m = b.0 in record {
            merged = m.merged;
            outputs = subst (AreOutputs o.new out report) m.entries_are
                (outputs_are o.old mid wrote o.new journal out report d.entries three opened closing (un.outputs refl) tells);
            due = due;
            are = are_merged m b.1;
            left = left_until o.old wrote o.new pages (pages_text due) (journal ∷ []) (no_journal, tt) closing
                (left_since o.old mid wrote pages (pages_text due) (journal ∷ []) (no_journal, tt) opened (un.left refl (opened.tells ∙ tells)));
          };
      no_pages = λ also. let no : Side ≡ Pages = unwritten_once o.end Side Pages also is in absurd cc;
      whole = λ all. absurd (all_not_unwritten o.end Pages all is);
      untold = λ also. absurd (pages_not_console o.end is also);
    }

  -- an output of `run` was not, or memory ran out: PAGES isn't begun
  module _ (lines : List ℕ) (why : OutputsFault) (un : AreUnpaged mid wrote out report pages d.entries lines why) (other : why ≢ Unwritten Pages)
      (text : List ℕ) (refused : Bool) (text_is : text ≡ files_text libraries results) (refused_is : refused ≡ has_refused results)
      (unwritten : (which : Which) → why ≡ Unwritten which → o.end ≡ NotWritten which) (silent : (which : Which) → why ≡ Unwritten which → IsSilent o)
      (memory : why ≡ NoMemory → o.end ≡ Told fault.Memory) (tells : why ≡ NoMemory → IsTold fault.Memory o) (closed : o.new.open_as journal ≡ None) where
    run_ends : Runs libraries journal out report o
    run_ends =
        ran_ended libraries journal out report o mid wrote d results three opened (un.apart other) closing within whole log {T = Unit {0}} (Err why) text refused text_is refused_is
        tt (un.unrun other) tt (λ which is. unwritten which (same_fault _ _ is)) (λ which is. silent which (same_fault _ _ is)) (λ is. memory (same_fault _ _ is))
        (λ is. tells (same_fault _ _ is)) closed

    pub browsed_to_run : Browses libraries journal out report pages o
    browsed_to_run = decided why refl
      where
        decided : (w : OutputsFault) → why ≡ w → Browses libraries journal out report pages o
        decided (Unwritten Out) is =
            let end = unwritten Out is in
            of_run libraries journal out report pages o run_ends (λ all. all_not_unwritten o.end Out all end) (out_not_console o.end end)
            (λ also. let no : Out ≡ Pages = unwritten_once o.end Out Pages end also in cc) (λ also. absurd (out_not_side o.end end also))
        decided (Unwritten Side) is =
            let end = unwritten Side is in
            of_run libraries journal out report pages o run_ends (λ all. all_not_unwritten o.end Side all end) (side_not_console o.end end)
            (λ also. let no : Side ≡ Pages = unwritten_once o.end Side Pages end also in cc)
            (λ also. apart_run o.old mid wrote o.new journal out report opened (un.apart other) closing)
        decided (Unwritten Pages) is = absurd (other is)
        decided (Unwritten Console) is = absurd ((un.unrun other).no_console is)
        decided NoMemory is = browses_told libraries journal out report pages o run_ends (λ untold. subst TellsNoFault (memory is) untold)

  -- all was written or not, and the console was told the lines, or want of memory
  pub browsed_ended : (due : List BrowsePage) → ArePagesOf d.opened.opened d.entries due → (lines : List ℕ) → lines ≡ pages_text due
      → {T : Type 0} → (written : Result T OutputsFault) (text : List ℕ) (refused : Bool) → text ≡ files_text libraries results
      → refused ≡ has_refused results → OnOk written (mid.tells ≡ true → AreOutputs wrote out report d.entries)
      → OnOk written (mid.tells ≡ true → wrote.file pages ≡ Some lines)
      → IfErr written (AreUnpaged mid wrote out report pages d.entries lines)
      → OnOk written (IsResultTold o.told o.now o.faults o.faults_now text refused o.end)
      → ((which : Which) → written ≡ Err (Unwritten which) → o.end ≡ NotWritten which) → ((which : Which) → written ≡ Err (Unwritten which) → IsSilent o)
      → (written ≡ Err NoMemory → o.end ≡ Told fault.Memory) → (written ≡ Err NoMemory → IsTold fault.Memory o) → o.new.open_as journal ≡ None
      → Browses libraries journal out report pages o
  browsed_ended due are lines lines_are (Ok value) text refused text_is refused_is outputs paged un told unwritten silent memory tells closed =
      browsed_whole due are (record { text = text; refused = refused; told = told; refused_is = refused_is; text_is = text_is }) outputs
      (λ tells. paged tells ∙ ap Some lines_are)
  browsed_ended due are lines lines_are (Err (Unwritten Pages)) text refused text_is refused_is outputs paged un told unwritten silent memory tells closed =
      browsed_to_pages due are (subst (λ l. AreUnpaged mid wrote out report pages d.entries l (Unwritten Pages)) lines_are un) (unwritten Pages refl) (silent Pages refl)
  browsed_ended due are lines lines_are (Err (Unwritten Out)) text refused text_is refused_is outputs paged un told unwritten silent memory tells closed =
      browsed_to_run lines (Unwritten Out) un (λ is. cc) text refused text_is refused_is
      (λ which is. unwritten which (ap Err is)) (λ which is. silent which (ap Err is)) (λ is. memory (ap Err is)) (λ is. tells (ap Err is)) closed
  browsed_ended due are lines lines_are (Err (Unwritten Side)) text refused text_is refused_is outputs paged un told unwritten silent memory tells closed =
      browsed_to_run lines (Unwritten Side) un (λ is. cc) text refused text_is refused_is
      (λ which is. unwritten which (ap Err is)) (λ which is. silent which (ap Err is)) (λ is. memory (ap Err is)) (λ is. tells (ap Err is)) closed
  browsed_ended due are lines lines_are (Err (Unwritten Console)) text refused text_is refused_is outputs paged un told unwritten silent memory tells closed =
      browsed_to_run lines (Unwritten Console) un (λ is. cc) text refused text_is refused_is
      (λ which is. unwritten which (ap Err is)) (λ which is. silent which (ap Err is)) (λ is. memory (ap Err is)) (λ is. tells (ap Err is)) closed
  browsed_ended due are lines lines_are (Err NoMemory) text refused text_is refused_is outputs paged un told unwritten silent memory tells closed =
      browsed_to_run lines NoMemory un (λ is. cc) text refused text_is refused_is
      (λ which is. unwritten which (ap Err is)) (λ which is. silent which (ap Err is)) (λ is. memory (ap Err is)) (λ is. tells (ap Err is)) closed

  -- memory ran out before any output was begun
  pub browsed_to_memory : o.end ≡ Told fault.Memory → IsTold fault.Memory o → SameBut mid wrote [] → o.new.open_as journal ≡ None
      → Browses libraries journal out report pages o
  browsed_to_memory is told nothing closed =
      browses_failed libraries journal out report pages o fault.Memory is told
      (same_but_then o.old mid o.new (journal ∷ []) opened (same_but_then mid wrote o.new (journal ∷ [])
      (same_but_more mid wrote [] (journal ∷ []) (λ n other. tt) nothing) closing))
      (no_memory o.old o.new journal libraries _ closed (λ tells. runs.NoMemory refl (behind tells).0.merged))
