-- How the commands end that load files into a journal, from what their steps say.
use Rattle.std.proofs.Common.{◌≡◌, ◌≢◌, ◌⊎◌, inl, inr, ℕ, Bool, true, false, true≢false, List, [], ◌∷◌, None, refl, sym, ap, subst, ◌∙◌}
use Rattle.std.specs.Io.KnownBytes.{Appends}
use Rattle.std.specs.Str.{bytes_eq}
use Rattle.std.proofs.lemmas.Slice.Eq.{bytes_eq-Decides}
use Rattle.marc_types.specs.declared.entry.Entry.{Entry}
use Rattle.outside.specs.Fault.{Rose}
use Rattle.outside.specs.Room.{RoomView, SameBut}
use Rattle.outside.specs.Sink.{WritesFront}
use Rattle.outside.proofs.Rooms.{same_but_first, same_but_more, same_but_then}
use Rattle.command_words.specs.declared.library.Library.{Library}
use Rattle.catalogue_rules.specs.Settle.{state_of}
use Rattle.catalogue_rules.specs.Output.{export_of, all_keys}
use Rattle.console_lines.specs.Ends.{Outcome, IsTold, IsSilent, IsResultTold, end_of, out_unwritten, side_unwritten}
use Rattle.console_lines.specs.declared.end.End.TheVariants.{Told}
use Rattle.console_lines.specs.declared.end.Unwritten.TheVariants as unwritten
use Rattle.console_lines.specs.declared.fault.Fault.{Fault}
use Rattle.console_lines.specs.declared.fault.Fault.TheVariants as fault
use Rattle.console_lines.proofs.Ends.{told_once, told_not_unwritten, never_told, told_not_all, all_not_unwritten, out_not_console, out_not_side, side_not_console, result_untold, result_done, result_line, result_front, result_no_output, result_no_pages, result_cause}
use Rattle.loader_workers.specs.declared.result.FileResult.{FileResult}
use Rattle.output_files.specs.Outputs.{IsOutputLeft}
use Rattle.loading_commands.specs.Outcomes.{Fails}
use Rattle.loading_commands.specs.Texts.{files_text, has_refused}
use Rattle.loading_commands.specs.Runs.{EndsLoad, EndsRun, AreOutputs, AreOutAndLeft, WhyNotLoad}
use Rattle.loading_commands.specs.Loading.{Loads, Runs}
use Rattle.loading_commands.proofs.OneHistory.{MergedBy}
use Rattle.loading_commands.proofs.Missing.{told_of_loading, loading_untold, running_untold, unloaded_keeps}

pub decide_name : {P : Type 0} (a b : List ℕ) → (a ≡ b → P) → (a ≢ b → P) → P
decide_name {P} a b same other = decided (bytes_eq a b) refl
  where
    decided : (x : Bool) → bytes_eq a b ≡ x → P
    decided true is = same ((bytes_eq-Decides a b).0 is)
    decided false is = other (λ eq. true≢false (sym ((bytes_eq-Decides a b).1 eq) ∙ is))

-- a journal was opened in a room, outputs were written, and it was closed: nothing else changed
pub apart_run : (old mid out_room new : RoomView) (journal out report : List ℕ) → SameBut old mid (journal ∷ [])
    → SameBut mid out_room (out ∷ report ∷ []) → SameBut out_room new (journal ∷ []) → SameBut old new (journal ∷ out ∷ report ∷ [])
apart_run old mid out_room new journal out report opened wrote closing =
    let names = journal ∷ out ∷ report ∷ [] in
    same_but_then old mid new names (same_but_first old mid journal (out ∷ report ∷ []) opened)
    (same_but_then mid out_room new names (same_but_more mid out_room (out ∷ report ∷ []) names (λ n other. other.1) wrote)
    (same_but_first out_room new journal (out ∷ report ∷ []) closing))

-- and no name is open
pub closed_run : (old mid out_room new : RoomView) (journal out report : List ℕ) → ((n : List ℕ) → old.open_as n ≡ None) → SameBut old mid (journal ∷ [])
    → SameBut mid out_room (out ∷ report ∷ []) → out_room.open_as out ≡ None → out_room.open_as report ≡ None → SameBut out_room new (journal ∷ []) → new.open_as journal ≡ None
    → (n : List ℕ) → new.open_as n ≡ None
closed_run old mid out_room new journal out report free opened wrote out_closed report_closed closing closed n =
    decide_name n journal (λ is. subst (λ m. new.open_as m ≡ None) (sym is) closed) (λ no_journal. closing.open_names n (no_journal, tt) ∙
    decide_name n out (λ is. subst (λ m. out_room.open_as m ≡ None) (sym is) out_closed) (λ no_out.
    decide_name n report (λ is. subst (λ m. out_room.open_as m ≡ None) (sym is) report_closed) (λ no_report.
    wrote.open_names n (no_out, (no_report, tt)) ∙ (opened.open_names n (no_journal, tt) ∙ free n))))

module _ (libraries : List Library) (journal : List ℕ) (o : Outcome) where
  -- what the console is told of files that were loaded whole
  pub record TellsLines (results : List FileResult) : Type 0 where
    pub text : List ℕ
    pub refused : Bool
    pub told : IsResultTold o.told o.now o.faults o.faults_now text refused o.end
    pub refused_is : refused ≡ has_refused results
    pub text_is : text ≡ files_text libraries results

  pub loads_failed : (why : Fault) → o.end ≡ Told why → IsTold why o
      → Fails o.old o.new journal libraries why (WhyNotLoad o.old o.new journal libraries why) → Loads libraries journal o
  loads_failed why is told f = record {
    ends = subst EndsLoad (sym is) (told_of_loading why f.no_usage f.no_other_history);
    told = λ other also. subst (λ w. IsTold w o × (w ≢ fault.Usage)) (told_once o.end why other is also) (told, f.no_usage);
    because = λ other also tells. subst (WhyNotLoad o.old o.new journal libraries) (told_once o.end why other is also) (f.because tells);
    missing = λ other also tells. unloaded_keeps o.old o.new journal libraries why tells (f.because tells);
    device = λ also. f.device (told_once o.end why fault.Device is also);
    input = λ also. f.input (told_once o.end why fault.Input is also);
    console_cause = λ also. absurd (told_not_unwritten o.end why unwritten.Console is also);
    no_output = (told_not_unwritten o.end why unwritten.Out is, told_not_unwritten o.end why unwritten.Side is);
    whole = λ all. absurd (told_not_all o.end why is all);
    untold = λ also. absurd (told_not_unwritten o.end why unwritten.Console is also);
  }

  pub loads_told : (entries : List Entry) (results : List FileResult) → TellsLines results
      → (o.old.tells ≡ true → MergedBy o.old o.new journal libraries entries results) → Loads libraries journal o
  loads_told entries results t merged =
      let untold = result_untold t.told in record {
        ends = loading_untold o.end untold (result_no_output t.told) (result_no_pages t.told);
        told = λ why also. absurd (never_told o.end why untold also);
        because = λ why also. absurd (never_told o.end why untold also);
        missing = λ why also. absurd (never_told o.end why untold also);
        device = λ also. absurd (never_told o.end fault.Device untold also);
        input = λ also. absurd (never_told o.end fault.Input untold also);
        console_cause = result_cause t.told;
        no_output = result_no_output t.told;
        whole = λ all tells.
            let m = merged tells in
            record {
              merged = m.merged;
              console = subst (Appends o.told o.now) (t.text_is ∙ m.text_is) (result_line t.told all);
              end_is = result_done t.told all ∙ ap (λ b. end_of b) (t.refused_is ∙ m.any_is);
            };
        untold = λ failed tells.
            let m = merged tells in
            record { merged = m.merged; console = subst (WritesFront o.told o.now) (t.text_is ∙ m.text_is) (result_front t.told) };
      }

  neither : {A B : Type 0} {C : Type 0} → (A → ⊥) → (B → ⊥) → A ⊎ B → C
  neither first second (inl a) = absurd (first a)
  neither first second (inr b) = absurd (second b)

  module _ (out report : List ℕ) where
    pub runs_failed : (why : Fault) → o.end ≡ Told why → IsTold why o → SameBut o.old o.new (journal ∷ [])
        → Fails o.old o.new journal libraries why (WhyNotLoad o.old o.new journal libraries why) → Runs libraries journal out report o
    runs_failed why is told apart f =
        let no = told_not_unwritten o.end why in record {
          ends = subst EndsRun (sym is) (told_of_loading why f.no_usage f.no_other_history);
          told = λ other also. subst (λ w. IsTold w o × (w ≢ fault.Usage)) (told_once o.end why other is also) (told, f.no_usage);
          because = λ other also tells. subst (WhyNotLoad o.old o.new journal libraries) (told_once o.end why other is also) (f.because tells);
          missing = λ other also tells. unloaded_keeps o.old o.new journal libraries why tells (f.because tells);
          untouched = λ other also. apart;
          device = λ also. f.device (told_once o.end why fault.Device is also);
          input = λ also. f.input (told_once o.end why fault.Input is also);
          out_cause = λ also. absurd (no unwritten.Out is also);
          report_cause = λ also. absurd (no unwritten.Side is also);
          console_cause = λ also. absurd (no unwritten.Console is also);
          whole = λ all. absurd (told_not_all o.end why is all);
          no_report = λ also. absurd (no unwritten.Out is also);
          silent = neither (no unwritten.Out is) (no unwritten.Side is);
          in_out = λ also. absurd (no unwritten.Out is also);
          in_report = λ also. absurd (no unwritten.Side is also);
          untold = λ also. absurd (no unwritten.Console is also);
        }

    pub runs_told : (entries : List Entry) (results : List FileResult) → TellsLines results
        → (o.old.tells ≡ true → MergedBy o.old o.new journal libraries entries results) → (o.old.tells ≡ true → AreOutputs o.new out report entries)
        → Runs libraries journal out report o
    runs_told entries results t merged outputs =
        let untold = result_untold t.told in
        let no_output = result_no_output t.told in record {
          ends = running_untold o.end untold (result_no_pages t.told);
          told = λ why also. absurd (never_told o.end why untold also);
          because = λ why also. absurd (never_told o.end why untold also);
          missing = λ why also. absurd (never_told o.end why untold also);
          untouched = λ why also. absurd (never_told o.end why untold also);
          device = λ also. absurd (never_told o.end fault.Device untold also);
          input = λ also. absurd (never_told o.end fault.Input untold also);
          out_cause = λ also. absurd (no_output.0 also);
          report_cause = λ also. absurd (no_output.1 also);
          console_cause = result_cause t.told;
          whole = λ all tells.
              let m = merged tells in
              record {
                merged = m.merged;
                outputs = subst (AreOutputs o.new out report) m.entries_are (outputs tells);
                console = subst (Appends o.told o.now) (t.text_is ∙ m.text_is) (result_line t.told all);
                end_is = result_done t.told all ∙ ap (λ b. end_of b) (t.refused_is ∙ m.any_is);
              };
          no_report = λ also. absurd (no_output.0 also);
          silent = neither no_output.0 no_output.1;
          in_out = λ also. absurd (no_output.0 also);
          in_report = λ also. absurd (no_output.1 also);
          untold = λ failed tells.
              let m = merged tells in
              record {
                merged = m.merged;
                outputs = subst (AreOutputs o.new out report) m.entries_are (outputs tells);
                console = subst (WritesFront o.told o.now) (t.text_is ∙ m.text_is) (result_front t.told);
              };
        }

    -- an output was not written, behind files that were loaded whole
    module _ (entries : List Entry) (results : List FileResult) (silent : IsSilent o)
        (merged : o.old.tells ≡ true → MergedBy o.old o.new journal libraries entries results) where
      pub runs_in_out : o.end ≡ out_unwritten → Rose (o.old.out_faults out) (o.new.out_faults out) → SameBut o.old o.new (journal ∷ out ∷ [])
          → (o.old.tells ≡ true → IsOutputLeft o.old o.new out (export_of all_keys (state_of entries)))
          → Runs libraries journal out report o
      runs_in_out is rose apart left =
          let no : (why : Fault) → o.end ≡ Told why → ⊥ = λ why also. told_not_unwritten o.end why unwritten.Out also is in record {
            ends = subst EndsRun (sym is) tt;
            told = λ why also. absurd (no why also);
            because = λ why also. absurd (no why also);
            missing = λ why also. absurd (no why also);
            untouched = λ why also. absurd (no why also);
            device = λ also. absurd (no fault.Device also);
            input = λ also. absurd (no fault.Input also);
            out_cause = λ also. rose;
            report_cause = λ also. absurd (out_not_side o.end is also);
            console_cause = λ also. absurd (out_not_console o.end is also);
            whole = λ all. absurd (all_not_unwritten o.end unwritten.Out all is);
            no_report = λ also. apart;
            silent = λ either. silent;
            in_out = λ also tells.
                let m = merged tells in
                record { merged = m.merged; left = subst (λ es. IsOutputLeft o.old o.new out (export_of all_keys (state_of es))) m.entries_are (left tells) };
            in_report = λ also. absurd (out_not_side o.end is also);
            untold = λ also. absurd (out_not_console o.end is also);
          }

      pub runs_in_report : o.end ≡ side_unwritten → Rose (o.old.out_faults report) (o.new.out_faults report)
          → (o.old.tells ≡ true → AreOutAndLeft o.old o.new out report entries) → Runs libraries journal out report o
      runs_in_report is rose left =
          let no : (why : Fault) → o.end ≡ Told why → ⊥ = λ why also. told_not_unwritten o.end why unwritten.Side also is in record {
            ends = subst EndsRun (sym is) tt;
            told = λ why also. absurd (no why also);
            because = λ why also. absurd (no why also);
            missing = λ why also. absurd (no why also);
            untouched = λ why also. absurd (no why also);
            device = λ also. absurd (no fault.Device also);
            input = λ also. absurd (no fault.Input also);
            out_cause = λ also. absurd (out_not_side o.end also is);
            report_cause = λ also. rose;
            console_cause = λ also. absurd (side_not_console o.end is also);
            whole = λ all. absurd (all_not_unwritten o.end unwritten.Side all is);
            no_report = λ also. absurd (out_not_side o.end also is);
            silent = λ either. silent;
            in_out = λ also. absurd (out_not_side o.end also is);
            in_report = λ also tells.
                let m = merged tells in
                record { merged = m.merged; outputs = subst (AreOutAndLeft o.old o.new out report) m.entries_are (left tells) };
            untold = λ also. absurd (side_not_console o.end is also);
          }

-- memory ran out behind loading
pub no_memory : (old new : RoomView) (journal : List ℕ) (libraries : List Library) (so : Type 0) → new.open_as journal ≡ None → (old.tells ≡ true → so)
    → Fails old new journal libraries fault.Memory so
no_memory old new journal libraries so closed because = record {
  closed = closed;
  because = because;
  device = λ is. cc;
  input = λ is. cc;
  no_usage = λ is. cc;
  no_other_history = λ is. cc;
}

-- a journal was opened in a room and closed: no name is open
pub closed_load : (old mid new : RoomView) (journal : List ℕ) → ((n : List ℕ) → old.open_as n ≡ None) → SameBut old mid (journal ∷ []) → SameBut mid new (journal ∷ []) → new.open_as journal ≡ None
    → (n : List ℕ) → new.open_as n ≡ None
closed_load old mid new journal free opened closing closed n =
    decide_name n journal (λ is. subst (λ m. new.open_as m ≡ None) (sym is) closed) (λ other. closing.open_names n (other, tt) ∙ (opened.open_names n (other, tt) ∙ free n))
