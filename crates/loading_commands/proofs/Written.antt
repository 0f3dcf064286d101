-- What a run's outputs are, from what was written one after the other.
use Rattle.std.proofs.Common.{◌≡◌, ◌≢◌, ◌∙◌, ℕ, true, List, [], ◌∷◌, sym, arith}
use Rattle.marc_types.specs.declared.entry.Entry.{Entry}
use Rattle.outside.specs.Fault.{Rose}
use Rattle.outside.specs.Room.{RoomView, SameBut}
use Rattle.outside.proofs.Rooms.{same_but_then, same_but_more, same_but_none}
use Rattle.catalogue_rules.specs.Settle.{state_of}
use Rattle.catalogue_rules.specs.Output.{export_of, all_keys, report_of}
use Rattle.command_words.specs.Command.{AreNames}
use Rattle.console_lines.specs.declared.end.OutputsFault.{OutputsFault}
use Rattle.console_lines.specs.declared.end.OutputsFault.TheVariants.{NoMemory, Unwritten}
use Rattle.console_lines.specs.declared.end.Unwritten.TheVariants.{Out, Side}
use Rattle.output_files.specs.Outputs.{IsOutputLeft}
use Rattle.output_files.proofs.Parts.{left_since, left_until}
use Rattle.loading_commands.specs.Outputs.{AreUnwritten}
use Rattle.loading_commands.specs.Runs.{AreOutputs, AreOutAndLeft}

module _ (old new : RoomView) (out report : List ℕ) (entries : List Entry) where
  pub nothing_begun : SameBut old new [] → AreUnwritten old new out report entries NoMemory
  nothing_begun apart = record {
    no_console = λ is. cc;
    no_pages = λ is. cc;
    out_cause = λ is. cc;
    report_cause = λ is. cc;
    no_report = λ other. same_but_none old new (out ∷ []) apart;
    in_out = λ is. cc;
    in_report = λ is. cc;
    memory = λ is. apart;
  }

-- the same where a journal was opened before that and closed behind it
module _ (old mid wrote new : RoomView) (journal out report : List ℕ) (entries : List Entry) (names : AreNames (journal ∷ out ∷ report ∷ []))
    (opened : SameBut old mid (journal ∷ [])) (closing : SameBut wrote new (journal ∷ [])) where
  left_between : (name due : List ℕ) → name ≢ journal → IsOutputLeft mid wrote name due → IsOutputLeft old new name due
  left_between name due other is =
      left_until old wrote new name due (journal ∷ []) (other, tt) closing (left_since old mid wrote name due (journal ∷ []) (other, tt) opened is)

  out_is : new.file out ≡ wrote.file out
  out_is = closing.files out ((λ same. names.1.0 (sym same)), tt)

  pub outputs_are : (mid.tells ≡ true → AreOutputs wrote out report entries) → old.tells ≡ true → AreOutputs new out report entries
  outputs_are written tells =
      let is = written (opened.tells ∙ tells) in record {
        export = out_is ∙ is.export;
        report_is = closing.files report ((λ same. names.1.1.0 (sym same)), tt) ∙ is.report_is;
      }

  rose_between : (name : List ℕ) → Rose (mid.out_faults name) (wrote.out_faults name) → Rose (old.out_faults name) (new.out_faults name)
  rose_between name rose = let first = opened.outs name in let last = closing.outs name in omega (arith, first, rose, last)

  module _ (why : OutputsFault) (are : AreUnwritten mid wrote out report entries why) where
    pub out_rose : why ≡ Unwritten Out → Rose (old.out_faults out) (new.out_faults out)
    out_rose is = rose_between out (are.out_cause is)

    pub report_rose_too : why ≡ Unwritten Side → Rose (old.out_faults report) (new.out_faults report)
    report_rose_too is = rose_between report (are.report_cause is)

    pub no_report : why ≢ Unwritten Side → SameBut old new (journal ∷ out ∷ [])
    no_report unfailed =
        let names_too = journal ∷ out ∷ [] in
        same_but_then old mid new names_too (same_but_more old mid (journal ∷ []) names_too (λ n other. (other.0, tt)) opened)
        (same_but_then mid wrote new names_too (same_but_more mid wrote (out ∷ []) names_too (λ n other. other.1) (are.no_report unfailed))
        (same_but_more wrote new (journal ∷ []) names_too (λ n other. (other.0, tt)) closing))

    pub in_out : why ≡ Unwritten Out → old.tells ≡ true → IsOutputLeft old new out (export_of all_keys (state_of entries))
    in_out is tells = left_between out (export_of all_keys (state_of entries)) (λ same. names.1.0 (sym same)) (are.in_out is (opened.tells ∙ tells))

    pub in_report : why ≡ Unwritten Side → old.tells ≡ true → AreOutAndLeft old new out report entries
    in_report fails tells =
        let is = are.in_report fails (opened.tells ∙ tells) in record {
          export = out_is ∙ is.export;
          report_is = left_between report (report_of (state_of entries)) (λ same. names.1.1.0 (sym same)) is.report_is;
        }

    pub ran_out : why ≡ NoMemory → SameBut old new (journal ∷ [])
    ran_out is =
        let names_too = journal ∷ [] in
        same_but_then old mid new names_too opened (same_but_then mid wrote new names_too (same_but_none mid wrote names_too (are.memory is)) closing)
