-- What is delivered of a catalogue's state and a file that is ready, from what the writing of both outputs says.
use Rattle.std.proofs.Common.{◌≡◌, ◌≢◌, ◌∙◌, ◌⊎◌, inl, inr, ℕ, true, List, [], ◌∷◌, Option, ap, subst, sym}
use Rattle.std.specs.Prelude.{IsSomeAnd, string_bytes, nat_lt, length}
use Rattle.marc_types.specs.declared.entry.Entry.{Entry}
use Rattle.outside.specs.Fault.{Rose}
use Rattle.outside.specs.Room.{SameBut, IsNoneOf}
use Rattle.command_words.specs.declared.library.Library.{Library}
use Rattle.catalogue_rules.specs.State.{State}
use Rattle.catalogue_rules.specs.Settle.{state_of}
use Rattle.durable_catalogue.specs.Logs.{HasHistory}
use Rattle.console_lines.specs.Ends.{Outcome, TellsNoFault, IsSilent, IsResultTold, ResultTold, ResultUntold, out_unwritten, pages_unwritten, console_unwritten}
use Rattle.console_lines.specs.declared.end.End.TheVariants.{Unwritten as NotWritten}
use Rattle.console_lines.specs.declared.end.Unwritten.{Unwritten}
use Rattle.console_lines.specs.declared.end.Unwritten.TheVariants.{Out, Side, Pages, Console}
use Rattle.console_lines.proofs.Ends.{unwritten_once, result_untold, result_no_output, result_no_pages, result_cause}
use Rattle.output_files.specs.Kept.{kept_keys}
use Rattle.output_files.specs.Outputs.{AreWritten, AreStopped, AtFirst, AtSecond}
use Rattle.journal_files.proofs.Histories.{due_once}
use Rattle.holdings.specs.declared.holding.Holding.{Holding}
use Rattle.holdings.specs.Shelves.{shelf_of}
use Rattle.file_holdings.specs.declared.refused.RefusedHolding.{RefusedHolding}
use Rattle.holdings_export.specs.Output.{holdings_export, holdings_rest}
use Rattle.holdings_command.specs.Lines.{holdings_results}
use Rattle.holdings_command.specs.Ready.{IsReady}
use Rattle.holdings_command.specs.Attaching.{rest_unwritten, Due, due_of, IsDelivered, OutFailed, RestFailed, ConsoleFailed, Whole, IsAttached}
use Rattle.holdings_command.specs.declared.ready.Ready.{Ready}
use Rattle.holdings_command.proofs.OnShelves.{there_more}

-- what is due of one history of a log is due of any other
module _ (library : Library) (code : Option (List ℕ)) (bytes : List ℕ) (out rest : List ℕ) (o : Outcome) (entries others : List Entry) (log : List ℕ)
    (has : HasHistory entries log) (also : HasHistory others log) where
  same_due : (accepted : List Holding) (refused : List RefusedHolding)
      → due_of library.file code (state_of others) accepted refused ≡ due_of library.file code (state_of entries) accepted refused
  same_due accepted refused =
      let p = due_once (λ es. holdings_export (kept_keys code) (state_of es) (shelf_of accepted)) others entries log also has in
      let q = due_once (λ es. holdings_rest (state_of es) (shelf_of accepted)) others entries log also has in
      let t = due_once (λ es. holdings_results library.file (state_of es) accepted refused) others entries log also has in
      λ i. record { out = p i; rest = q i; text = t i; refused = nat_lt 0 (length refused) }

  pub attached_of_any : IsAttached library code bytes (state_of others) out rest o → IsAttached library code bytes (state_of entries) out rest o
  attached_of_any is = record {
    accepted = is.accepted;
    refused = is.refused;
    judged = is.judged;
    delivered = subst (λ due. IsDelivered due out rest o) (same_due is.accepted is.refused) is.delivered;
  }

-- what is due of a file that is ready
module _ (library : Library) (code : Option (List ℕ)) (bytes : List ℕ) (s : State) (ready : Ready) (out rest : List ℕ) (o : Outcome) where
  abbrev pub ready_due : Due
  ready_due = record {
    out = holdings_export (kept_keys code) s ready.shelf;
    rest = holdings_rest s ready.shelf;
    text = string_bytes ready.text;
    refused = ready.refused;
  }

  attached_ready : IsDelivered ready_due out rest o → IsReady library bytes s ready → IsAttached library code bytes s out rest o
  attached_ready delivered is =
      let same : ready_due ≡ due_of library.file code s is.accepted is.refused = λ i. record {
        out = holdings_export (kept_keys code) s (is.shelf_is i);
        rest = holdings_rest s (is.shelf_is i);
        text = is.text_is i;
        refused = is.refused_is i;
      } in
      record {
        accepted = is.accepted;
        refused = is.refused;
        judged = is.judged;
        delivered = subst (λ due. IsDelivered due out rest o) same delivered;
      }

-- The command tells no fault, and what is due of a state and of the file was delivered, as far as it could be: where OUT could not be written
-- nothing but some names has changed.
pub record Delivers (names : List (List ℕ)) (out rest : List ℕ) (library : Library) (code : Option (List ℕ)) (s : State) (o : Outcome) : Type 0 where
  pub untold : TellsNoFault o.end
  pub no_pages : o.end ≢ pages_unwritten
  pub no_rest : o.end ≡ out_unwritten → SameBut o.old o.new names
  pub silent : (o.end ≡ out_unwritten) ⊎ (o.end ≡ rest_unwritten) → IsSilent o
  pub out_cause : o.end ≡ out_unwritten → Rose (o.old.out_faults out) (o.new.out_faults out)
  pub rest_cause : o.end ≡ rest_unwritten → Rose (o.old.out_faults rest) (o.new.out_faults rest)
  pub console_cause : o.end ≡ console_unwritten → Rose o.faults o.faults_now
  pub attached : o.old.tells ≡ true → IsSomeAnd (o.old.file library.file) (λ bytes. IsAttached library code bytes s out rest o)

module _ (names : List (List ℕ)) (out rest : List ℕ) (library : Library) (code : Option (List ℕ)) (s : State) (o : Outcome) (ready : Ready)
    (is : o.old.tells ≡ true → IsSomeAnd (o.old.file library.file) (λ bytes. IsReady library bytes s ready)) where
  attached_there : ((bytes : List ℕ) → o.old.tells ≡ true → IsDelivered (ready_due library code bytes s ready out rest o) out rest o)
      → o.old.tells ≡ true → IsSomeAnd (o.old.file library.file) (λ bytes. IsAttached library code bytes s out rest o)
  attached_there delivered tells =
      there_more (o.old.file library.file) (λ bytes. attached_ready library code bytes s ready out rest o (delivered bytes tells)) (is tells)

  -- an output could not be written
  pub delivers_stopped : (which : Unwritten) → IsNoneOf rest names → o.end ≡ NotWritten which → IsSilent o
      → AreStopped names out rest (holdings_export (kept_keys code) s ready.shelf) (holdings_rest s ready.shelf) o.old o.new which
      → Delivers names out rest library code s o
  delivers_stopped which apart end silent (AtFirst first up left alone) =
      let here : o.end ≡ out_unwritten = end ∙ ap NotWritten first in
      record {
        untold = subst TellsNoFault (sym end) tt;
        no_pages = λ also. let no : Out ≡ Pages = unwritten_once o.end Out Pages here also in cc;
        no_rest = λ also. alone;
        silent = λ either. silent;
        out_cause = λ also. up;
        rest_cause = λ also. let no : Out ≡ Side = unwritten_once o.end Out Side here also in cc;
        console_cause = λ also. let no : Out ≡ Console = unwritten_once o.end Out Console here also in cc;
        attached = attached_there (λ bytes tells. OutFailed here (left tells) (alone.files rest apart) silent);
      }
  delivers_stopped which apart end silent (AtSecond second up whole left) =
      let here : o.end ≡ rest_unwritten = end ∙ ap NotWritten second in
      record {
        untold = subst TellsNoFault (sym end) tt;
        no_pages = λ also. let no : Side ≡ Pages = unwritten_once o.end Side Pages here also in cc;
        no_rest = λ also. let no : Side ≡ Out = unwritten_once o.end Side Out here also in cc;
        silent = λ either. silent;
        out_cause = λ also. let no : Side ≡ Out = unwritten_once o.end Side Out here also in cc;
        rest_cause = λ also. up;
        console_cause = λ also. let no : Side ≡ Console = unwritten_once o.end Side Console here also in cc;
        attached = attached_there (λ bytes tells. RestFailed here (whole tells) (left tells) silent);
      }

  -- both were written, and the console was told the text or a front of it
  pub delivers_told : (o.old.tells ≡ true → AreWritten out rest (holdings_export (kept_keys code) s ready.shelf) (holdings_rest s ready.shelf) o.new)
      → IsResultTold o.told o.now o.faults o.faults_now (string_bytes ready.text) ready.refused o.end → Delivers names out rest library code s o
  delivers_told written told = record {
    untold = result_untold told;
    no_pages = result_no_pages told;
    no_rest = λ also. absurd (no_output.0 also);
    silent = λ either. absurd (no_other either);
    out_cause = λ also. absurd (no_output.0 also);
    rest_cause = λ also. absurd (no_output.1 also);
    console_cause = result_cause told;
    attached = attached_there (λ bytes tells. delivered bytes (written tells) told);
  }
    where
      no_output : (o.end ≢ out_unwritten) × (o.end ≢ rest_unwritten)
      no_output = result_no_output told

      no_other : (o.end ≡ out_unwritten) ⊎ (o.end ≡ rest_unwritten) → ⊥
      no_other (inl also) = no_output.0 also
      no_other (inr also) = no_output.1 also

      delivered : (bytes : List ℕ) → AreWritten out rest (holdings_export (kept_keys code) s ready.shelf) (holdings_rest s ready.shelf) o.new
          → IsResultTold o.told o.now o.faults o.faults_now (string_bytes ready.text) ready.refused o.end
          → IsDelivered (ready_due library code bytes s ready out rest o) out rest o
      delivered bytes are (ResultTold end line) = Whole end are.whole are.side_whole line
      delivered bytes are (ResultUntold end up front) = ConsoleFailed end are.whole are.side_whole front
