-- How the command ends that doesn't hold its journal, from what its steps say.
use Rattle.std.proofs.Common.{◌≡◌, ◌≢◌, ◌∙◌, ℕ, true, List, [], ◌∷◌, Option, Some, Result, Ok, Err, OnOk, refl, sym, subst}
use Rattle.std.specs.Prelude.{IsSomeAnd}
use Rattle.marc_types.specs.declared.entry.Entry.{Entry}
use Rattle.marc_types.specs.declared.entry.Limits.{Limits}
use Rattle.outside.specs.Fault.{Rose}
use Rattle.outside.specs.Room.{RoomView, IsUntouched, SameBut}
use Rattle.outside.proofs.Counts.{rose_since}
use Rattle.outside.proofs.Rooms.{same_but_none, same_but_then, untouched_same, untouched_then}
use Rattle.entry_record.specs.History.{IsWithin}
use Rattle.durable_catalogue.specs.Logs.{HasHistory}
use Rattle.durable_catalogue.specs.Openings.{IsUnopened}
use Rattle.durable_catalogue.specs.declared.fault.OpenFault.{OpenFault}
use Rattle.durable_catalogue.specs.declared.fault.OpenFault.TheVariants as opening
use Rattle.console_lines.specs.Ends.{Outcome, IsTold, IsSilent}
use Rattle.console_lines.specs.declared.end.End.TheVariants.{Done, Unwritten as NotWritten, Told}
use Rattle.console_lines.specs.declared.end.Unwritten.{Unwritten}
use Rattle.console_lines.specs.declared.end.Unwritten.TheVariants.{Out, Side}
use Rattle.console_lines.specs.declared.end.OutputsFault.{OutputsFault}
use Rattle.console_lines.specs.declared.end.OutputsFault.TheVariants.{NoMemory as RanOut, Unwritten as NotBoth}
use Rattle.console_lines.specs.declared.fault.Fault.{Fault}
use Rattle.console_lines.specs.declared.fault.Fault.TheVariants.{Input, Memory}
use Rattle.console_lines.proofs.Ends.{told_once, told_not_unwritten, told_not_done, done_not_unwritten, never_told, unwritten_once}
use Rattle.memory_files.specs.declared.reading.ReadFault.{ReadFault}
use Rattle.memory_files.specs.declared.reading.ReadFault.TheVariants as read
use Rattle.journal_files.specs.Journals.{journal_limits, HasFittingHistory}
use Rattle.journal_files.proofs.Histories.{due_of_any, fitting_history}
use Rattle.output_files.specs.Outputs.{AreWritten, AreStopped, AtFirst, AtSecond, IsOutputLeft}
use Rattle.output_files.proofs.Parts.{left_since}
use Rattle.unheld_journals.specs.Untaken.{WhyUntaken, fault_of_look, fault_of_reading}
use Rattle.worklist_page.specs.Page.{page_of}
use Rattle.worklist_command.specs.Unheld.{EndsListingUnheld, ListsUnheld}
use Rattle.worklist_command.specs.Working.{list_due, list_unwritten, page_unwritten}

-- a fault for which bytes aren't taken is one of this command, and none of the input
ends_untaken : (reason : OpenFault) → reason ≢ opening.OldVersion → EndsListingUnheld (Told (fault_of_look reason))
ends_untaken opening.DeviceFault current = tt
ends_untaken (opening.NotAJournal place) current = tt
ends_untaken opening.OldVersion current = absurd (current refl)
ends_untaken opening.Full current = tt
ends_untaken opening.NoMemory current = tt

untaken_not_input : (reason : OpenFault) → fault_of_look reason ≡ Input → ⊥
untaken_not_input opening.DeviceFault is = cc
untaken_not_input (opening.NotAJournal place) is = cc
untaken_not_input opening.OldVersion is = cc
untaken_not_input opening.Full is = cc
untaken_not_input opening.NoMemory is = cc

same_bytes : (bytes others : List ℕ) → Some bytes ≡ Some others → bytes ≡ others
same_bytes bytes others is = cc

module _ (journal list page : List ℕ) (code : Option (List ℕ)) (o : Outcome) where
  -- a fault was told
  unheld_told : (why : Fault) → o.end ≡ Told why → IsTold why o → EndsListingUnheld (Told why) → SameBut o.old o.new (list ∷ []) → IsUntouched o.old o.new list
      → (why ≡ Input → Rose (o.old.in_faults journal) (o.new.in_faults journal))
      → (why ≢ Input → why ≢ Memory → o.old.tells ≡ true → IsSomeAnd (o.old.file journal) (λ bytes. WhyUntaken (journal_limits o.old) bytes why)) → ListsUnheld journal list page code o
  unheld_told why is told ends apart same input so = record {
    ends = subst EndsListingUnheld (sym is) ends;
    told = λ other also. subst (λ w. IsTold w o) (told_once o.end why other is also) told;
    untouched = λ other also. (apart, same);
    so = λ other also no_input no_memory tells.
        let once = told_once o.end why other is also in
        subst (λ w. IsSomeAnd (o.old.file journal) (λ bytes. WhyUntaken (journal_limits o.old) bytes w)) once
        (so (λ e. no_input (sym once ∙ e)) (λ e. no_memory (sym once ∙ e)) tells);
    no_page = λ also. apart;
    silent = λ untold. absurd (never_told o.end why untold is);
    input = λ also. input (told_once o.end why Input is also);
    list_cause = λ also. absurd (told_not_unwritten o.end why Out is also);
    page_cause = λ also. absurd (told_not_unwritten o.end why Side is also);
    history = λ untold. absurd (never_told o.end why untold is);
    whole = λ bytes entries also. absurd (told_not_done o.end why is also);
    list_part = λ bytes entries also. absurd (told_not_unwritten o.end why Out is also);
    page_part = λ bytes entries also. absurd (told_not_unwritten o.end why Side is also);
  }

  -- the journal could not be read
  pub unheld_unread : (reason : ReadFault) (fault : Fault) → fault ≡ fault_of_reading reason → o.end ≡ Told fault → IsTold fault o → SameBut o.old o.new []
      → (reason ≡ read.InputFault → Rose (o.old.in_faults journal) (o.new.in_faults journal)) → ListsUnheld journal list page code o
  unheld_unread reason fault words is told stays rose = by reason (subst (λ f. o.end ≡ Told f) words is) (subst (λ f. IsTold f o) words told) rose
    where
      by : (reason : ReadFault) → o.end ≡ Told (fault_of_reading reason) → IsTold (fault_of_reading reason) o
          → (reason ≡ read.InputFault → Rose (o.old.in_faults journal) (o.new.in_faults journal)) → ListsUnheld journal list page code o
      by read.InputFault is told rose =
          unheld_told Input is told tt (same_but_none o.old o.new (list ∷ []) stays) (untouched_same o.old o.new list stays) (λ same. rose refl) (λ other. absurd (other refl))
      by read.NoMemory is told rose =
          unheld_told Memory is told tt (same_but_none o.old o.new (list ∷ []) stays) (untouched_same o.old o.new list stays) (λ same. cc) (λ other more. absurd (more refl))

  module _ (bytes : List ℕ) (there : o.old.tells ≡ true → o.old.file journal ≡ Some bytes) where
    -- its bytes are not taken
    pub unheld_untaken : (limits : Limits) (reason : OpenFault) (fault : Fault) → fault ≡ fault_of_look reason → o.end ≡ Told fault → IsTold fault o
        → reason ≢ opening.OldVersion → SameBut o.old o.new [] → IsUnopened limits bytes reason → limits ≡ journal_limits o.old → ListsUnheld journal list page code o
    unheld_untaken limits reason fault words is told current stays unopened same_limits =
        unheld_told (fault_of_look reason) (subst (λ f. o.end ≡ Told f) words is) (subst (λ f. IsTold f o) words told) (ends_untaken reason current)
        (same_but_none o.old o.new (list ∷ []) stays) (untouched_same o.old o.new list stays) (λ same. absurd (untaken_not_input reason same))
        (λ other more tells. subst (λ file. IsSomeAnd file (λ bytes. WhyUntaken (journal_limits o.old) bytes (fault_of_look reason))) (sym (there tells))
        (record { reason = reason; is = refl; so = subst (λ l. IsUnopened l bytes reason) same_limits unopened }))

    module _ (mid : RoomView) (stays : SameBut o.old mid []) (history : List Entry) (has : HasHistory history bytes)
        (within : IsWithin (journal_limits o.old) history) where
      fits : o.old.tells ≡ true → IsSomeAnd (o.old.file journal) (HasFittingHistory o.old)
      fits tells = subst (λ file. IsSomeAnd file (HasFittingHistory o.old)) (sym (there tells)) (fitting_history o.old history bytes has within)

      -- any history of the file is one of the bytes that were read
      had : (others : List ℕ) (entries : List Entry) → o.old.tells ≡ true → o.old.file journal ≡ Some others → HasHistory entries others → HasHistory entries bytes
      had others entries tells at also = subst (HasHistory entries) (sym (same_bytes bytes others (sym (there tells) ∙ at))) also

      list_of_any : (P : List ℕ → Type 0) (entries : List Entry) → HasHistory entries bytes → P (list_due code history) → P (list_due code entries)
      list_of_any P entries also = due_of_any P (list_due code) entries history bytes also has

      page_of_any : (P : List ℕ → Type 0) (entries : List Entry) → HasHistory entries bytes → P (page_of history) → P (page_of entries)
      page_of_any P entries also = due_of_any P page_of entries history bytes also has

      left : (name due : List ℕ) → IsOutputLeft mid o.new name due → IsOutputLeft o.old o.new name due
      left name due is = left_since o.old mid o.new name due [] tt stays is

      unheld_whole : o.end ≡ Done → IsSilent o → (mid.tells ≡ true → AreWritten list page (list_due code history) (page_of history) o.new) → ListsUnheld journal list page code o
      unheld_whole is silent are = record {
        ends = subst EndsListingUnheld (sym is) tt;
        told = λ why also. absurd (told_not_done o.end why also is);
        untouched = λ why also. absurd (told_not_done o.end why also is);
        so = λ why also. absurd (told_not_done o.end why also is);
        no_page = λ also. absurd (done_not_unwritten o.end Out is also);
        silent = λ untold. silent;
        input = λ also. absurd (told_not_done o.end Input also is);
        list_cause = λ also. absurd (done_not_unwritten o.end Out is also);
        page_cause = λ also. absurd (done_not_unwritten o.end Side is also);
        history = λ untold. fits;
        whole = λ others entries also tells at has_too.
            let one = had others entries tells at has_too in
            record {
              whole = list_of_any (λ due. o.new.file list ≡ Some due) entries one (are (stays.tells ∙ tells)).whole;
              side_whole = page_of_any (λ due. o.new.file page ≡ Some due) entries one (are (stays.tells ∙ tells)).side_whole;
            };
        list_part = λ others entries also. absurd (done_not_unwritten o.end Out is also);
        page_part = λ others entries also. absurd (done_not_unwritten o.end Side is also);
      }

      unheld_stopped : (which : Unwritten) → o.end ≡ NotWritten which → IsSilent o
          → AreStopped (list ∷ []) list page (list_due code history) (page_of history) mid o.new which → ListsUnheld journal list page code o
      unheld_stopped which end silent (AtFirst first up part alone) =
          let is : o.end ≡ list_unwritten = subst (λ w. o.end ≡ NotWritten w) first end in
          record {
            ends = subst EndsListingUnheld (sym is) tt;
            told = λ why also. absurd (told_not_unwritten o.end why Out also is);
            untouched = λ why also. absurd (told_not_unwritten o.end why Out also is);
            so = λ why also. absurd (told_not_unwritten o.end why Out also is);
            no_page = λ also. same_but_then o.old mid o.new (list ∷ []) (same_but_none o.old mid (list ∷ []) stays) alone;
            silent = λ untold. silent;
            input = λ also. absurd (told_not_unwritten o.end Input Out also is);
            list_cause = λ also. rose_since _ _ _ (stays.outs list) up;
            page_cause = λ also. let no : Out ≡ Side = unwritten_once o.end Out Side is also in cc;
            history = λ untold. fits;
            whole = λ others entries also. absurd (done_not_unwritten o.end Out also is);
            list_part = λ others entries also tells at has_too.
                list_of_any (IsOutputLeft o.old o.new list) entries (had others entries tells at has_too) (left list (list_due code history) (part (stays.tells ∙ tells)));
            page_part = λ others entries also. let no : Out ≡ Side = unwritten_once o.end Out Side is also in cc;
          }
      unheld_stopped which end silent (AtSecond second up whole part) =
          let is : o.end ≡ page_unwritten = subst (λ w. o.end ≡ NotWritten w) second end in
          record {
            ends = subst EndsListingUnheld (sym is) tt;
            told = λ why also. absurd (told_not_unwritten o.end why Side also is);
            untouched = λ why also. absurd (told_not_unwritten o.end why Side also is);
            so = λ why also. absurd (told_not_unwritten o.end why Side also is);
            no_page = λ also. let no : Side ≡ Out = unwritten_once o.end Side Out is also in cc;
            silent = λ untold. silent;
            input = λ also. absurd (told_not_unwritten o.end Input Side also is);
            list_cause = λ also. let no : Side ≡ Out = unwritten_once o.end Side Out is also in cc;
            page_cause = λ also. rose_since _ _ _ (stays.outs page) up;
            history = λ untold. fits;
            whole = λ others entries also. absurd (done_not_unwritten o.end Side also is);
            list_part = λ others entries also. let no : Side ≡ Out = unwritten_once o.end Side Out is also in cc;
            page_part = λ others entries also tells at has_too.
                let one = had others entries tells at has_too in (
                  list_of_any (λ due. o.new.file list ≡ Some due) entries one (whole (stays.tells ∙ tells)),
                  page_of_any (IsOutputLeft o.old o.new page) entries one (left page (page_of history) (part (stays.tells ∙ tells))),
                );
          }

      -- both were written, or could not be, or memory ran out
      pub unheld_ended : {T : Type 0} → (written : Result T OutputsFault)
          → OnOk written (mid.tells ≡ true → AreWritten list page (list_due code history) (page_of history) o.new)
          → ((which : Unwritten) → written ≡ Err (NotBoth which)
          → AreStopped (list ∷ []) list page (list_due code history) (page_of history) mid o.new which)
          → (written ≡ Err RanOut → SameBut mid o.new (list ∷ []) × IsUntouched mid o.new list)
          → OnOk written (o.end ≡ Done) → ((which : Unwritten) → written ≡ Err (NotBoth which) → o.end ≡ NotWritten which)
          → (written ≡ Err RanOut → o.end ≡ Told Memory) → (written ≡ Err RanOut → IsTold Memory o) → ((written ≡ Err RanOut → ⊥) → IsSilent o)
          → ListsUnheld journal list page code o
      unheld_ended (Ok value) are stopped unbegun done failed memory told silent = unheld_whole done (silent (λ e. cc)) are
      unheld_ended (Err (NotBoth which)) are stopped unbegun done failed memory told silent =
          unheld_stopped which (failed which refl) (silent (λ e. cc)) (stopped which refl)
      unheld_ended (Err RanOut) are stopped unbegun done failed memory told silent =
          unheld_told Memory (memory refl) (told refl) tt (same_but_then o.old mid o.new (list ∷ []) (same_but_none o.old mid (list ∷ []) stays) (unbegun refl).0)
          (untouched_then o.old mid o.new list (untouched_same o.old mid list stays) (unbegun refl).1) (λ same. cc) (λ other more. absurd (more refl))
