-- What the steps of the command leave of the room.
use Rattle.std.proofs.Common.{◌≡◌, ◌≢◌, ◌∙◌, ℕ, true, List, ◌∷◌, [], sym, ap, Some, None, arith}
use Rattle.outside.specs.Fault.{Rose}
use Rattle.outside.specs.Room.{RoomView, IsUntouched, SameBut}
use Rattle.outside.proofs.Rooms.{same_but_first, same_but_more, same_but_none, same_but_then, untouched_then}
use Rattle.output_files.specs.Outputs.{IsOutputLeft, AreWritten, AreStopped, AtFirst, AtSecond}
use Rattle.output_files.proofs.Parts.{left_since, left_until}
use Rattle.console_lines.specs.declared.end.Unwritten.{Unwritten}
use Rattle.marc_types.specs.declared.entry.Entry.{Entry}
use Rattle.catalogue_rules.specs.Settle.{state_of}
use Rattle.worklist_page.specs.Brought.{brought_by}
use Rattle.worklist_page.specs.Page.{page_of, state_page}
use Rattle.worklist_page.specs.declared.bringer.Bringer.{Bringer}

-- nothing changed under another name
pub untouched_apart : (old new : RoomView) (journal name : List ℕ) → journal ≢ name → SameBut old new (journal ∷ []) → IsUntouched old new name
untouched_apart old new journal name differ apart = record {
  file = apart.files name ((λ e. differ (sym e)), tt);
  is_log = apart.log_names name ((λ e. differ (sym e)), tt);
  log = apart.logs name ((λ e. differ (sym e)), tt);
}

-- The journal was opened, the outputs written, and the journal closed.
module _ (old opened written new : RoomView) (journal list page : List ℕ) (first : SameBut old opened (journal ∷ []))
    (last : SameBut written new (journal ∷ [])) where
  pub all_apart : SameBut opened written (list ∷ page ∷ []) → SameBut old new (journal ∷ list ∷ page ∷ [])
  all_apart outs =
      let names : List (List ℕ) = journal ∷ list ∷ page ∷ [] in
      let both : List (List ℕ) = list ∷ page ∷ [] in
      same_but_then old opened new names (same_but_first old opened journal both first)
      (same_but_then opened written new names (same_but_more opened written both names (λ n other. other.1) outs)
      (same_but_first written new journal both last))

  -- where the second output wasn't begun
  pub without_page : SameBut opened written (list ∷ []) → SameBut old new (journal ∷ list ∷ [])
  without_page alone =
      let names : List (List ℕ) = journal ∷ list ∷ [] in
      let one : List (List ℕ) = list ∷ [] in
      same_but_then old opened new names (same_but_first old opened journal one first)
      (same_but_then opened written new names (same_but_more opened written one names (λ n other. other.1) alone)
      (same_but_first written new journal one last))

  pub still_untouched : journal ≢ list → IsUntouched opened written list → IsUntouched old new list
  still_untouched differ same =
      untouched_then old opened new list (untouched_apart old opened journal list differ first)
      (untouched_then opened written new list same (untouched_apart written new journal list differ last))

  module _ (name : List ℕ) (differ : journal ≢ name) where
    behind : new.file name ≡ written.file name
    behind = last.files name ((λ e. differ (sym e)), tt)

    pub closed_behind : written.open_as name ≡ None → new.open_as name ≡ None
    closed_behind closed = last.open_names name ((λ e. differ (sym e)), tt) ∙ closed

    rose : Rose (opened.out_faults name) (written.out_faults name) → Rose (old.out_faults name) (new.out_faults name)
    rose up = omega (arith, first.outs name, last.outs name, up)

    left : (due : List ℕ) → IsOutputLeft opened written name due → IsOutputLeft old new name due
    left due is =
        let names : List (List ℕ) = journal ∷ [] in
        left_until old written new name due names ((λ e. differ (sym e)), tt) last
        (left_since old opened written name due names ((λ e. differ (sym e)), tt) first is)

    whole : (due : List ℕ) → written.file name ≡ Some due → new.file name ≡ Some due
    whole due is = behind ∙ is

  module _ (no_list : journal ≢ list) (no_page : journal ≢ page) (due due_page : List ℕ) where
    pub all_written : (opened.tells ≡ true → AreWritten list page due due_page written) → old.tells ≡ true → AreWritten list page due due_page new
    all_written are tells = record {
      whole = whole list no_list due (are (first.tells ∙ tells)).whole;
      side_whole = whole page no_page due_page (are (first.tells ∙ tells)).side_whole;
    }

    pub all_stopped : (which : Unwritten) → AreStopped (list ∷ []) list page due due_page opened written which
        → AreStopped (journal ∷ list ∷ []) list page due due_page old new which
    all_stopped which (AtFirst is up first_left alone) =
        AtFirst is (rose list no_list up) (λ tells. left list no_list due (first_left (first.tells ∙ tells))) (without_page alone)
    all_stopped which (AtSecond is up first_whole second_left) =
        AtSecond is (rose page no_page up) (λ tells. whole list no_list due (first_whole (first.tells ∙ tells)))
        (λ tells. left page no_page due_page (second_left (first.tells ∙ tells)))

-- the journal was read, and the outputs written
pub read_apart : (old mid new : RoomView) (names : List (List ℕ)) → SameBut old mid [] → SameBut mid new names → SameBut old new names
read_apart old mid new names first second = same_but_then old mid new names (same_but_none old mid names first) second

-- what is due in PAGE of a history, from what was counted of it
pub page_due : (history : List Entry) (brought : List (Bringer × ℕ)) → brought ≡ brought_by history → state_page (state_of history) brought ≡ page_of history
unfolding page_of
page_due history brought is = ap (state_page (state_of history)) is
