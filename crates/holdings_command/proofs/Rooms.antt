-- What the steps of the command leave of the room.
use Rattle.std.proofs.Common.{◌≡◌, ◌≢◌, ◌∙◌, ℕ, true, List, ◌∷◌, [], sym, subst, Some, None, arith}
use Rattle.std.specs.Prelude.{IsSomeAnd}
use Rattle.outside.specs.Fault.{Rose}
use Rattle.outside.specs.Room.{RoomView, SameBut}
use Rattle.outside.proofs.Rooms.{same_but_first, same_but_more, same_but_none, same_but_then}
use Rattle.output_files.specs.Outputs.{IsOutputLeft, AreWritten, AreStopped, AtFirst, AtSecond}
use Rattle.output_files.proofs.Parts.{left_since, left_until}
use Rattle.console_lines.specs.declared.end.Unwritten.{Unwritten}

-- the journal was opened and closed again, and nothing else changed
pub opened_alone : (old opened read new : RoomView) (journal : List ℕ) → SameBut old opened (journal ∷ []) → SameBut opened read []
    → SameBut read new (journal ∷ []) → SameBut old new (journal ∷ [])
opened_alone old opened read new journal first second third =
    let names : List (List ℕ) = journal ∷ [] in
    same_but_then old opened new names first (same_but_then opened read new names (same_but_none opened read names second) third)

-- The journal was opened, the file read, the outputs written, and the journal closed.
module _ (old opened read written new : RoomView) (journal out rest : List ℕ) (first : SameBut old opened (journal ∷ [])) (second : SameBut opened read [])
    (third : SameBut read written (out ∷ rest ∷ [])) (fourth : SameBut written new (journal ∷ [])) where
  pub all_apart : SameBut old new (journal ∷ out ∷ rest ∷ [])
  all_apart =
      let names : List (List ℕ) = journal ∷ out ∷ rest ∷ [] in
      let outs : List (List ℕ) = out ∷ rest ∷ [] in
      same_but_then old opened new names (same_but_first old opened journal outs first)
      (same_but_then opened read new names (same_but_none opened read names second)
      (same_but_then read written new names (same_but_more read written outs names (λ n other. other.1) third)
      (same_but_first written new journal outs fourth)))

  pub read_tells : old.tells ≡ true → read.tells ≡ true
  read_tells tells = second.tells ∙ first.tells ∙ tells

  module _ (name : List ℕ) (differ : journal ≢ name) where
    behind : new.file name ≡ written.file name
    behind = fourth.files name ((λ e. differ (sym e)), tt)

    pub closed_behind : written.open_as name ≡ None → new.open_as name ≡ None
    closed_behind closed = fourth.open_names name ((λ e. differ (sym e)), tt) ∙ closed

    rose : Rose (read.out_faults name) (written.out_faults name) → Rose (old.out_faults name) (new.out_faults name)
    rose up = omega (arith, first.outs name, second.outs name, fourth.outs name, up)

    left : (due : List ℕ) → IsOutputLeft read written name due → IsOutputLeft old new name due
    left due is =
        let names : List (List ℕ) = journal ∷ [] in
        left_until old written new name due names ((λ e. differ (sym e)), tt) fourth
        (left_since old opened written name due names ((λ e. differ (sym e)), tt) first (left_since opened read written name due [] tt second is))

    whole : (due : List ℕ) → written.file name ≡ Some due → new.file name ≡ Some due
    whole due is = behind ∙ is

  -- where the second output wasn't begun
  without_second : SameBut read written (out ∷ []) → SameBut old new (journal ∷ out ∷ [])
  without_second alone =
      let names : List (List ℕ) = journal ∷ out ∷ [] in
      let outs : List (List ℕ) = out ∷ [] in
      same_but_then old opened new names (same_but_first old opened journal outs first)
      (same_but_then opened read new names (same_but_none opened read names second)
      (same_but_then read written new names (same_but_more read written outs names (λ n other. other.1) alone)
      (same_but_first written new journal outs fourth)))

  module _ (no_out : journal ≢ out) (no_rest : journal ≢ rest) (due due_rest : List ℕ) where
    pub all_written : (read.tells ≡ true → AreWritten out rest due due_rest written) → old.tells ≡ true → AreWritten out rest due due_rest new
    all_written are tells = record {
      whole = whole out no_out due (are (read_tells tells)).whole;
      side_whole = whole rest no_rest due_rest (are (read_tells tells)).side_whole;
    }

    pub all_stopped : (which : Unwritten) → AreStopped (out ∷ []) out rest due due_rest read written which
        → AreStopped (journal ∷ out ∷ []) out rest due due_rest old new which
    all_stopped which (AtFirst is up first_left alone) =
        AtFirst is (rose out no_out up) (λ tells. left out no_out due (first_left (read_tells tells))) (without_second alone)
    all_stopped which (AtSecond is up first_whole second_left) =
        AtSecond is (rose rest no_rest up) (λ tells. whole out no_out due (first_whole (read_tells tells)))
        (λ tells. left rest no_rest due_rest (second_left (read_tells tells)))

-- the file is read in the room where the journal was opened
pub read_there : (P : List ℕ → Type 0) (old opened : RoomView) (journal file : List ℕ) → file ≢ journal → SameBut old opened (journal ∷ [])
    → (opened.tells ≡ true → IsSomeAnd (opened.file file) P) → old.tells ≡ true → IsSomeAnd (old.file file) P
read_there P old opened journal file differ apart there tells =
    subst (λ f. IsSomeAnd f P) (apart.files file (differ, tt)) (there (apart.tells ∙ tells))
