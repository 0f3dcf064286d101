-- How the command ends that tells whether a log of checkpoints is a journal's own, from what its steps say.
use Rattle.std.proofs.Common.{◌≡◌, ◌∙◌, ℕ, true, List, Option, Some, sym, subst}
use Rattle.std.specs.Io.KnownBytes.{Appends}
use Rattle.marc_types.specs.declared.entry.Entry.{Entry}
use Rattle.marc_types.specs.declared.entry.Limits.{Limits}
use Rattle.outside.specs.Fault.{Rose}
use Rattle.outside.specs.Sink.{WritesFront}
use Rattle.durable_catalogue.specs.declared.fault.OpenFault.{OpenFault}
use Rattle.durable_catalogue.specs.declared.fault.OpenFault.TheVariants as opening
use Rattle.console_lines.specs.Ends.{Outcome, IsTold, console_unwritten}
use Rattle.console_lines.specs.Lines.{resumed_line}
use Rattle.console_lines.specs.declared.end.End.TheVariants.{Done, Told}
use Rattle.console_lines.specs.declared.end.Unwritten.TheVariants.{Console}
use Rattle.console_lines.specs.declared.fault.Fault.{Fault}
use Rattle.console_lines.specs.declared.fault.Fault.TheVariants.{Input}
use Rattle.console_lines.proofs.Ends.{told_once, told_not_done, told_not_unwritten, done_not_unwritten, never_told}
use Rattle.journal_files.specs.Journals.{journal_limits}
use Rattle.checkpoint.specs.declared.point.Point.{Point}
use Rattle.unheld_journals.specs.Untaken.{fault_of_look}
use Rattle.point_verification.specs.Verifying.{EndsVerifyingPoint, AreOwn, IsNotOwnOf, NotOwn, NoRoom, VerifiesPoint, WhyNotOwn, OfJournal, OfPoint, OfBoth}

-- a fault for which bytes aren't taken is one of the command, and none of the input
log_ends : (reason : OpenFault) → EndsVerifyingPoint (Told (fault_of_look reason))
log_ends opening.DeviceFault = tt
log_ends (opening.NotAJournal place) = tt
log_ends opening.OldVersion = tt
log_ends opening.Full = tt
log_ends opening.NoMemory = tt

log_not_input : (reason : OpenFault) → fault_of_look reason ≡ Input → ⊥
log_not_input opening.DeviceFault is = cc
log_not_input (opening.NotAJournal place) is = cc
log_not_input opening.OldVersion is = cc
log_not_input opening.Full is = cc
log_not_input opening.NoMemory is = cc

not_own_ends : {history : List Entry} {last : Option Point} {why : Fault} → IsNotOwnOf history last why → EndsVerifyingPoint (Told why)
not_own_ends (NotOwn other) = tt
not_own_ends NoRoom = tt

not_own_not_input : {history : List Entry} {last : Option Point} {why : Fault} → IsNotOwnOf history last why → why ≡ Input → ⊥
not_own_not_input (NotOwn other) is = cc
not_own_not_input NoRoom is = cc

why_ends : (limits : Limits) (journal point : List ℕ) (why : Fault) → WhyNotOwn limits journal point why → EndsVerifyingPoint (Told why)
why_ends limits journal point why (OfJournal reason current is unopened) = subst (λ w. EndsVerifyingPoint (Told w)) (sym is) (log_ends reason)
why_ends limits journal point why (OfPoint history has within reason is untaken) = subst (λ w. EndsVerifyingPoint (Told w)) (sym is) (log_ends reason)
why_ends limits journal point why (OfBoth history has within last is_last other) = not_own_ends other

why_not_input : (limits : Limits) (journal point : List ℕ) (why : Fault) → WhyNotOwn limits journal point why → why ≡ Input → ⊥
why_not_input limits journal point why (OfJournal reason current is unopened) same = log_not_input reason (sym is ∙ same)
why_not_input limits journal point why (OfPoint history has within reason is untaken) same = log_not_input reason (sym is ∙ same)
why_not_input limits journal point why (OfBoth history has within last is_last other) same = not_own_not_input other same

-- both files were read, and nothing else is told of them
pub verifies_not : (journal point history_bytes point_bytes : List ℕ) (o : Outcome) (why : Fault) → (o.old.tells ≡ true → o.old.file journal ≡ Some history_bytes)
    → (o.old.tells ≡ true → o.old.file point ≡ Some point_bytes) → WhyNotOwn (journal_limits o.old) history_bytes point_bytes why
    → o.end ≡ Told why → IsTold why o → VerifiesPoint journal point o
verifies_not journal point history_bytes point_bytes o why there point_there not is told = record {
  ends = subst EndsVerifyingPoint (sym is) (why_ends (journal_limits o.old) history_bytes point_bytes why not);
  told = λ other also. subst (λ w. IsTold w o) (told_once o.end why other is also) told;
  own = λ untold. absurd (never_told o.end why untold is);
  so = λ other also no_input no_memory tells. record {
    history_bytes = history_bytes;
    history_file = there tells;
    point_bytes = point_bytes;
    point_file = point_there tells;
    so = subst (WhyNotOwn (journal_limits o.old) history_bytes point_bytes) (told_once o.end why other is also) not;
  };
  input = λ also. absurd (why_not_input (journal_limits o.old) history_bytes point_bytes why not (told_once o.end why Input is also));
  console_cause = λ also. absurd (told_not_unwritten o.end why Console is also);
}

-- both files were read, the checkpoint is the journal's own, and the console was told so or failed
module _ (journal point history_bytes point_bytes : List ℕ) (o : Outcome) (held count : ℕ) (there : o.old.tells ≡ true → o.old.file journal ≡ Some history_bytes)
    (point_there : o.old.tells ≡ true → o.old.file point ≡ Some point_bytes) (own : AreOwn (journal_limits o.old) history_bytes point_bytes held count) where
  pub verifies_own : o.end ≡ Done → Appends o.told o.now (resumed_line held count) → VerifiesPoint journal point o
  verifies_own is line = record {
    ends = subst EndsVerifyingPoint (sym is) tt;
    told = λ why also. absurd (told_not_done o.end why also is);
    own = λ untold tells. record {
      history_bytes = history_bytes;
      history_file = there tells;
      point_bytes = point_bytes;
      point_file = point_there tells;
      held = held;
      count = count;
      own = own;
      line = λ done. line;
      front = λ also. absurd (done_not_unwritten o.end Console is also);
    };
    so = λ why also no_input no_memory tells. absurd (told_not_done o.end why also is);
    input = λ also. absurd (told_not_done o.end Input also is);
    console_cause = λ also. absurd (done_not_unwritten o.end Console is also);
  }

  pub verifies_unwritten : o.end ≡ console_unwritten → WritesFront o.told o.now (resumed_line held count) → Rose o.faults o.faults_now → VerifiesPoint journal point o
  verifies_unwritten is front rose = record {
    ends = subst EndsVerifyingPoint (sym is) tt;
    told = λ why also. absurd (told_not_unwritten o.end why Console also is);
    own = λ untold tells. record {
      history_bytes = history_bytes;
      history_file = there tells;
      point_bytes = point_bytes;
      point_file = point_there tells;
      held = held;
      count = count;
      own = own;
      line = λ done. absurd (done_not_unwritten o.end Console done is);
      front = λ also. front;
    };
    so = λ why also no_input no_memory tells. absurd (told_not_unwritten o.end why Console also is);
    input = λ also. absurd (told_not_unwritten o.end Input Console also is);
    console_cause = λ also. rose;
  }
