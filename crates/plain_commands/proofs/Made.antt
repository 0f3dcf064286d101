-- How a make ended.
use Rattle.std.proofs.Common.{◌≡◌, ◌⊎◌, inl, inr, ℕ, true, List, Some, refl, sym, subst}
use Rattle.std.specs.Io.KnownBytes.{Appends}
use Rattle.outside.specs.Fault.{Rose}
use Rattle.outside.specs.Room.{IsUntouched}
use Rattle.outside.specs.Sink.{WritesFront}
use Rattle.workload.specs.Workload.{workload_bytes}
use Rattle.console_lines.specs.Ends.{Outcome, IsTold, IsSilent, out_unwritten, console_unwritten}
use Rattle.console_lines.specs.declared.end.End.TheVariants.{Done, Told}
use Rattle.console_lines.specs.declared.end.Unwritten.TheVariants.{Out, Console}
use Rattle.console_lines.specs.declared.fault.Fault.TheVariants.{Memory}
use Rattle.console_lines.proofs.Ends.{told_not_unwritten, told_not_done, done_not_unwritten, out_not_console}
use Rattle.output_files.specs.Outputs.{IsOutputLeft}
use Rattle.plain_commands.specs.Making.{workload_line, EndsMaking, Makes}

neither : {A B C : Type 0} → (A → ⊥) → (B → ⊥) → A ⊎ B → C
neither first second (inl a) = absurd (first a)
neither first second (inr b) = absurd (second b)

module _ (seed count : ℕ) (out : List ℕ) (o : Outcome) where
  pub makes_no_memory : o.end ≡ Told Memory → IsTold Memory o → IsUntouched o.old o.new out → Makes seed count out o
  makes_no_memory is told untouched = record {
    ends = subst EndsMaking (sym is) refl;
    told = λ also. told;
    out_cause = λ also. absurd (told_not_unwritten o.end Memory Out is also);
    console_cause = λ also. absurd (told_not_unwritten o.end Memory Console is also);
    silent = λ also. absurd (told_not_unwritten o.end Memory Out is also);
    made = neither (told_not_done o.end Memory is) (told_not_unwritten o.end Memory Console is);
    left = λ also. absurd (told_not_unwritten o.end Memory Out is also);
    untouched = λ also. untouched;
    line = λ also. absurd (told_not_done o.end Memory is also);
    front = λ also. absurd (told_not_unwritten o.end Memory Console is also);
  }

  -- OUT could not be written
  pub makes_failed : o.end ≡ out_unwritten → Rose (o.old.out_faults out) (o.new.out_faults out) → IsSilent o
      → (o.old.tells ≡ true → IsOutputLeft o.old o.new out (workload_bytes seed count)) → Makes seed count out o
  makes_failed is rose silent left = record {
    ends = subst EndsMaking (sym is) tt;
    told = λ also. absurd (told_not_unwritten o.end Memory Out also is);
    out_cause = λ also. rose;
    console_cause = λ also. absurd (out_not_console o.end is also);
    silent = λ also. silent;
    made = neither (λ also. done_not_unwritten o.end Out also is) (out_not_console o.end is);
    left = λ also. left;
    untouched = λ also. absurd (told_not_unwritten o.end Memory Out also is);
    line = λ also. absurd (done_not_unwritten o.end Out also is);
    front = λ also. absurd (out_not_console o.end is also);
  }

  -- the console could not
  pub makes_untold : o.end ≡ console_unwritten → Rose o.faults o.faults_now
      → (o.old.tells ≡ true → o.new.file out ≡ Some (workload_bytes seed count)) → WritesFront o.told o.now (workload_line seed count)
      → Makes seed count out o
  makes_untold is rose made front = record {
    ends = subst EndsMaking (sym is) tt;
    told = λ also. absurd (told_not_unwritten o.end Memory Console also is);
    out_cause = λ also. absurd (out_not_console o.end also is);
    console_cause = λ also. rose;
    silent = λ also. absurd (out_not_console o.end also is);
    made = λ either. made;
    left = λ also. absurd (out_not_console o.end also is);
    untouched = λ also. absurd (told_not_unwritten o.end Memory Console also is);
    line = λ also. absurd (done_not_unwritten o.end Console also is);
    front = λ also. front;
  }

  pub makes_all : o.end ≡ Done → (o.old.tells ≡ true → o.new.file out ≡ Some (workload_bytes seed count))
      → Appends o.told o.now (workload_line seed count) → Makes seed count out o
  makes_all is made line = record {
    ends = subst EndsMaking (sym is) tt;
    told = λ also. absurd (told_not_done o.end Memory also is);
    out_cause = λ also. absurd (done_not_unwritten o.end Out is also);
    console_cause = λ also. absurd (done_not_unwritten o.end Console is also);
    silent = λ also. absurd (done_not_unwritten o.end Out is also);
    made = λ either. made;
    left = λ also. absurd (done_not_unwritten o.end Out is also);
    untouched = λ also. absurd (told_not_done o.end Memory also is);
    line = λ also. line;
    front = λ also. absurd (done_not_unwritten o.end Console is also);
  }
