-- How the command ends, by what was written and told.
use Rattle.std.proofs.Common.{◌≡◌, ◌∙◌, inl, inr, ℕ, Bool, true, false, List, length, Option, Some, None, IsSome, string_bytes, sym, ap, subst}
use Rattle.std.specs.Io.KnownBytes.{Appends}
use Rattle.std.proofs.lemmas.List.Elements.{All-contains}
use Rattle.outside.specs.Sink.{WritesFront}
use Rattle.command_words.specs.declared.library.Library.{Library}
use Rattle.console_lines.specs.Ends.{Outcome, IsTold, IsSilent, IsResultTold, ResultTold, ResultUntold, end_of, out_unwritten}
use Rattle.console_lines.specs.declared.end.End.TheVariants as ending
use Rattle.console_lines.specs.declared.fault.Fault.TheVariants as fault
use Rattle.console_lines.proofs.Ends.{told_once, told_not_unwritten, told_not_all, all_not_unwritten, out_not_console, result_untold, result_done, result_line, result_front, result_no_output, result_cause, never_told}
use Rattle.console_lines.specs.declared.end.Unwritten.TheVariants.{Out, Console}
use Rattle.split_command.specs.Names.{split_names}
use Rattle.split_command.specs.Splitting.{Splits, EndsSplitting, InFull}
use Rattle.split_command.specs.Written.{IsWritten, IsStopped}
use Rattle.split_command.specs.declared.splitting.Told.{Told}
use Rattle.split_command.specs.declared.fault.SplitFault.TheVariants as why

-- a file that is there among names of which none is
is_there : (file : Option (List ℕ)) → file ≡ None → IsSome file → ⊥
is_there None is there = cc
is_there (Some bytes) is there = cc

ends_of : (refused : Bool) → EndsSplitting (end_of refused)
ends_of true = tt
ends_of false = tt

module _ (parts : ℕ) (prefix : List ℕ) (libraries : List Library) (o : Outcome) where
  abbrev names : List (List ℕ)
  names = split_names prefix parts (length libraries)

  result_ends : {text : List ℕ} {refused : Bool} → IsResultTold o.told o.now o.faults o.faults_now text refused o.end → EndsSplitting o.end
  result_ends {text} {refused} (ResultTold is line) = subst EndsSplitting (sym is) (ends_of refused)
  result_ends (ResultUntold is rose front) = subst EndsSplitting (sym is) tt

  -- all was written, and told as far as the console could be written
  pub splits_written : (told : Told) → IsWritten parts prefix libraries o.old o.new told
      → IsResultTold o.told o.now o.faults o.faults_now (string_bytes told.text) told.has_refused o.end → Splits parts prefix libraries o
  splits_written told written result = record {
    ends = result_ends result;
    told = λ reason is. absurd (never_told o.end reason (result_untold result) is);
    input = λ is. absurd (never_told o.end fault.Input (result_untold result) is);
    out_cause = λ is. absurd ((result_no_output result).0 is);
    console_cause = λ is. result_cause result is;
    silent = λ is. absurd ((result_no_output result).0 is);
    kept = λ name among tells there.
        absurd (is_there (o.old.file name) (All-contains (λ n. o.old.file n ≡ None) names name (written tells).free among) there);
    whole = λ all tells.
        let w = written tells in record {
          bounds = w.bounds;
          cuts = w.cuts;
          is = w.is;
          console = subst (Appends o.told o.now) w.text (result_line result all);
          end_is = result_done result all ∙ ap end_of w.has;
        };
    untold = λ is tells.
        let w = written tells in record {
          bounds = w.bounds;
          cuts = w.cuts;
          is = w.is;
          console = subst (WritesFront o.told o.now) w.text (result_front result);
        };
    left = λ tells. let w = written tells in InFull w.bounds w.cuts w.is;
  }

  -- an output could not be written, or a file is there
  pub splits_unwritten : IsStopped parts prefix libraries o.old o.new why.Output → o.end ≡ out_unwritten → IsSilent o → Splits parts prefix libraries o
  splits_unwritten stopped ended silent = record {
    ends = subst EndsSplitting (sym ended) tt;
    told = λ reason is. absurd (told_not_unwritten o.end reason Out is ended);
    input = λ is. absurd (told_not_unwritten o.end fault.Input Out is ended);
    out_cause = λ is. stopped.cause;
    console_cause = λ is. absurd (out_not_console o.end ended is);
    silent = λ is. silent;
    kept = λ name among tells there. ((stopped.kept name among tells there).0, inl ended);
    whole = λ all tells. absurd (all_not_unwritten o.end Out all ended);
    untold = λ is tells. absurd (out_not_console o.end ended is);
    left = stopped.left;
  }

  -- an input failed
  pub splits_input : IsStopped parts prefix libraries o.old o.new why.Input → o.end ≡ ending.Told fault.Input → IsTold fault.Input o → Splits parts prefix libraries o
  splits_input stopped ended line = record {
    ends = subst EndsSplitting (sym ended) tt;
    told = λ reason is. subst (λ f. IsTold f o) (told_once o.end fault.Input reason ended is) line;
    input = λ is. stopped.cause;
    out_cause = λ is. absurd (told_not_unwritten o.end fault.Input Out ended is);
    console_cause = λ is. absurd (told_not_unwritten o.end fault.Input Console ended is);
    silent = λ is. absurd (told_not_unwritten o.end fault.Input Out ended is);
    kept = λ name among tells there. absurd ((stopped.kept name among tells there).1);
    whole = λ all tells. absurd (told_not_all o.end fault.Input ended all);
    untold = λ is tells. absurd (told_not_unwritten o.end fault.Input Console ended is);
    left = stopped.left;
  }

  -- memory ran out
  pub splits_memory : IsStopped parts prefix libraries o.old o.new why.Memory → o.end ≡ ending.Told fault.Memory → IsTold fault.Memory o → Splits parts prefix libraries o
  splits_memory stopped ended line = record {
    ends = subst EndsSplitting (sym ended) tt;
    told = λ reason is. subst (λ f. IsTold f o) (told_once o.end fault.Memory reason ended is) line;
    input = λ is. absurd (input_or_memory (told_once o.end fault.Input fault.Memory is ended));
    out_cause = λ is. absurd (told_not_unwritten o.end fault.Memory Out ended is);
    console_cause = λ is. absurd (told_not_unwritten o.end fault.Memory Console ended is);
    silent = λ is. absurd (told_not_unwritten o.end fault.Memory Out ended is);
    kept = λ name among tells there. ((stopped.kept name among tells there).0, inr ended);
    whole = λ all tells. absurd (told_not_all o.end fault.Memory ended all);
    untold = λ is tells. absurd (told_not_unwritten o.end fault.Memory Console ended is);
    left = stopped.left;
  }
    where
      input_or_memory : fault.Input ≡ fault.Memory → ⊥
      input_or_memory is = cc
