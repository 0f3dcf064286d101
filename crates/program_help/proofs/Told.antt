-- How the telling of a text ends.
use Rattle.std.proofs.Common.{ℕ, false, List, Option, sym, subst}
use Rattle.console_lines.specs.Ends.{IsResultTold, ResultTold, ResultUntold, IsAllDone}
use Rattle.console_lines.specs.declared.end.End.{End}
use Rattle.console_lines.proofs.Ends.{result_line, result_front, result_cause}
use Rattle.program_help.specs.Telling.{EndsTelling, IsTextTold}

module _ (text : List ℕ) (old new : Option (List ℕ)) (before now : ℕ) (end : End) where
  told_ends : IsResultTold old new before now text false end → EndsTelling end
  told_ends (ResultTold is line) = subst EndsTelling (sym is) tt
  told_ends (ResultUntold is rose front) = subst EndsTelling (sym is) tt

  -- a text is told as a result of which nothing was refused
  pub text_told : IsResultTold old new before now text false end → IsTextTold text old new before now end
  text_told told = record {
    ends = told_ends told;
    whole = λ done. result_line told (subst IsAllDone (sym done) tt);
    part = λ unwritten. result_front told;
    cause = result_cause told;
  }
