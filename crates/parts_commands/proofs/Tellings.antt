-- How the telling of a whole's numbers ended.
use Rattle.std.proofs.Common.{◌≡◌, ◌∙◌, ℕ, true, List, ◌∷◌, sym, subst}
use Rattle.outside.specs.Fault.{Rose, count_total}
use Rattle.catalogue_parts.specs.declared.totals.Totals.{Totals}
use Rattle.catalogue_parts.specs.Joined.{line_of_totals}
use Rattle.console_lines.specs.Ends.{Outcome, IsTold, console_unwritten}
use Rattle.console_lines.specs.declared.end.End.TheVariants.{Done, Told, Differ}
use Rattle.console_lines.specs.declared.fault.Fault.{Fault}
use Rattle.console_lines.specs.declared.fault.Fault.TheVariants.{Input, Memory}
use Rattle.parts_commands.specs.Reading.{IsFaultOfReading}
use Rattle.parts_commands.specs.Reports.{AreJoined}
use Rattle.parts_commands.specs.Telling.{EndsTotals, IsLineTold, LineTold, LineUntold, NoRoomForLine, IsOtherReportTold, TellsTotals}

module _ (first : List ℕ) (reports : List (List ℕ)) (o : Outcome) where
  -- a fault was told
  pub tells_fault : (why : Fault) → o.end ≡ Told why → IsTold why o → IsFaultOfReading why
      → (why ≡ Input → Rose (count_total o.old.in_faults (first ∷ reports)) (count_total o.new.in_faults (first ∷ reports))) → TellsTotals first reports o
  tells_fault why is told kind input = record {
    ends = subst EndsTotals (sym is) kind;
    told = λ other also. let both : Told why ≡ Told other = sym is ∙ also in let same : why ≡ other = cc in subst (λ w. IsTold w o) same told;
    input = λ also. let both : Told why ≡ Told Input = sym is ∙ also in input (cc);
    console_cause = λ also. let both : Told why ≡ console_unwritten = sym is ∙ also in absurd (cc);
    whole = λ also. let both : Told why ≡ Done = sym is ∙ also in absurd (cc);
    part = λ also. let both : Told why ≡ console_unwritten = sym is ∙ also in absurd (cc);
    differ = λ also. let both : Told why ≡ Differ = sym is ∙ also in absurd (cc);
  }

  -- a report can't be joined
  pub tells_difference : o.end ≡ Differ → IsOtherReportTold first reports o → TellsTotals first reports o
  tells_difference is told = record {
    ends = subst EndsTotals (sym is) tt;
    told = λ why also. let both : Differ ≡ Told why = sym is ∙ also in absurd (cc);
    input = λ also. let both : Differ ≡ Told Input = sym is ∙ also in absurd (cc);
    console_cause = λ also. let both : Differ ≡ console_unwritten = sym is ∙ also in absurd (cc);
    whole = λ also. let both : Differ ≡ Done = sym is ∙ also in absurd (cc);
    part = λ also. let both : Differ ≡ console_unwritten = sym is ∙ also in absurd (cc);
    differ = λ also. told;
  }

  -- all reports are joined
  pub tells_numbers : (whole : Totals) → IsLineTold o.told o.now o.faults o.faults_now (line_of_totals whole) o.end
      → (o.old.tells ≡ true → AreJoined o.old.file first reports whole) → TellsTotals first reports o
  tells_numbers whole (LineTold is wrote) joined = record {
    ends = subst EndsTotals (sym is) tt;
    told = λ why also. let both : Done ≡ Told why = sym is ∙ also in absurd (cc);
    input = λ also. let both : Done ≡ Told Input = sym is ∙ also in absurd (cc);
    console_cause = λ also. let both : Done ≡ console_unwritten = sym is ∙ also in absurd (cc);
    whole = λ also tells. record { whole = whole; joined = joined tells; console = wrote };
    part = λ also. let both : Done ≡ console_unwritten = sym is ∙ also in absurd (cc);
    differ = λ also. let both : Done ≡ Differ = sym is ∙ also in absurd (cc);
  }
  tells_numbers whole (LineUntold is rose front) joined = record {
    ends = subst EndsTotals (sym is) tt;
    told = λ why also. let both : console_unwritten ≡ Told why = sym is ∙ also in absurd (cc);
    input = λ also. let both : console_unwritten ≡ Told Input = sym is ∙ also in absurd (cc);
    console_cause = λ also. rose;
    whole = λ also. let both : console_unwritten ≡ Done = sym is ∙ also in absurd (cc);
    part = λ also tells. record { whole = whole; joined = joined tells; console = front };
    differ = λ also. let both : console_unwritten ≡ Differ = sym is ∙ also in absurd (cc);
  }
  tells_numbers whole (NoRoomForLine is told) joined = tells_fault Memory is told tt (λ no. let memory : Memory ≡ Input = no in absurd (cc))
