use Rattle.std.proofs.Common.{◌-◌, ◌∙◌, true≢false, true, false, length, take, drop, refl, sym, ap, subst, arith, take_all, length-drop}
use Rattle.marc_types.specs.Order.{text_Decides}
use Rattle.catalogue_parts.specs.Joined.{line_of_totals}
use Rattle.parts_commands.specs.Reading.{IsRead}
use Rattle.parts_commands.proofs.Read.{read_when}
use Rattle.parts_commands.proofs.reports.found_in.Goals.{then-is_report, else-is_report}
use Rattle.parts_commands.proofs.reports.found_in.Goals as goal

pub returns : goal.returns
returns c =
    let bytes = c.args.bytes.now in
    let place = c.last_line-place.result in
    let line = take (length bytes - place) (drop place bytes) in
    let is = take_all (length bytes - place) (drop place bytes) (omega (arith, length-drop place bytes)) in
    let told = c.in_ok-told.ensures ∙ ap line_of_totals c.sums_of.ensures.numbers in
    elim c.if-is_report.branch [
      | then-is_report w ↦ subst (λ found. IsRead bytes found place) (sym w.result-is)
          (read_when bytes line c.in_ok-told.told.items place c.totals_in-totals.result true c.last_line-place.ensures.last is c.totals_in-totals.ensures.small
          c.totals_in-totals.ensures.again told (λ yes. sym c.as_slice.ensures.value ∙ (text_Decides c.as_slice.result.now line).0 (sym c.eq-is_report.ensures ∙ w.if-is_report.true)) (λ same. refl))
      | else-is_report w ↦ subst (λ found. IsRead bytes found place) (sym w.result-is)
          (read_when bytes line c.in_ok-told.told.items place c.totals_in-totals.result false c.last_line-place.ensures.last is c.totals_in-totals.ensures.small
          c.totals_in-totals.ensures.again told (λ yes. absurd (true≢false (sym yes)))
          (λ same. sym w.if-is_report.false ∙ c.eq-is_report.ensures ∙ (text_Decides c.as_slice.result.now line).1 (c.as_slice.ensures.value ∙ same)))
    ]
