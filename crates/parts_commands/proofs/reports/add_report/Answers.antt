use Rattle.std.proofs.Common.{◌∙◌, true≢false, refl, sym}
use Rattle.parts_commands.specs.Reports.{IsBeyond}
use Rattle.parts_commands.proofs.Found.{none_told, not_beyond_found, not_so}
use Rattle.parts_commands.proofs.reports.add_report.Goals.{in_default-via-in-Some+else-is_beyond, in_default-via-in_default}
use Rattle.parts_commands.proofs.reports.add_report.Goals as goal

pub returns-in_default-clause-stopped : goal.returns-in_default-clause-stopped
returns-in_default-clause-stopped g c =
    let found = c.in-Ok.found.totals in
    let shared = c.args.shared.now in (
      refl,
      λ tells. not_beyond_found (g.R.Room.seen c.args.room.now) c.args.name.now found c.in-Ok.found.place c.in-Ok.ensures.read tells shared
          (elim c.in_default.branch [
            | in_default-via-in-Some+else-is_beyond w ↦ not_so found (IsBeyond shared) w.in-Some.part w.in-Some.is
                (λ beyond. let test = rw (w.in-Some.is) at w.is_beyond.ensures.1 in true≢false (sym (test beyond) ∙ w.if-is_beyond.false))
            | in_default-via-in_default w ↦ none_told found (IsBeyond shared) w.in_default.is
          ]),
    )
