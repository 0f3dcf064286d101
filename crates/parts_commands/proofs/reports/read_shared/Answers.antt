use Rattle.std.proofs.Common.{◌≡◌, refl, arith}
use Rattle.catalogue_parts.specs.declared.totals.Totals.{Totals}
use Rattle.parts_commands.proofs.Found.{none_told, not_shared_found, not_so}
use Rattle.parts_commands.proofs.reports.read_shared.Goals.{in_default-via-in-Some+else-shared-eq0, in_default-via-in_default}
use Rattle.parts_commands.proofs.reports.read_shared.Goals as goal

pub returns-in_default-clause-stopped : goal.returns-in_default-clause-stopped
returns-in_default-clause-stopped g c =
    let found = c.in-Ok.found.totals in (
      refl,
      λ tells. not_shared_found (g.R.Room.seen c.args.room.now) c.args.name.now found c.in-Ok.found.place c.in-Ok.ensures.read tells
          (elim c.in_default.branch [
            | in_default-via-in-Some+else-shared-eq0 w ↦ not_so found (λ (t : Totals). t.bibliographic ≡ 0) w.in-Some.shared w.in-Some.is
                (λ none. omega (arith, none, w.if-shared-eq0.false))
            | in_default-via-in_default w ↦ none_told found (λ (t : Totals). t.bibliographic ≡ 0) w.in_default.is
          ]),
    )
