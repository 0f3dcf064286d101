use Rattle.std.proofs.Common.{rules, ◌≡◌, List, subst}
use Rattle.std.specs.Bool.{Decides}
use Rattle.std.specs.List.{All}
use Rattle.kept_rows.specs.Rows.{state_of_rows}
use Rattle.kept_rows.specs.declared.row.KeptRow.{KeptRow}
use Rattle.restoring.proofs.Sounding.{IsSoundKept, unsound}
use Rattle.restoring.proofs.engine.from_rows.Goals as goal

pub returns-then-not-branch-clause-unfit : goal.returns-then-not-branch-clause-unfit
returns-then-not-branch-clause-unfit c =
    let same : c.as_slice.result.now ≡ c.args.rows.items = search rules in
    unsound c.args.rows.items c.in_ok-are_sound.field-0 c.if-not-branch.true
    (subst (λ (l : List KeptRow). Decides c.in_ok-are_sound.field-0 (All IsSoundKept l)) same c.in_ok-are_sound.ensures)
    (c.a_state_stands_where_its_rows_are_sound.ensures (state_of_rows c.args.rows.items)).0
