use Rattle.std.proofs.Common.{◌≡◌, ◌∙◌, ap, Some}
use Rattle.wait_table.specs.Waits.{with_waiting, with_row_taken, less_taken}
use Rattle.wait_table.specs.Table.{waits}
use Rattle.wait_table.proofs.Steps.{came_and_went, comes_out}
use Rattle.table_cases.proofs.tests.of_wait_table.visit.Goals as goal

pub returns-in-Some : goal.returns-in-Some
returns-in-Some c =
    let came : c.take.result ≡ Some c.args.row = c.take.ensures.row ∙ comes_out c.args.row (waits c.args.table.now) _ c.in_ok-add.ensures.ok in
    let same : c.in-Some.taken ≡ c.args.row = cc in
    c.let_go.ensures
    ∙ ap (less_taken c.in-Some.taken) c.in-Some.ensures.some
    ∙ ap (λ view. less_taken c.in-Some.taken (with_row_taken c.in-Some.taken view)) c.in_ok-add.ensures.ok
    ∙ ap (λ taken. less_taken taken (with_row_taken taken (with_waiting c.args.row.seat (Some c.args.row.waiting) (waits c.args.table.now)))) same
    ∙ came_and_went c.args.row (waits c.args.table.now) c.requires

pub returns-in_default : goal.returns-in_default
returns-in_default c =
    absurd (c.in_default.not-Some c.args.row (c.take.ensures.row ∙ comes_out c.args.row (waits c.args.table.now) _ c.in_ok-add.ensures.ok))
