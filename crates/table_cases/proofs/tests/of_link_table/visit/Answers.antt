use Rattle.std.proofs.Common.{◌≡◌, ◌∙◌, ap, Some}
use Rattle.link_table.specs.Links.{with_key, with_row_taken, less_taken}
use Rattle.link_table.specs.Table.{links}
use Rattle.link_table.proofs.Steps.{came_and_went, comes_out}
use Rattle.table_cases.proofs.tests.of_link_table.visit.Goals as goal

pub returns-in-Some : goal.returns-in-Some
returns-in-Some c =
    let came : c.take.result ≡ Some c.args.link = c.take.ensures.row ∙ comes_out c.args.link (links c.args.table.now) _ c.in_ok-add.ensures.ok in
    let same : c.in-Some.taken ≡ c.args.link = cc in
    c.let_go.ensures
    ∙ ap (less_taken c.in-Some.taken) c.in-Some.ensures.some
    ∙ ap (λ view. less_taken c.in-Some.taken (with_row_taken c.in-Some.taken view)) c.in_ok-add.ensures.ok
    ∙ ap (λ taken. less_taken taken (with_row_taken taken (with_key c.args.link.seat (Some c.args.link.number) (links c.args.table.now)))) same
    ∙ came_and_went c.args.link (links c.args.table.now) c.requires

pub returns-in_default : goal.returns-in_default
returns-in_default c =
    absurd (c.in_default.not-Some c.args.link (c.take.ensures.row ∙ comes_out c.args.link (links c.args.table.now) _ c.in_ok-add.ensures.ok))
