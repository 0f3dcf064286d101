use Rattle.std.proofs.Common.{◌+◌, refl, take}
use Rattle.std.specs.Prelude.{if◌then◌else◌}
use Rattle.std.specs.List.{count_by}
use Rattle.heading_list.specs.Counting.{is_tied_to}
use Rattle.heading_list.proofs.Counts.{rise_none, rise_so, rise_then, ties_more}
use Rattle.heading_list.proofs.links.Links.add_ties.Goals as goal

pub loop-tie-init : goal.loop-tie-init
loop-tie-init c = rise_none c.args.self.now (λ key. count_by (is_tied_to key) (take 0 c.args.ties.now)) (λ key. refl)

pub loop-tie-preserved : goal.loop-tie-preserved
loop-tie-preserved c =
    let i = c.loop-tie.tie-index in
    let ties = c.args.ties.now in
    let tie = c.tie-item.result in
    rise_so c.args.self.now c.add_tie.new.self
    (λ key. count_by (is_tied_to key) (take i ties) + (if is_tied_to key tie then 1 else 0)) (λ key. count_by (is_tied_to key) (take (i + 1) ties))
    (λ key. ties_more key ties i tie c.loop-tie-test.true c.tie-item.is)
    (rise_then c.args.self.now c.loop-tie.self c.add_tie.new.self (λ key. count_by (is_tied_to key) (take i ties)) (λ key. if is_tied_to key tie then 1 else 0)
    c.loop-tie.invariant c.in_ok-add_tie.ensures)
