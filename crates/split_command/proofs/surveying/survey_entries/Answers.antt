use Rattle.std.proofs.Common.{Bool, Ok, refl, subst}
use Rattle.std.proofs.lemmas.Result.{err_from_is_err_and}
use Rattle.split_command.specs.Surveying.{TakesNext}
use Rattle.split_command.proofs.Told.{read_none, read_more, taken_falls, read_ended, read_in_part}
use Rattle.split_command.proofs.surveying.survey_entries.Goals as goal

pub items-init : goal.items-init
items-init g c = read_none c.args.file.now c.args.entries.now c.args.survey.now _ c.requires.going refl refl

pub items-preserved : goal.items-preserved
items-preserved g c =
    let takes = subst (λ (b : Bool). TakesNext c.args.file.now c.items.entries c.take_next.new.entries c.items.survey c.take_next.new.survey c.items.counts c.take_next.new.counts (Ok b))
    c.if-branch.true c.in_ok-take_next.ensures.takes in
    read_more c.args.file.now c.args.entries.now _ _ c.args.survey.now _ _ _ _ c.items.invariant c.take_next.ensures.same takes

pub items-smaller : goal.items-smaller
items-smaller g c =
    let takes = subst (λ (b : Bool). TakesNext c.args.file.now c.items.entries c.take_next.new.entries c.items.survey c.take_next.new.survey c.items.counts c.take_next.new.counts (Ok b))
    c.if-branch.true c.in_ok-take_next.ensures.takes in
    taken_falls c.args.file.now _ _ _ _ _ _ takes

pub returns : goal.returns
returns g c =
    let ended = subst (λ (b : Bool). TakesNext c.args.file.now c.items.entries c.take_next.new.entries c.items.survey c.take_next.new.survey c.items.counts c.take_next.new.counts (Ok b))
    c.if-branch.false c.in_ok-take_next.ensures.takes in
    read_ended c.args.file.now c.args.entries.now c.items.entries _ c.args.survey.now c.items.survey c.take_next.new.survey _ c.items.counts _ c.requires.loader c.items.invariant ended
    c.in_ok-count.ensures.text c.count.ensures.keys c.count.ensures.refused

pub returns-in_err-take_next : goal.returns-in_err-take_next
returns-in_err-take_next g c =
    let exit = err_from_is_err_and c.from_residual.result c.from_residual.ensures.1 in
    rw (exit.1, exit.2)
    (read_in_part c.args.file.now c.args.entries.now c.items.entries c.take_next.new.entries c.args.survey.now c.items.survey c.take_next.new.survey c.items.counts c.take_next.new.counts
    c.in_err-take_next.field-0.0
    c.items.invariant c.take_next.ensures.faults c.in_err-take_next.ensures.takes)
