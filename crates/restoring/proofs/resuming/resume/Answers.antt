use Rattle.std.proofs.Common.{◌∙◌, ◌+◌, ◌≤◌, List, ap, subst}
use Rattle.std.proofs.lemmas.List.{take_rest}
use Rattle.marc_types.specs.declared.entry.Entry.{Entry}
use Rattle.catalogue_core.specs.Engines.{Engined, kept_engine}
use Rattle.checkpoint.specs.Resuming.{gone_on}
use Rattle.restoring.specs.Resuming.{touched_through}
use Rattle.restoring.proofs.Taking.{whole_state, unspared_state, visits_behind}
use Rattle.restoring.proofs.resuming.resume.Goals as goal

pub returns-clause-whole : goal.returns-clause-whole
returns-clause-whole g c of =
    let begun = c.in_ok-begun.begun in
    whole_state c.args.entries.now c.args.point begun.taken begun.engine.state c.go_on.new.engine.state c.in_ok-begun.ensures.begins
    (ap (λ (e : Engined). e.state) c.in_ok-go_on.ensures.state ∙ ap (gone_on begun.engine.state) (take_rest c.args.entries.now begun.taken)) of

pub returns-clause-unspared : goal.returns-clause-unspared
returns-clause-unspared g c none =
    let begun = c.in_ok-begun.begun in
    unspared_state c.args.entries.now c.args.point begun.taken begun.engine.state c.go_on.new.engine.state c.in_ok-begun.ensures.begins
    (ap (λ (e : Engined). e.state) c.in_ok-go_on.ensures.state ∙ ap (gone_on begun.engine.state) (take_rest c.args.entries.now begun.taken)) none

pub returns-clause-resumed : goal.returns-clause-resumed
returns-clause-resumed g c =
    let begun = c.in_ok-begun.begun in
    record {
      begun = begun.engine.state;
      begins = c.in_ok-begun.ensures.begins;
      engine_is = c.in_ok-go_on.ensures.state ∙ ap (λ (es : List Entry). kept_engine (gone_on begun.engine.state es)) (take_rest c.args.entries.now begun.taken);
    }

pub returns-in_err-go_on-clause-visits : goal.returns-in_err-go_on-clause-visits
returns-in_err-go_on-clause-visits g c =
    let begun = c.in_ok-begun.begun in
    visits_behind c.args.entries.now c.args.point begun.taken begun.engine.state c.args.steps.now c.go_on.new.steps c.in_ok-begun.ensures.begins
    (subst (λ (es : List Entry). c.go_on.new.steps ≤ c.args.steps.now + touched_through begun.engine.state es) (take_rest c.args.entries.now begun.taken) c.go_on.ensures.visits)

pub returns-clause-visits : goal.returns-clause-visits
returns-clause-visits g c =
    let begun = c.in_ok-begun.begun in
    visits_behind c.args.entries.now c.args.point begun.taken begun.engine.state c.args.steps.now c.go_on.new.steps c.in_ok-begun.ensures.begins
    (subst (λ (es : List Entry). c.go_on.new.steps ≤ c.args.steps.now + touched_through begun.engine.state es) (take_rest c.args.entries.now begun.taken) c.go_on.ensures.visits)
