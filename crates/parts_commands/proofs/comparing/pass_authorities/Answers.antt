use Rattle.std.proofs.Common.{◌∙◌, Err, ap, arith, subst}
use Rattle.std.proofs.lemmas.Result.{err_from_is_err_and}
use Rattle.parts_commands.specs.Taking.{IsUnlike}
use Rattle.parts_commands.proofs.Copied.{same_place, stop_of}
use Rattle.parts_commands.proofs.Items.{at_record, beside_more, fewer, place_next, unlike_behind}
use Rattle.parts_commands.proofs.comparing.pass_authorities.Goals as goal

pub returns-in_err-at-clause-unlike : goal.returns-in_err-at-clause-unlike
returns-in_err-at-clause-unlike g c =
    let exit = err_from_is_err_and c.from_residual.result c.from_residual.ensures.1 in
    rw (exit.1, exit.2)
    (λ place is first_tells tells. unlike_behind c.args.first.now.coming c.args.export.now.coming c.authorities.first.coming c.authorities.export.coming
    (c.authorities.invariant.beside first_tells tells) place
    (c.in_err-at.ensures.unlike place (ap Err (stop_of _ _ is)) (c.authorities.invariant.tells ∙ first_tells) (c.authorities.invariant.export_tells ∙ tells)))

pub authorities-preserved : goal.authorities-preserved
authorities-preserved g c =
    let on = rw (c.in-Same.is) at c.in_ok-at.ensures.going in
    let next = rw (c.in-Same.is) at c.in_ok-at.ensures.gives in
    record {
      going = on.0.over;
      export_going = on.1.over;
      tells = on.0.tells ∙ c.authorities.invariant.tells;
      export_tells = on.1.tells ∙ c.authorities.invariant.export_tells;
      later = omega (arith, c.authorities.invariant.later, c.compare_next.ensures.input.later);
      export_later = omega (arith, c.authorities.invariant.export_later, c.compare_next.ensures.input.other_later);
      beside = λ first_tells tells.
          beside_more c.args.first.now.coming c.args.export.now.coming c.authorities.first.coming c.authorities.export.coming c.in-Same.at
          c.compare_next.new.first.coming c.compare_next.new.export.coming (c.authorities.invariant.beside first_tells tells)
          (next (c.authorities.invariant.tells ∙ first_tells) (c.authorities.invariant.export_tells ∙ tells));
      place_is = λ first_tells tells.
          place_next c.args.first.now.coming c.args.export.now.coming c.authorities.first.coming c.authorities.export.coming c.in-Same.at
          c.compare_next.new.first.coming c.compare_next.new.export.coming (c.authorities.invariant.beside first_tells tells)
          (next (c.authorities.invariant.tells ∙ first_tells) (c.authorities.invariant.export_tells ∙ tells));
    }

pub returns-in-Record-clause-passed : goal.returns-in-Record-clause-passed
returns-in-Record-clause-passed g c = λ first_tells tells.
    let given = rw (c.in-Record.is) at c.in_ok-at.ensures.gives in
    let next = given (c.authorities.invariant.tells ∙ first_tells) (c.authorities.invariant.export_tells ∙ tells) in
    at_record c.args.first.now.coming c.args.export.now.coming c.authorities.first.coming c.authorities.export.coming
    (c.authorities.invariant.beside first_tells tells) c.in-Record.at c.compare_next.new.piece.items c.compare_next.new.export.coming next.0 next.1

pub returns-in-Fewer-clause-unlike : goal.returns-in-Fewer-clause-unlike
returns-in-Fewer-clause-unlike g c = λ place is first_tells tells.
    let given = rw (c.in-Fewer.is) at c.in_ok-at.ensures.gives in
    let next = given (c.authorities.invariant.tells ∙ first_tells) (c.authorities.invariant.export_tells ∙ tells) in
    subst (IsUnlike c.args.first.now.coming c.args.export.now.coming) (same_place c.authorities.place place is)
    (fewer c.args.first.now.coming c.args.export.now.coming c.authorities.first.coming c.authorities.export.coming
    (c.authorities.invariant.beside first_tells tells) c.authorities.place next.0 next.1 (c.authorities.invariant.place_is first_tells tells))
