use Rattle.std.proofs.Common.{Err, ◌∙◌, ap}
use Rattle.std.proofs.lemmas.Result.{err_from_is_err_and}
use Rattle.parts_commands.proofs.Copied.{not_appended, stop_of, unlike_appended}
use Rattle.parts_commands.proofs.appending.append_part.Goals as goal

pub returns-in_err-place-clause-other : goal.returns-in_err-place-clause-other
returns-in_err-place-clause-other g c =
    let exit = err_from_is_err_and c.from_residual.result c.from_residual.ensures.1 in
    rw (exit.1, exit.2)
    (λ place is first_tells tells. unlike_appended c.args.first.now.coming c.args.export.now.coming c.args.buffers.now.last.items place
    (c.in_err-place.ensures.unlike place (ap Err (stop_of _ _ is)) first_tells tells))

pub returns-in-Some-clause-other : goal.returns-in-Some-clause-other
returns-in-Some-clause-other g c = λ place is first_tells tells.
    let passed = rw (c.in-Some.is) at c.in_ok-place.ensures.passed in
    let on = rw (c.in-Some.is) at c.in_ok-place.ensures.going in
    not_appended c.args.first.now.coming c.args.export.now.coming c.args.buffers.now.last.items c.in-Some.place place _ _ (passed first_tells tells)
    (c.write_records.ensures.other place is (on.1 ∙ tells))
