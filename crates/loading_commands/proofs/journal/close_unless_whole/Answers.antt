use Rattle.std.proofs.Common.{◌≡◌, Some, refl, sym, ap, subst, ◌∙◌}
use Rattle.loading_commands.specs.Outcomes.{IsStopped, Unloaded, Faulty, loading_fault}
use Rattle.loading_commands.proofs.journal.close_unless_whole.Goals as goal

pub returns-in-Err-clause-closed : goal.returns-in-Err-clause-closed
returns-in-Err-clause-closed g c =
    let last = c.close_journal.ensures in record {
      ended = subst (λ r. IsStopped _ r) (sym c.in-Err.is) (Unloaded _ refl);
      closed = last.closed;
      log = last.log;
      cause = last.cause;
    }

pub returns-in-Some-clause-closed : goal.returns-in-Some-clause-closed
returns-in-Some-clause-closed g c =
    let last = c.close_journal-in-Some.ensures in
    let faulty : loading_fault c.in-Ok.results ≡ Some c.in-Some.fault = ap loading_fault (sym c.as_slice.ensures) ∙ (sym c.loading_fault.ensures ∙ c.in-Some.is) in
    record {
      ended = subst (λ r. IsStopped c.in-Some.fault r) (sym c.in-Ok.is) (Faulty c.in-Ok.results faulty);
      closed = last.closed;
      log = last.log;
      cause = last.cause;
    }
