use Rattle.std.proofs.Common.{◌≤◌, drop, length, sym, subst}
use Rattle.std.proofs.lemmas.Result.{err_from_is_err_and}
use Rattle.commit_journal.specs.Versions.{number_of}
use Rattle.entry_record.specs.History.{IsWithin}
use Rattle.migrate_command.specs.Fronts.{HoldsFront}
use Rattle.migrate_command.proofs.Payloads.{payloads_fit}
use Rattle.migrate_command.proofs.front.rest_of.Goals as goal

pub front_of-requires : goal.front_of-requires
front_of-requires c = subst (IsWithin c.args.limits.now) (sym c.as_slice.ensures.value) c.requires

pub payloads_behind-requires : goal.payloads_behind-requires
payloads_behind-requires c = subst (λ es. c.in_ok-count.count ≤ length es) c.as_slice.ensures.value c.in_ok-count.ensures.within

pub returns-in_err-count-clause-fault : goal.returns-in_err-count-clause-fault
returns-in_err-count-clause-fault c =
    let p = err_from_is_err_and c.from_residual.result c.from_residual.ensures.1 in
    rw (p.1, p.2, sym c.as_slice.ensures.value) c.in_err-count.ensures.fault

pub returns-in-Ok-clause-rest : goal.returns-in-Ok-clause-rest
returns-in-Ok-clause-rest c =
    let front =
    subst (λ es. HoldsFront (number_of c.args.version) c.args.frames.items c.args.limits.now es c.in_ok-count.count) c.as_slice.ensures.value c.in_ok-count.ensures.front in
    record {
      count = c.in_ok-count.count;
      front = front;
      rest = record { most = front.most; are = c.in-Ok.ensures };
    }

pub returns-in-Ok-clause-fit : goal.returns-in-Ok-clause-fit
returns-in-Ok-clause-fit c = payloads_fit (drop c.in_ok-count.count c.args.history.items) c.in-Ok.payloads.items c.in-Ok.ensures
