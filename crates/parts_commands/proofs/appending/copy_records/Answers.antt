use Rattle.std.proofs.Common.{Bool, Err, ◌∙◌, ap, arith, subst}
use Rattle.std.proofs.lemmas.Result.{err_from_is_err_and}
use Rattle.parts_commands.specs.Taking.{IsNextCopied}
use Rattle.parts_commands.proofs.Copied.{copying_more, copying_stopped, stop_of}
use Rattle.parts_commands.proofs.appending.copy_records.Goals as goal

pub returns-in_err-copy_next-clause-other : goal.returns-in_err-copy_next-clause-other
returns-in_err-copy_next-clause-other g c =
    let exit = err_from_is_err_and c.from_residual.result c.from_residual.ensures.1 in
    rw (exit.1, exit.2)
    (λ place is tells. copying_stopped c.args.export.now.coming c.records.export.coming c.args.last.now.items c.records.last.items
    (g.K.Sink.written c.args.out.now) (g.K.Sink.written c.records.out) place (c.records.invariant.copied tells)
    (c.in_err-copy_next.ensures.other place (ap Err (stop_of _ _ is)) (c.records.invariant.tells ∙ tells)))

pub records-preserved : goal.records-preserved
records-preserved g c =
    let on = c.in_ok-copy_next.ensures.going c.if-branch.true in
    record {
      going = on.over;
      tells = on.tells ∙ c.records.invariant.tells;
      later = omega (arith, c.records.invariant.later, c.copy_next.ensures.input.later);
      out_later = omega (arith, c.records.invariant.out_later, c.copy_next.ensures.output.later);
      copied = λ tells.
          copying_more c.args.export.now.coming c.records.export.coming c.copy_next.new.export.coming c.args.last.now.items c.records.last.items
          c.copy_next.new.last.items (g.K.Sink.written c.args.out.now) (g.K.Sink.written c.records.out) (g.K.Sink.written c.copy_next.new.out)
          (c.records.invariant.copied tells)
          (subst (λ (is : Bool). IsNextCopied c.records.export.coming is c.records.last.items c.copy_next.new.last.items c.copy_next.new.export.coming
          (g.K.Sink.written c.records.out) (g.K.Sink.written c.copy_next.new.out)) c.if-branch.true
          (c.in_ok-copy_next.ensures.copied (c.records.invariant.tells ∙ tells)));
    }
