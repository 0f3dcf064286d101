use Rattle.std.proofs.Common.{length-append, sym, arith}
use Rattle.entry_history.proofs.extent.Extent.with.Goals as goal

pub returns-clause-extent : goal.returns-clause-extent
returns-clause-extent c before extent = record {
  count_is = omega (arith, extent.count_is, length-append before c.args.items.now);
  last_is = c.last_run.ensures before (sym extent.last_is);
}
