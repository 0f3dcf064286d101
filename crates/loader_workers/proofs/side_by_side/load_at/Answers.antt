use Rattle.std.proofs.Common.{sym, ◌∙◌}
use Rattle.loader_workers.proofs.side_by_side.load_at.Goals as goal

pub returns : goal.returns
returns g c = record {
  task = c.in-Some.task;
  new = c.load.result;
  was = sym c.take.ensures.value ∙ c.in-Some.is;
  is = c.replace.ensures.after;
  did = c.load.ensures;
}
