use Rattle.std.proofs.Common.{◌∙◌, sym}
use Rattle.durable_catalogue.proofs.Coming.{none_bad, still_bad}
use Rattle.durable_catalogue.proofs.taking.FrameEntriesFrameTaker.take.Goals as goal

pub returns-then-is_some : goal.returns-then-is_some
returns-then-is_some g c = record {
  taken = λ begun before known.
      let self = c.args.self.now in (
        known.0,
        still_bad (g.T.EntryTaker.has begun.taker.now self.taker.now) begun.counter.version begun.left before c.args.frame self.counter self.left self.bad
            (sym c.is_some.ensures ∙ c.if-is_some.true) known.1,
      );
}

pub returns-in-Ok : goal.returns-in-Ok
returns-in-Ok g c = record {
  taken = λ begun before known.
      let self = c.args.self.now in (
        known.0,
        c.in-Ok.ensures begun.taker.now begun.counter.version begun.left before
            (none_bad (g.T.EntryTaker.has begun.taker.now self.taker.now) begun.counter.version begun.left before self.counter self.left self.bad
            (sym c.is_some.ensures ∙ c.if-is_some.false) known.1),
      );
}
