use Rattle.postings.proofs.Written.{more_names}
use Rattle.postings.proofs.counts.Counts.note_all.Goals as goal

pub loop-i-preserved : goal.loop-i-preserved
loop-i-preserved g c n p =
    more_names g.P.PartialEq.eq c.args.names.now c.loop-i.i c.args.thing p n _ _ _ c.loop-i-test.true (c.in_default.ensures.ok n p) (c.loop-i.invariant n p)
