use Rattle.std.proofs.Common.{rules, refl, []}
use Rattle.postings.specs.Group.{times_among}
use Rattle.postings.proofs.Among.{has_nothing, has_more}
use Rattle.postings.proofs.group.each_once.Goals as goal

pub loop-i-init : goal.loop-i-init
loop-i-init g c = has_nothing g.P.PartialEq.eq (times_among g.P.PartialEq.eq []) c.in_ok-once.once.items c.in_ok-once.ensures.items (λ p. refl)

pub loop-i-preserved : goal.loop-i-preserved
loop-i-preserved g c =
    has_more g.met.P.Eq.laws c.args.things.now c.loop-i.once.items _ c.loop-i.i c.index-things-i.result (search rules) (search rules) (search rules) c.loop-i.invariant
