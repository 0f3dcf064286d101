use Rattle.std.proofs.Common.{rules, subst}
use Rattle.postings.specs.Group.{times_counted}
use Rattle.postings.specs.Listed.{HasEach}
use Rattle.postings.proofs.Counted.{has_keys}
use Rattle.postings.proofs.group.keys_of.Goals as goal

pub returns : goal.returns
returns g c =
    subst (λ things. HasEach g.P.PartialEq.eq (times_counted g.P.PartialEq.eq c.args.counts.now) things) (search rules)
    (has_keys g.P.Ord.cmp g.met.P.Eq.laws g.met.P.Ord.matches_eq c.args.counts.now c.len.ensures.ordered)
