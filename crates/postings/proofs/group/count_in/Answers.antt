use Rattle.std.proofs.Common.{◌≡◌, ◌+◌, subst, rules}
use Rattle.std.specs.Prelude.{if◌then◌else◌}
use Rattle.postings.specs.Group.{times_counted}
use Rattle.postings.proofs.Counted.{times_stay, times_rise, first_time}
use Rattle.postings.proofs.group.count_in.Goals as goal

pub returns-then-times-clause-err : goal.returns-then-times-clause-err
returns-then-times-clause-err g c =
    let times = c.in-Some.times.now in
    times_stay g.P.Ord.cmp g.met.P.Eq.laws g.met.P.Ord.matches_eq c.args.counts.now (c.get_mut.follows.lender times) c.args.thing times
    c.in-Some.ensures.value (c.get_mut.follows.holds times)

pub returns-in-Some-clause-ok : goal.returns-in-Some-clause-ok
returns-in-Some-clause-ok g c =
    let times = c.in-Some.times.now in
    times_rise g.P.Ord.cmp g.met.P.Eq.laws g.met.P.Ord.matches_eq c.args.counts.now (c.get_mut.follows.lender (times + 1)) c.args.thing times
    c.in-Some.ensures.value (c.get_mut.follows.holds (times + 1))

pub returns-clause-ok : goal.returns-clause-ok
returns-clause-ok g c =
    subst (λ counts. (p : g.row.P.Denot) → times_counted g.P.PartialEq.eq c.insert.new.self p ≡ times_counted g.P.PartialEq.eq counts p + (if g.P.PartialEq.eq c.args.thing p then 1 else 0))
    c.get_mut.follows.holds-at-none
    (first_time g.P.Ord.cmp g.met.P.Eq.laws g.met.P.Ord.matches_eq c.get_mut.follows.lender-at-none c.insert.new.self c.args.thing
    (search rules) c.in_ok-insert.ensures.updates)
