use Rattle.std.proofs.Common.{rules, arith, sym, subst, ◌∙◌, ◌-◌, None}
use Rattle.std.specs.BTreeMap.{Updates, WritesThrough}
use Rattle.postings.proofs.Counted.{times_fall, no_time, last_time_seen}
use Rattle.postings.proofs.group.uncount_in.Goals as goal
use Rattle.postings.proofs.group.uncount_in.Goals.{in-Some+else-times-gt1, in_default}

pub returns-then-times-gt1 : goal.returns-then-times-gt1
returns-then-times-gt1 g c =
    let times = c.in-Some.times.now in
    times_fall g.P.Ord.cmp g.met.P.Eq.laws g.met.P.Ord.matches_eq c.args.counts.now (c.get_mut.follows.lender (times - 1)) c.args.thing times
    c.in-Some.ensures.value (c.get_mut.follows.holds (times - 1))

pub returns : goal.returns
returns g c = elim c.match-get_mut.branch [
  | in-Some+else-times-gt1 w ↦
      let times = w.in-Some.times.now in
      last_time_seen g.P.Ord.cmp g.met.P.Eq.laws g.met.P.Ord.matches_eq c.args.counts.now c.match-get_mut.counts c.remove.new.self c.args.thing times
      w.in-Some.ensures.value (omega arith)
      (subst (λ m. WritesThrough g.P.Ord.cmp (g.P.Ord.cmp c.args.thing) c.args.counts.now times m) (sym w.counts-is) (c.get_mut.follows.holds times))
      c.remove.ensures.updates
  | in_default w ↦
      no_time g.P.Ord.cmp g.met.P.Eq.laws g.met.P.Ord.matches_eq c.args.counts.now c.remove.new.self c.args.thing (search rules)
      (subst (λ m. Updates g.P.Ord.cmp m c.remove.new.self c.args.thing None) (w.counts-is ∙ c.get_mut.follows.holds-at-none) c.remove.ensures.updates)
]
