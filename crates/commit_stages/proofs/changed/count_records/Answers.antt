use Rattle.std.proofs.Common.{ℕ, subst, sym}
use Rattle.commit_stages.specs.Noted.{AreRecordsOf}
use Rattle.commit_stages.proofs.Counting.{records_counted}
use Rattle.commit_stages.proofs.changed.count_records.Goals as goal

pub returns : goal.returns
returns c =
    subst (λ (count : ℕ). AreRecordsOf c.args.noted.now c.args.class c.args.number count) (sym c.len.ensures.length)
    (records_counted c.args.class c.args.number c.args.noted.now c.in_ok-firsts.firsts c.in_ok-firsts.ensures c.len.ensures.unique)
