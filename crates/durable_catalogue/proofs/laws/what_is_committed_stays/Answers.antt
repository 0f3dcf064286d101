use Rattle.durable_catalogue.proofs.Called.{committed_now, committed_since}
use Rattle.durable_catalogue.proofs.laws.what_is_committed_stays.Goals as goal

pub returns-clause-now : goal.returns-clause-now
returns-clause-now g c first image calls told is = committed_now first c.args.durable.now image calls told is

pub returns-clause-since : goal.returns-clause-since
returns-clause-since g c first image calls told left =
    committed_since (λ d image is. g.met.D.Disk.only_now d.journal.disk image is) first c.args.durable.now image calls told left
