use Rattle.loader_workers.specs.Loading.{IsLoading}
use Rattle.loader_workers.proofs.loading.load_entries.Given as goal

abbrev pub invariant-turns : goal.invariant-turns
invariant-turns g l =
    IsLoading (g.O.Object.replies (g.O.Object.origin l.shared.lock.now.opened)) l.initial.entries l.entries l.initial.pass l.pass l.counts l.refused.items

abbrev pub decreases-turns : goal.decreases-turns
decreases-turns g l = l.entries.stream.most
