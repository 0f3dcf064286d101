use Rattle.std.proofs.Common.{sym, subst}
use denote.Param.Send.{sendable}
use Rattle.loader_workers.specs.Beside.{CanWork, HasWorked}
use Rattle.loader_workers.proofs.Works.{did_at}
use Rattle.loader_workers.proofs.beside.work_each.Goals as goal

pub for_each_mut-requires-clause-accepts : goal.for_each_mut-requires-clause-accepts
for_each_mut-requires-clause-accepts g c κs within i p lt is = (
  (subst (CanWork g.T.HeadingTaker.taken g.T.HeadingTaker.takes g.P.Pager.can_page _ c.args.shared.now.lock.now) (sym is) (c.requires.can i p.now lt), c.requires.catalogue),
  (search sendable, search sendable, search sendable, search sendable, search sendable, search sendable),
)

pub returns-clause-each : goal.returns-clause-each
returns-clause-each g c k d within =
    let at = (c.for_each_mut.ensures k d within).1 in
    did_at (HasWorked g.T.HeadingTaker.taken g.T.HeadingTaker.takes g.P.Pager.has_paged (g.O.Object.replies (g.O.Object.origin c.args.shared.now.lock.now.opened))
    g.S.Source.left g.S.Source.bound g.S.Source.faults)
    _ _ _ _ at.argument_is at.left at.call
