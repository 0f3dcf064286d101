use Rattle.std.proofs.Common.{subst}
use Rattle.loader_workers.specs.Beside.{CanWork, HasWorked}
use Rattle.loader_workers.specs.declared.beside.Work.TheVariants.{Follow, Page, Load}
use Rattle.loader_workers.proofs.Works.{put_three, worked_three, still_follows, still_pages, still_loads}
use Rattle.loader_workers.proofs.beside.load_beside.Goals as goal

pub work_each-requires-clause-can : goal.work_each-requires-clause-can
work_each-requires-clause-can g c κs within =
    put_three (CanWork g.T.HeadingTaker.taken g.T.HeadingTaker.takes g.P.Pager.can_page _ c.args.shared.now.lock.now) _ _ _ _ _ _ _ _
    c.requires.works.0 c.push_reserved.ensures.items c.push_reserved-2.ensures.items c.push_reserved-3.ensures.items c.as_mut_slice.ensures.value
    c.requires.follow c.requires.page c.requires.wait

pub unreachable-requires : goal.unreachable-requires
unreachable-requires g c =
    let did = worked_three (HasWorked g.T.HeadingTaker.taken g.T.HeadingTaker.takes g.P.Pager.has_paged (g.O.Object.replies (g.O.Object.origin c.args.shared.now.lock.now.opened))
    g.S.Source.left g.S.Source.bound g.S.Source.faults)
    _ _ _ _ _ _ _ _ _ _ _ _ _ c.requires.works.0 c.push_reserved.ensures.items c.push_reserved-2.ensures.items c.push_reserved-3.ensures.items c.as_mut_slice.ensures.value
    c.work_each.ensures.len c.push_reserved-3.new.self.ok.0 c.three_of-first.ensures c.work_each.ensures.each in
    still_follows g.T.HeadingTaker.taken g.T.HeadingTaker.takes g.P.Pager.has_paged (g.O.Object.replies (g.O.Object.origin c.args.shared.now.lock.now.opened))
    g.S.Source.left g.S.Source.bound g.S.Source.faults
    c.args.follower c.three_of-first.result.0 did.0 c.in_default.not-Follow

pub unreachable-requires-in_default-second : goal.unreachable-requires-in_default-second
unreachable-requires-in_default-second g c =
    let did = worked_three (HasWorked g.T.HeadingTaker.taken g.T.HeadingTaker.takes g.P.Pager.has_paged (g.O.Object.replies (g.O.Object.origin c.args.shared.now.lock.now.opened))
    g.S.Source.left g.S.Source.bound g.S.Source.faults)
    _ _ _ _ _ _ _ _ _ _ _ _ _ c.requires.works.0 c.push_reserved.ensures.items c.push_reserved-2.ensures.items c.push_reserved-3.ensures.items c.as_mut_slice.ensures.value
    c.work_each.ensures.len c.push_reserved-3.new.self.ok.0 c.three_of-first.ensures c.work_each.ensures.each in
    still_pages g.T.HeadingTaker.taken g.T.HeadingTaker.takes g.P.Pager.has_paged (g.O.Object.replies (g.O.Object.origin c.args.shared.now.lock.now.opened))
    g.S.Source.left g.S.Source.bound g.S.Source.faults
    c.args.pager c.three_of-first.result.1 did.1 c.in_default-second.not-Page

pub unreachable-requires-in_default-third : goal.unreachable-requires-in_default-third
unreachable-requires-in_default-third g c =
    let did = worked_three (HasWorked g.T.HeadingTaker.taken g.T.HeadingTaker.takes g.P.Pager.has_paged (g.O.Object.replies (g.O.Object.origin c.args.shared.now.lock.now.opened))
    g.S.Source.left g.S.Source.bound g.S.Source.faults)
    _ _ _ _ _ _ _ _ _ _ _ _ _ c.requires.works.0 c.push_reserved.ensures.items c.push_reserved-2.ensures.items c.push_reserved-3.ensures.items c.as_mut_slice.ensures.value
    c.work_each.ensures.len c.push_reserved-3.new.self.ok.0 c.three_of-first.ensures c.work_each.ensures.each in
    still_loads g.T.HeadingTaker.taken g.T.HeadingTaker.takes g.P.Pager.has_paged (g.O.Object.replies (g.O.Object.origin c.args.shared.now.lock.now.opened))
    g.S.Source.left g.S.Source.bound g.S.Source.faults
    c.args.places c.three_of-first.result.2 did.2 c.in_default-third.not-Load

pub returns-clause-followed : goal.returns-clause-followed
returns-clause-followed g c =
    let did = worked_three (HasWorked g.T.HeadingTaker.taken g.T.HeadingTaker.takes g.P.Pager.has_paged (g.O.Object.replies (g.O.Object.origin c.args.shared.now.lock.now.opened))
    g.S.Source.left g.S.Source.bound g.S.Source.faults)
    _ _ _ _ _ _ _ _ _ _ _ _ _ c.requires.works.0 c.push_reserved.ensures.items c.push_reserved-2.ensures.items c.push_reserved-3.ensures.items c.as_mut_slice.ensures.value
    c.work_each.ensures.len c.push_reserved-3.new.self.ok.0 c.three_of-first.ensures c.work_each.ensures.each in
    subst (HasWorked g.T.HeadingTaker.taken g.T.HeadingTaker.takes g.P.Pager.has_paged (g.O.Object.replies (g.O.Object.origin c.args.shared.now.lock.now.opened))
    g.S.Source.left g.S.Source.bound g.S.Source.faults (Follow c.args.follower)) c.in-Follow.is did.0

pub returns-clause-paged : goal.returns-clause-paged
returns-clause-paged g c =
    let did = worked_three (HasWorked g.T.HeadingTaker.taken g.T.HeadingTaker.takes g.P.Pager.has_paged (g.O.Object.replies (g.O.Object.origin c.args.shared.now.lock.now.opened))
    g.S.Source.left g.S.Source.bound g.S.Source.faults)
    _ _ _ _ _ _ _ _ _ _ _ _ _ c.requires.works.0 c.push_reserved.ensures.items c.push_reserved-2.ensures.items c.push_reserved-3.ensures.items c.as_mut_slice.ensures.value
    c.work_each.ensures.len c.push_reserved-3.new.self.ok.0 c.three_of-first.ensures c.work_each.ensures.each in
    subst (HasWorked g.T.HeadingTaker.taken g.T.HeadingTaker.takes g.P.Pager.has_paged (g.O.Object.replies (g.O.Object.origin c.args.shared.now.lock.now.opened))
    g.S.Source.left g.S.Source.bound g.S.Source.faults (Page c.args.pager)) c.in-Page.is did.1

pub returns-clause-each : goal.returns-clause-each
returns-clause-each g c =
    let did = worked_three (HasWorked g.T.HeadingTaker.taken g.T.HeadingTaker.takes g.P.Pager.has_paged (g.O.Object.replies (g.O.Object.origin c.args.shared.now.lock.now.opened))
    g.S.Source.left g.S.Source.bound g.S.Source.faults)
    _ _ _ _ _ _ _ _ _ _ _ _ _ c.requires.works.0 c.push_reserved.ensures.items c.push_reserved-2.ensures.items c.push_reserved-3.ensures.items c.as_mut_slice.ensures.value
    c.work_each.ensures.len c.push_reserved-3.new.self.ok.0 c.three_of-first.ensures c.work_each.ensures.each in
    subst (HasWorked g.T.HeadingTaker.taken g.T.HeadingTaker.takes g.P.Pager.has_paged (g.O.Object.replies (g.O.Object.origin c.args.shared.now.lock.now.opened))
    g.S.Source.left g.S.Source.bound g.S.Source.faults (Load c.args.places)) c.in-Load.is did.2
