use Rattle.std.proofs.Common.{subst}
use Rattle.loader_workers.specs.SideBySide.{CanLoad}
use Rattle.loader_workers.specs.Beside.{CanWork}
use Rattle.loader_workers.proofs.Tasks.{same_places}
use Rattle.loader_workers.proofs.beside.work_at.Goals as goal

pub load_each-requires-clause-wait : goal.load_each-requires-clause-wait
load_each-requires-clause-wait g c κs within =
    same_places (λ task. CanLoad c.args.shared.now.lock.now task.pass task.file.code) _ _
    (subst (CanWork g.T.HeadingTaker.taken g.T.HeadingTaker.takes g.P.Pager.can_page _ c.args.shared.now.lock.now) c.in-Load.is c.requires.can)
    c.as_mut_slice.ensures.value
