use Rattle.std.proofs.Common.{rules, refl, sym, subst}
use Rattle.loader_workers.specs.SideBySide.{HasTask}
use Rattle.loader_workers.proofs.Tasks.{same_places, done_at, each_of}
use Rattle.loader_workers.proofs.side_by_side.load_each.Goals as goal

pub for_each_mut-requires-clause-accepts : goal.for_each_mut-requires-clause-accepts
for_each_mut-requires-clause-accepts g c κs within i p lt is =
    (subst (HasTask _) (sym is) (same_places _ _ _ c.requires.wait refl i p.now lt), c.requires.catalogue)

pub returns : goal.returns
returns g c =
    each_of _ _ _ (search rules) (λ k d within.
    let at = (c.for_each_mut.ensures k d within).1 in
    done_at _ _ _ _ _ at.argument_is at.left at.call)
