use Rattle.loader_workers.proofs.Tasks.{same_places, each_all}
use Rattle.loader_workers.proofs.side_by_side.load_all.Goals as goal

pub load_each-requires-clause-wait : goal.load_each-requires-clause-wait
load_each-requires-clause-wait g c κs within = same_places _ _ _ c.requires.wait c.as_mut_slice.ensures.value

pub returns : goal.returns
returns g c = record { each = each_all _ _ _ _ _ c.as_mut_slice.ensures.value c.load_each.ensures c.args.places.ok.0 }
