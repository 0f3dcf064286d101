use Rattle.loader_workers.proofs.Loaded.{loads_nothing, turned_none}
use Rattle.loader_workers.proofs.loading.load_source.Goals as goal

pub returns-in-Err-clause-loads : goal.returns-in-Err-clause-loads
returns-in-Err-clause-loads g c origin commits = loads_nothing origin _ _ _ _ c.unbegun.ensures

pub returns-in-Err-clause-pass : goal.returns-in-Err-clause-pass
returns-in-Err-clause-pass g c = turned_none _ _ c.requires.pass.seen

pub returns-in-Err-new-clause-loads : goal.returns-in-Err-new-clause-loads
returns-in-Err-new-clause-loads g c origin commits = loads_nothing origin _ _ _ _ c.unbegun-in-Err-new.ensures

pub returns-in-Err-new-clause-pass : goal.returns-in-Err-new-clause-pass
returns-in-Err-new-clause-pass g c = turned_none _ _ c.requires.pass.seen
