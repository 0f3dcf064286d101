use Rattle.std.proofs.Common.{refl}
use Rattle.loader_workers.proofs.loading.load.Goals as goal

pub returns : goal.returns
returns g c = record {
  result = c.load_source-source.result.1;
  told = refl;
  loads = c.load_source-source.ensures.loads;
  pass = c.load_source-source.ensures.pass;
  code = refl;
  loader = refl;
  faults_are = c.load_source-source.ensures.faults;
}
