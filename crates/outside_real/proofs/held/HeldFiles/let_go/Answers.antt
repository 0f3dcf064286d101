use Rattle.std.proofs.Common.{refl}
use Rattle.outside_real.proofs.NameLemmas.{other_keys_stay}
use Rattle.outside_real.proofs.held.HeldFiles.let_go.Goals as goal

pub returns-clause-others : goal.returns-clause-others
returns-clause-others c = λ n other.
    other_keys_stay _ _ n c.args.self.now.files c.remove.new.self _ refl c.remove.ensures.updates other
