use Rattle.plain_commands.proofs.Summed.{committed_none}
use Rattle.plain_commands.proofs.loaded.Loaded.new.Goals as goal

pub invariant_of-result : goal.invariant_of-result
invariant_of-result c = committed_none _ _ _ c.requires.few c.empty.ensures c.none.ensures
