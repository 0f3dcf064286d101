use Rattle.outside_real.proofs.NameLemmas.{key_is_in, other_keys_stay}
use Rattle.outside_real.proofs.held.HeldFiles.keep.Goals as goal

pub returns-in-Ok-insert : goal.returns-in-Ok-insert
returns-in-Ok-insert c = record {
  holds = record {
    this = key_is_in _ _ c.args.self.now.files c.insert.new.self _ c.in-Ok.ensures.ok c.in-Ok-insert.ensures.updates;
    others = λ n other. other_keys_stay _ _ n c.args.self.now.files c.insert.new.self _
        c.in-Ok.ensures.ok c.in-Ok-insert.ensures.updates other;
  };
}
