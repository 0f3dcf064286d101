use Rattle.numbered_store.specs.Kept.{kept_record}
use Rattle.checkpoint.proofs.Kept.{blank_ties}
use Rattle.checkpoint.proofs.written.append_kept_ties.Goals as goal

pub returns-in-None : goal.returns-in-None
returns-in-None c =
    rw (← blank_ties (kept_record c.args.kept.now) c.field_count.result c.in-None.ensures c.field_count.ensures) c.append_blank_ties.ensures
