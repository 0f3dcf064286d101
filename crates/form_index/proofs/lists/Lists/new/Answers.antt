use Rattle.form_index.proofs.Stepping.{no_lists}
use Rattle.form_index.proofs.lists.Lists.new.Goals as goal

pub returns : goal.returns
returns c = no_lists c.new.result c.new.ensures
