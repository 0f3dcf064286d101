use Rattle.kept_rows.proofs.Classes.{ordered_ascend}
use Rattle.kept_rows.proofs.laws.rows_in_order_ascend.Goals as goal

pub returns : goal.returns
returns c = ordered_ascend
