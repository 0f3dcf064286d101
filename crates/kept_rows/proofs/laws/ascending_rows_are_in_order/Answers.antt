use Rattle.kept_rows.proofs.Classes.{ascending_ordered}
use Rattle.kept_rows.proofs.laws.ascending_rows_are_in_order.Goals as goal

pub returns : goal.returns
returns c = λ former latter one other.
    ascending_ordered former latter one.of_class other.of_class one.ascend other.ascend
