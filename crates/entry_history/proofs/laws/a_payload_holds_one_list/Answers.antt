use Rattle.entry_history.proofs.Histories.{holds_once}
use Rattle.entry_history.proofs.laws.a_payload_holds_one_list.Goals as goal

pub returns : goal.returns
returns c = holds_once
