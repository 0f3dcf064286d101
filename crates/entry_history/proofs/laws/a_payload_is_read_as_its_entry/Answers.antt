use Rattle.entry_history.proofs.Alone.{read_back}
use Rattle.entry_history.proofs.laws.a_payload_is_read_as_its_entry.Goals as goal

pub returns-clause-alone : goal.returns-clause-alone
returns-clause-alone c before entries e h follows holds = read_back before entries e h follows holds
