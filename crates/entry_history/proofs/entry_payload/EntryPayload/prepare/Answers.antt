use Rattle.entry_history.proofs.Alone.{of_one_entry}
use Rattle.entry_history.proofs.entry_payload.EntryPayload.prepare.Goals as goal

pub read_alone-requires : goal.read_alone-requires
read_alone-requires c = record { entry = c.args.self.now; is = record { entry = c.payload.ensures.entry; is = c.payload.ensures.value } }

pub returns : goal.returns
returns c =
    of_one_entry c.args.self.now c.payload.result.now c.read_alone.result
    (record { entry = c.payload.ensures.entry; is = c.payload.ensures.value }) c.read_alone.ensures
