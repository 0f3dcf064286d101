use Rattle.std.proofs.Common.{subst, ◌∙◌}
use Rattle.entry_history.specs.Payloads.{IsEntry}
use Rattle.entry_history.proofs.Alone.{same_entry}
use Rattle.entry_history.proofs.entry_payload.EntryPayload.is_of.Goals as goal

pub returns : goal.returns
returns c =
    same_entry c.args.self.now c.args.item.now c.payload-2.result.now c.as_slice.result.now c.are_equal.result c.payload-2.ensures.entry
    (subst IsEntry c.entry.ensures.value c.can_stand_in_a_payload.ensures) c.payload-2.ensures.value (c.as_slice.ensures.value ∙ c.in_ok-other.ensures) c.are_equal.ensures
