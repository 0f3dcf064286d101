use Rattle.std.proofs.Common.{◌∙◌}
use Rattle.entry_history.proofs.Alone.{payload_some, payload_small}
use Rattle.entry_history.proofs.entry_payload.EntryPayload.payload.Goals as goal

pub returns-clause-some : goal.returns-clause-some
returns-clause-some c = let k = c.self.inside in payload_some k.entry.value c.as_slice.result.now (c.as_slice.ensures ∙ c.self.invariant.is)

pub returns-clause-most : goal.returns-clause-most
returns-clause-most c =
    let k = c.self.inside in
    payload_small k.entry.value c.as_slice.result.now c.self.invariant.entry.admitted (c.as_slice.ensures ∙ c.self.invariant.is)
