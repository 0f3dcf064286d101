use Rattle.std.proofs.Common.{◌∙◌}
use Rattle.written_record.proofs.Parts.{one_copy, utf8_copy}
use Rattle.written_record.proofs.written.WrittenRecordTryCopy.copy.Goals as goal

pub invariant_of-result-2 : goal.invariant_of-result-2
invariant_of-result-2 c =
    utf8_copy _ _ c.result-1.given.0 c.self.inside.whole (c.from_vec.ensures ∙ c.in_ok-bytes.ensures.items ∙ c.as_slice.ensures) c.self.invariant

pub returns : goal.returns
returns c =
    one_copy _ _ c.result-1.given.0 c.self.inside.whole (c.from_vec.ensures ∙ c.in_ok-bytes.ensures.items ∙ c.as_slice.ensures) ∙ c.self.view_is
