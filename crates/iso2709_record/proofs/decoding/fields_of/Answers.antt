use Rattle.std.proofs.Common.{◌∙◌}
use Rattle.iso2709_record.proofs.RawFields.{raw_fields_more}
use Rattle.iso2709_record.proofs.decoding.fields_of.Goals as goal

pub loop-entry-preserved : goal.loop-entry-preserved
loop-entry-preserved c =
    c.in_ok-push.ensures.items
    ∙ raw_fields_more _ c.loop-entry.entry _ _ _ c.loop-entry.invariant c.field_of.ensures.tag
    (c.from_vec-area.ensures ∙ c.in_ok-from_slice.ensures.items ∙ c.field_of.ensures.area)
