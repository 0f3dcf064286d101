use Rattle.std.proofs.Common.{◌∙◌, arith}
use Rattle.std.proofs.lemmas.List.{take_all}
use Rattle.written_record.proofs.Parts.{entry_found, spells, take_there}
use Rattle.written_record.proofs.written.WrittenRecord.fields.Goals as goal

pub field_of-requires-clause-sound : goal.field_of-requires-clause-sound
field_of-requires-clause-sound c = c.parts.ensures.holds.sound

pub field_from-requires : goal.field_from-requires
field_from-requires c =
    spells _ _ _ _
    (entry_found _ _ _ _ _ c.parts.ensures.holds (omega (arith, c.parts.ensures.count)) c.field_of.ensures.tag c.field_of.ensures.area)

pub loop-field-preserved : goal.loop-field-preserved
loop-field-preserved c =
    rw c.in_ok-push.ensures.items
    (take_there _ _ _ _ _ _
    (entry_found _ _ _ _ _ c.parts.ensures.holds (omega (arith, c.parts.ensures.count)) c.field_of.ensures.tag c.field_of.ensures.area)
    c.in_ok-field_from.ensures c.loop-field.invariant)

pub returns : goal.returns
returns c =
    c.from_vec.ensures ∙ c.loop-field.invariant
    ∙ take_all _ _ (omega (arith, c.parts.ensures.count))
