use Rattle.std.proofs.Common.{arith}
use Rattle.written_record.proofs.Parts.{entry_found, field_here, length_there, length_known}
use Rattle.written_record.proofs.Rewritten.{ends_within}
use Rattle.written_record.proofs.written.WrittenRecord.field_len_at.Goals as goal

pub field_of-requires-clause-sound : goal.field_of-requires-clause-sound
field_of-requires-clause-sound c = c.parts.ensures.holds.sound

pub returns-clause-value : goal.returns-clause-value
returns-clause-value c = λ f there.
    length_known _ _ _ _ f (entry_found _ _ _ _ _ c.parts.ensures.holds c.requires c.field_of.ensures.tag c.field_of.ensures.area) there

pub returns-clause-within : goal.returns-clause-within
returns-clause-within c =
    let e = entry_found _ _ c.args.field _ _ c.parts.ensures.holds c.requires c.field_of.ensures.tag c.field_of.ensures.area in
    omega (arith, length_there _ _ _ _ e, ends_within _ _ e.field c.requires (field_here _ _ _ _ e))
