use Rattle.std.proofs.Common.{◌∙◌, sym, ap, arith, Some, option_map}
use Rattle.std.proofs.lemmas.Option.{slice_get_past}
use Rattle.marc_types.specs.Fields.{tag_of}
use Rattle.written_record.proofs.Parts.{tag_there}
use Rattle.written_record.proofs.written.WrittenRecord.tag_at.Goals as goal

pub tag_in-requires : goal.tag_in-requires
tag_in-requires c = omega (arith, c.parts.ensures.count, c.parts.ensures.size)

pub returns-then-field-layout : goal.returns-then-field-layout
returns-then-field-layout c =
    ap Some c.tag_in.ensures ∙ tag_there _ _ _ _ (c.parts.ensures.holds.entries c.args.field (omega (arith, c.parts.ensures.count)))

pub returns-else-field-layout : goal.returns-else-field-layout
returns-else-field-layout c =
    sym (ap (option_map tag_of) (slice_get_past c.args.self.now.fields c.args.field (omega (arith, c.parts.ensures.count))))
