use Rattle.std.proofs.Common.{◌∙◌, ap, length}
use Rattle.marc_types.specs.declared.record.Record.{Record}
use Rattle.iso2709_record.specs.Written.{record_length}
use Rattle.iso2709_record.proofs.Lengths.{length-record_bytes}
use Rattle.written_record.proofs.written.WrittenRecord.len.Goals as goal

pub returns : goal.returns
returns c =
    c.len.ensures ∙ ap length c.self.inside.whole.spelled
    ∙ length-record_bytes c.self.inside.whole.rec.leader c.self.inside.whole.rec.fields
    ∙ ap (λ (r : Record). record_length r.fields) c.self.view_is
