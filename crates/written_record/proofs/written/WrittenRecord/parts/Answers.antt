use Rattle.std.proofs.Common.{◌∙◌, ap}
use Rattle.marc_types.specs.declared.record.Record.{Record}
use Rattle.iso2709_record.specs.Written.{record_bytes}
use Rattle.iso2709_record.specs.declared.layout.Layout.{Layout}
use Rattle.written_record.specs.Records.{HoldsRecord}
use Rattle.written_record.proofs.Parts.{holds}
use Rattle.written_record.proofs.written.WrittenRecord.parts.Goals as goal

pub layout_of-layout-requires : goal.layout_of-layout-requires
layout_of-layout-requires c = rw c.as_slice-bytes.ensures (holds _ c.self.inside.whole c.self.invariant).sound

pub returns : goal.returns
returns c =
    let holds : HoldsRecord c.as_slice-bytes.result.now c.args.self.now = rw (c.as_slice-bytes.ensures, ← c.self.view_is) (holds _ c.self.inside.whole c.self.invariant) in
    record {
      bytes = c.as_slice-bytes.ensures ∙ c.self.inside.whole.spelled ∙ ap (λ (r : Record). record_bytes r.leader r.fields) c.self.view_is;
      size = holds.size;
      layout = c.layout_of-layout.ensures;
      base = ap (λ (l : Layout). l.base) c.layout_of-layout.ensures ∙ holds.base;
      count = ap (λ (l : Layout). l.entries) c.layout_of-layout.ensures ∙ holds.count;
      holds = holds;
    }
