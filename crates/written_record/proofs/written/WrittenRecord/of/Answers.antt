use Rattle.written_record.proofs.Parts.{one_of, utf8_of}
use Rattle.written_record.proofs.written.WrittenRecord.of.Goals as goal

pub invariant_of-result-2 : goal.invariant_of-result-2
invariant_of-result-2 c = utf8_of _ c.result-2-1.given.0 c.args.rec.now c.requires c.in_ok-encode_vec.ensures c.each_text_is_utf8.ensures

pub returns : goal.returns
returns c = one_of _ c.result-2-1.given.0 c.args.rec.now c.requires c.in_ok-encode_vec.ensures
