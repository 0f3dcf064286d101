use Rattle.reading.proofs.Written.{written_reads}
use Rattle.reading.proofs.laws.a_written_record_reads_as_itself.Goals as goal

pub returns : goal.returns
returns c = written_reads _ _ c.args.rec.now.valid c.requires c.each_text_is_utf8.ensures
