use Rattle.std.proofs.lemmas.Str.{IsUtf8-from_ascii}
use Rattle.marc8_latin.proofs.PlainRuns.{ascii_run}
use Rattle.marc8_latin.proofs.writer.Writer.put_plain.Goals as goal

pub from_utf8_unchecked-requires : goal.from_utf8_unchecked-requires
from_utf8_unchecked-requires c = IsUtf8-from_ascii _ (ascii_run c.args.bytes.now c.requires)
