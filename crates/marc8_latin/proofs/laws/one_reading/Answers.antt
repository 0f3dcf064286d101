use Rattle.marc8_latin.proofs.OneReading.{one_text, text_or_fault, one_fault}
use Rattle.marc8_latin.proofs.laws.one_reading.Goals as goal

pub returns : goal.returns
returns c = record { text = one_text; kind = text_or_fault; fault = one_fault }
