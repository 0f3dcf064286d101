use Rattle.std.proofs.Common.{arith}
use Rattle.marc8_latin.proofs.Fronts.{front_code}
use Rattle.marc8_latin.proofs.part.delimiter.Goals as goal

pub returns-in-len1-up : goal.returns-in-len1-up
returns-in-len1-up c = λ sets. front_code sets _ (omega arith) (cc)
