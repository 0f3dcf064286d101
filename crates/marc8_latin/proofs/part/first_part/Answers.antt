use Rattle.std.proofs.Common.{arith}
use Rattle.std.proofs.lemmas.Slice.{first_rest}
use Rattle.marc8_latin.proofs.Fronts.{front_byte, front_escape, front_delimiter, fault_byte}
use Rattle.marc8_latin.proofs.part.first_part.Goals as goal

pub returns-in-27 : goal.returns-in-27
returns-in-27 c =
    front_escape c.args.sets _ _ _ _ (first_rest c.args.bytes.now 0 (omega arith)) (omega arith) c.escape_sequence.ensures

pub returns-in-31 : goal.returns-in-31
returns-in-31 c =
    front_delimiter c.args.sets _ _ _ _ (first_rest c.args.bytes.now 0 (omega arith)) (omega arith) c.delimiter.ensures

pub returns-in-Some : goal.returns-in-Some
returns-in-Some c = front_byte _ _ _ (omega arith) (cc)

pub returns-in-None : goal.returns-in-None
returns-in-None c = fault_byte _ _ (omega arith) (λ e. omega arith) (λ e. omega arith) (cc)
