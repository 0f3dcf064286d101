use Rattle.std.proofs.Common.{◌∷◌, ◌++◌, ◌∙◌, append_assoc}
use Rattle.std.specs.Fmt.{decimal}
use Rattle.parts_commands.proofs.Lines.{number_split}
use Rattle.parts_commands.proofs.numbers.number_behind.Goals as goal

pub returns : goal.returns
returns c = λ front rest number next is count small low.
    let here = c.behind-bytes.ensures front (decimal number ++ next ∷ rest) (is ∙ append_assoc front (decimal number) (next ∷ rest)) count in
    let split = number_split c.behind-bytes.result.now c.digits_in_front-len.result number next rest here c.digits_in_front-len.ensures.count small low in
    (c.value_of.ensures number split.0 small, split.1)
