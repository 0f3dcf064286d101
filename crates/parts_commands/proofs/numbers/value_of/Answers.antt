use Rattle.std.proofs.Common.{◌≡◌, ◌∙◌, Ok, Err, sym}
use Rattle.parts_commands.proofs.Lines.{is_text, parsed}
use Rattle.parts_commands.proofs.numbers.value_of.Goals as goal

pub returns-in-Ok-parse : goal.returns-in-Ok-parse
returns-in-Ok-parse c = λ number is small.
    let read = parsed c.in-Ok.text.now c.parse.result number c.parse.ensures.value.0 (c.in-Ok.ensures.cases.0 ∙ is) small in
    let both : Ok c.in-Ok-parse.number ≡ Ok number = sym c.in-Ok-parse.is ∙ read in
    cc

pub returns-in-Err-parse : goal.returns-in-Err-parse
returns-in-Err-parse c = λ number is small.
    let read = parsed c.in-Ok.text.now c.parse.result number c.parse.ensures.value.0 (c.in-Ok.ensures.cases.0 ∙ is) small in
    let both : Err c.in-Err-parse.field-0 ≡ Ok number = sym c.in-Err-parse.is ∙ read in
    cc

pub returns-in-Err : goal.returns-in-Err
returns-in-Err c = λ number is small. absurd (c.in-Err.ensures.cases.0 (is_text c.args.digits.now number is small))
