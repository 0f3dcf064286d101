use Rattle.std.proofs.Common.{◌∙◌, sym}
use Rattle.match_report.proofs.Digits.{ten_from}
use Rattle.match_report.proofs.isbn.is_isbn_ten.Goals as goal

pub returns-then-is_check : goal.returns-then-is_check
returns-then-is_check c =
    ten_from c.args.text.now c.weighted.result c.if-text-ne10.false (sym c.are_digits.ensures ∙ c.if-not-are_digits.false)
    (sym c.is_check.ensures ∙ c.if-is_check.true) c.weighted.ensures.sum
