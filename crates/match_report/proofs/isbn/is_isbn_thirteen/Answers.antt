use Rattle.std.proofs.Common.{◌∙◌, sym}
use Rattle.match_report.proofs.Digits.{thirteen_from}
use Rattle.match_report.proofs.isbn.is_isbn_thirteen.Goals as goal

pub returns-then-has_prefix : goal.returns-then-has_prefix
returns-then-has_prefix c =
    thirteen_from c.args.text.now c.weighted.result c.if-text-ne13.false (sym c.are_digits.ensures ∙ c.if-not-are_digits.false)
    (sym c.has_prefix.ensures ∙ c.if-has_prefix.true) c.weighted.ensures.sum
