use Rattle.std.proofs.Common.{sym, ◌∙◌}
use Rattle.iso2709_record.proofs.Directory.{good_entry_is}
use Rattle.iso2709_record.proofs.checking.is_good_entry.Goals as goal

pub returns-then-are_alphanumeric : goal.returns-then-are_alphanumeric
returns-then-are_alphanumeric c =
    c.are_digits.ensures
    ∙ good_entry_is _ _ _ c.entry_at-entry.ensures.bytes (sym c.are_alphanumeric.ensures ∙ c.if-are_alphanumeric.true)
