use Rattle.std.proofs.Common.{◌∙◌, sym}
use Rattle.std.specs.Option.{option_copied}
use Rattle.heading_worklist.specs.Counting.{kept_in}
use Rattle.heading_worklist.proofs.Searching.{some_lent}
use Rattle.heading_worklist.proofs.authority_lines.any_kept.Goals as goal

pub returns-then-is_kept : goal.returns-then-is_kept
returns-then-is_kept c =
    sym (some_lent (kept_in (option_copied c.args.code)) c.args.keys.now c.loop-key.key-index c.key-item.result c.loop-key-test.true c.key-item.is
    (sym c.is_kept.ensures ∙ c.if-is_kept.true))
