use Rattle.std.proofs.Common.{◌==◌, ◌∙◌, length, refl, sym, ap}
use Rattle.std.specs.Prelude.{not}
use Rattle.holdings_command.proofs.Counting.{same_text, ready_shelved}
use Rattle.holdings_command.proofs.ready.ready_of.Goals as goal

pub returns : goal.returns
returns c bytes is =
    ready_shelved c.args.library.now bytes _ c.args.shelved _ is refl
    (same_text _ _ _ _ _ _ _ _ _ _ c.in_ok-text.ensures c.as_str-file.ensures c.as_slice.ensures.value c.in_ok-counts.ensures.attached c.in_ok-counts.ensures.waiting)
    (ap not (c.is_empty-refused.ensures ∙ ap (λ n. n == 0) (sym c.as_slice.ensures.len ∙ ap length c.as_slice.ensures.value)))
