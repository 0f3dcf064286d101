use Rattle.std.proofs.Common.{[], sym, ap, ◌∙◌}
use Rattle.std.proofs.lemmas.Str.{chars_from_encodes}
use Rattle.std.proofs.lemmas.List.{nil_from_length}
use Rattle.std.specs.Str.Iter.{chars_rest}
use Rattle.naco_form.specs.Comparison.{by_table, without_marks}
use Rattle.naco_form.specs.Pen.{whole}
use Rattle.naco_form.proofs.text.write_without_marks.Goals as goal

pub loop-c-init : goal.loop-c-init
loop-c-init c cs e =
    ap (λ l. whole c.args.pen.now (by_table (without_marks l))) (chars_from_encodes cs c.args.text.now c.utf8.text (e ∙ ap chars_rest c.into_iter-c-iterator.ensures.into_iter_gives ∙ c.chars-c-items.ensures.rest))

pub returns : goal.returns
unfolding by_table without_marks
returns c = c.loop-c.invariant [] (sym (nil_from_length _ c.in-None.ensures.steps.0.0))
