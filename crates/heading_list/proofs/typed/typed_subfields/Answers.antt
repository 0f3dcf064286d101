use Rattle.std.proofs.Common.{[], List, sym, ap, ◌∙◌}
use Rattle.std.proofs.lemmas.Result.{IfOk-weaker}
use Rattle.marc_types.specs.declared.field.Subfield.{Subfield}
use Rattle.std.proofs.lemmas.Str.{chars_from_encodes}
use Rattle.std.proofs.lemmas.List.{nil_from_length}
use Rattle.std.specs.Str.Iter.{chars_rest}
use Rattle.heading_list.specs.Typed.{typed_subfields}
use Rattle.heading_list.proofs.typed.typed_subfields.Goals as goal

pub loop-c-init : goal.loop-c-init
loop-c-init c cs e =
    c.new-typing.ensures cs
    ∙ ap typed_subfields (chars_from_encodes cs c.args.text.now c.utf8.text (e ∙ ap chars_rest c.into_iter-c-iterator.ensures.into_iter_gives ∙ c.chars-c-items.ensures.rest))

pub returns : goal.returns
returns c =
    IfOk-weaker c.finish.result _ _ (λ (subs : List Subfield) is. is ∙ c.loop-c.invariant [] (sym (nil_from_length _ c.in-None.ensures.steps.0.0))) c.finish.ensures
