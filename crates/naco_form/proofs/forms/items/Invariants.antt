use Rattle.std.proofs.Common.{◌≡◌, take}
use Rattle.naco_form.specs.Form.{items_of}
use Rattle.naco_form.proofs.forms.items.Given as goal

abbrev pub invariant-loop-sub : goal.invariant-loop-sub
invariant-loop-sub l = l.items.items ≡ items_of (take l.sub-index l.sub-items)
