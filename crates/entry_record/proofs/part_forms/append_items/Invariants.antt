use Rattle.std.proofs.Common.{◌≡◌, ◌++◌, filter, take}
use Rattle.heading_fields.specs.Parts.{is_part}
use Rattle.naco_form.specs.Form.{items_of}
use Rattle.entry_record.proofs.part_forms.append_items.Given as goal

abbrev pub invariant-loop-subfield : goal.invariant-loop-subfield
invariant-loop-subfield l =
    l.items.items ≡ l.fn.items.items ++ items_of (filter (is_part l.whole l.kind) (take l.subfield-index l.region))
