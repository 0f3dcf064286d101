use Rattle.std.proofs.Common.{◌≡◌, ◌++◌, take}
use Rattle.std.specs.List.{flat_map}
use Rattle.heading_list.specs.Rows.{subfield_text}
use Rattle.heading_list.proofs.row.add_subfields.Given as goal

abbrev pub invariant-loop-subfield : goal.invariant-loop-subfield
invariant-loop-subfield l = l.text.items ≡ l.initial.text.items ++ flat_map subfield_text (take l.subfield-index l.subfields)
