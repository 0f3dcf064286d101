use Rattle.std.proofs.Common.{◌≡◌, ◌++◌, map, take}
use Rattle.std.specs.List.{flat_map}
use Rattle.heading_fields.specs.Numbers.{key_text}
use Rattle.catalogue_tables.specs.Sharing.{shown_keys}
use Rattle.heading_worklist.specs.Texts.{bar}
use Rattle.heading_worklist.proofs.cells.add_keys.Given as goal

abbrev pub invariant-loop-key : goal.invariant-loop-key
invariant-loop-key l =
    l.cell.items ≡ l.initial.cell.items ++ flat_map (λ text. bar ++ text) (map key_text (shown_keys (take l.key-index l.others)))
