use Rattle.std.proofs.Common.{◌≡◌, ◌++◌, map, take}
use Rattle.std.specs.List.{flat_map}
use Rattle.heading_worklist.proofs.texts.add_joined.Given as goal

abbrev pub invariant-loop-text : goal.invariant-loop-text
invariant-loop-text l =
    l.cell.items ≡ l.initial.cell.items ++ flat_map (λ text. l.separator ++ text) (map (λ text. text.now) (take l.text-index l.others))
