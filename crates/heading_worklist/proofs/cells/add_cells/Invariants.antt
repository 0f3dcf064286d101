use Rattle.std.proofs.Common.{◌≡◌, ◌++◌, map, take}
use Rattle.std.specs.List.{flat_map}
use Rattle.heading_worklist.specs.Csv.{then_cell}
use Rattle.heading_worklist.proofs.cells.add_cells.Given as goal

abbrev pub invariant-loop-text : goal.invariant-loop-text
invariant-loop-text l = l.line.items ≡ l.initial.line.items ++ flat_map then_cell (map (λ text. text.now) (take l.text-index l.texts))
