use Rattle.std.proofs.Common.{◌≡◌, ◌++◌}
use Rattle.std.specs.Prelude.{unwrap_or}
use Rattle.std.specs.List.{flat_map}
use Rattle.heading_list.specs.Counting.{count_of}
use Rattle.heading_list.specs.Lines.{row_line}
use Rattle.heading_list.proofs.lines.lines.Given as goal

-- the lines so far, and those of the rows that are still to come
abbrev pub invariant-loop-row : goal.invariant-loop-row
invariant-loop-row l =
    l.text.items ++ flat_map (λ r. row_line (unwrap_or (count_of l.links r.key) 0) r) l.row-iterator
    ≡ flat_map (λ r. row_line (unwrap_or (count_of l.links r.key) 0) r) l.rows.keys
