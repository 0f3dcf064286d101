use Rattle.std.proofs.Common.{map}
use Rattle.std.specs.List.{flat_map}
use Rattle.heading_list.specs.Collecting.{Takes}
use Rattle.heading_list.specs.Rows.{rows_of_authority}
use Rattle.heading_list.specs.declared.first_rows.FirstRows.{FirstRows}
use Rattle.heading_list.proofs.authorities.put_authorities.Given as goal
use Rattle.numbered_store.specs.Kept.{shown_row}

-- what takes the rows that are still to come has taken all
abbrev pub invariant-loop-key : goal.invariant-loop-key
invariant-loop-key l =
    (end : FirstRows) → Takes l.first end (flat_map rows_of_authority (map shown_row l.key-iterator))
    → Takes l.fn.first end (flat_map rows_of_authority (map shown_row l.authorities.entries))
