use Rattle.std.proofs.Common.{◌+◌, map}
use Rattle.std.specs.Option.{option_map}
use Rattle.heading_list.specs.Counting.{count_of}
use Rattle.heading_list.specs.Lines.{linked_of_rows}
use Rattle.heading_list.proofs.Counts.{IsToRise}
use Rattle.heading_list.proofs.links.Links.add_records.Given as goal
use Rattle.numbered_store.specs.Kept.{shown_row}

abbrev pub invariant-loop-key : goal.invariant-loop-key
invariant-loop-key l =
    IsToRise (λ key. option_map (λ n. n + linked_of_rows key (map shown_row l.rows.entries)) (count_of l.fn.self key)) l.self (map shown_row l.key-iterator)
