use Rattle.std.proofs.Common.{◌≡◌, ◌+◌, map}
use Rattle.marc_types.specs.declared.key.Key.{Key}
use Rattle.numbered_store.specs.Kept.{shown_row}
use Rattle.heading_worklist.specs.Counting.{linked_times}
use Rattle.heading_worklist.specs.Lines.{links_in}
use Rattle.heading_worklist.proofs.links.count_rows.Given as goal

abbrev pub invariant-loop-key : goal.invariant-loop-key
invariant-loop-key l = (k : Key) →
    linked_times l.counts k + links_in k (map shown_row l._key-iterator) ≡ linked_times l.initial.counts k + links_in k (map shown_row l.rows.entries)
