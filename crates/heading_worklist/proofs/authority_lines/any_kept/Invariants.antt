use Rattle.std.proofs.Common.{◌≡◌, false, take}
use Rattle.std.specs.List.{list_any}
use Rattle.std.specs.Option.{option_copied}
use Rattle.catalogue_tables.specs.Sharing.{shown_keys}
use Rattle.heading_worklist.specs.Counting.{kept_in}
use Rattle.heading_worklist.proofs.authority_lines.any_kept.Given as goal

abbrev pub invariant-loop-key : goal.invariant-loop-key
invariant-loop-key l = list_any (kept_in (option_copied l.code)) (shown_keys (take l.key-index l.keys)) ≡ false
