use Rattle.std.proofs.Common.{◌≡◌, take}
use Rattle.catalogue_tables.specs.Sharing.{shown_keys}
use Rattle.heading_worklist.proofs.heading_lines.lent.Given as goal

abbrev pub invariant-loop-key : goal.invariant-loop-key
invariant-loop-key l = shown_keys l.found.items ≡ take l.key-index l.keys
