use Rattle.std.proofs.Common.{◌≡◌, take}
use Rattle.catalogue_tables.specs.Sharing.{shown_keys}
use Rattle.heading_worklist.specs.Lines.{other_keys}
use Rattle.heading_worklist.proofs.authority_lines.other_keys.Given as goal

abbrev pub invariant-loop-key : goal.invariant-loop-key
invariant-loop-key l = shown_keys l.others.items ≡ other_keys l.own (shown_keys (take l.key-index l.group))
