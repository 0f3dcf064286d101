use Rattle.std.proofs.Common.{◌≡◌, ◌++◌}
use Rattle.catalogue_tables.specs.Sharing.{shown_keys}
use Rattle.catalogue_tables.proofs.Shared.{all_but}
use Rattle.catalogue_tables.proofs.sharing.others.Given as goal

abbrev pub invariant-loop-key : goal.invariant-loop-key
invariant-loop-key l = shown_keys l.list.items ++ all_but l.own l.key-iterator ≡ all_but l.own l.fn.found.keys
