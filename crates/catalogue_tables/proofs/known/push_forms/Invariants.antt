use Rattle.std.proofs.Common.{◌≡◌, ◌++◌, take}
use Rattle.catalogue_tables.specs.Known.{forms_with}
use Rattle.catalogue_tables.proofs.known.push_forms.Given as goal

abbrev pub invariant-loop-number : goal.invariant-loop-number
invariant-loop-number l = l.forms.items ≡ l.fn.forms.items ++ forms_with l.names (take l.number-index l.numbers)
