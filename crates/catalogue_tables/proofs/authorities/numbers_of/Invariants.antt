use Rattle.std.proofs.Common.{take}
use Rattle.marc_types.specs.Order.{same_form}
use Rattle.numbering.specs.Numbers.{Keeps}
use Rattle.catalogue_tables.specs.Waiting.{AreNumbersOf}
use Rattle.catalogue_tables.proofs.authorities.numbers_of.Given as goal

abbrev pub invariant-loop-thing : goal.invariant-loop-thing
invariant-loop-thing l = record {
  keeps : Keeps same_form l.fn.forms l.forms;
  are : AreNumbersOf same_form l.forms (take l.thing-index l.things) l.numbers.items;
}
