use Rattle.catalogue_tables.proofs.Numbered.{no_numbers, numbers_more}
use Rattle.catalogue_tables.proofs.Seams.{keeps_then}
use Rattle.marc_types.specs.Order.{same_form}
use Rattle.numbering.proofs.Numberlaws.{keeps_itself}
use Rattle.catalogue_tables.proofs.authorities.numbers_of.Goals as goal

pub loop-thing-preserved : goal.loop-thing-preserved
loop-thing-preserved c = record {
  keeps = keeps_then same_form c.args.forms.now c.loop-thing.forms c.add.new.self c.loop-thing.invariant.keeps c.in_ok-number.ensures.keeps;
  are = numbers_more same_form c.loop-thing.forms c.add.new.self c.args.things.now c.loop-thing.thing-index c.thing-item.result c.loop-thing.numbers.items c.push.new.self.items c.in_ok-number.number
      c.in_ok-number.ensures.keeps c.loop-thing-test.true c.thing-item.is c.loop-thing.invariant.are c.in_ok-number.ensures.number
      c.in_ok-push.ensures.items;
}

pub loop-thing-init : goal.loop-thing-init
loop-thing-init c = record {
  keeps = keeps_itself same_form c.args.forms.now;
  are = no_numbers c.args.forms.now c.new-numbers.result.items c.new-numbers.ensures.items;
}
