use Rattle.catalogue_tables.proofs.Knowing.{forms_step}
use Rattle.catalogue_tables.proofs.known.push_forms.Goals as goal

pub loop-number-preserved : goal.loop-number-preserved
loop-number-preserved c =
    forms_step c.args.names.now c.args.numbers.now c.loop-number.number-index c.args.forms.now.items c.loop-number.forms.items c.push_form.new.forms.items c.loop-number-test.true
    c.loop-number.invariant c.in_ok-push_form.ensures
