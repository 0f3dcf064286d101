use Rattle.std.specs.Borrow.{Bor}
use Rattle.marc_types.specs.declared.form.Form.{Form}
use Rattle.wait_table.specs.Table.{waits}
use Rattle.catalogue_tables.specs.Waiting.{asks_known}
use Rattle.catalogue_tables.proofs.Seams.{noted_asking}
use Rattle.catalogue_tables.proofs.tables.CatalogueTables.gather_asking.Goals as goal

pub loop-form-preserved : goal.loop-form-preserved
loop-form-preserved c =
    noted_asking (Bor Form) c.loop-form.found c.gather_form.new.found (λ s form. asks_known c.args.self.now.forms (waits c.args.self.now.waits) s form.now) c.args.forms.now
    c.loop-form.form-index c.form-item.result c.args.found.now c.loop-form-test.true c.form-item.is c.loop-form.invariant c.in_ok-gather_form.ensures
