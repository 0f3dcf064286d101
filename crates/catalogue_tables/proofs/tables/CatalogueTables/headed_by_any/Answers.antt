use Rattle.catalogue_tables.specs.Lent.{keys_at}
use Rattle.catalogue_tables.specs.Sharing.{shown_keys}
use Rattle.catalogue_tables.proofs.Shared.{headed_next, scan_has}
use Rattle.catalogue_tables.proofs.tables.CatalogueTables.headed_by_any.Goals as goal

pub loop-form-preserved : goal.loop-form-preserved
loop-form-preserved c = λ distinct ordered k.
    headed_next c.args.keys.now c.args.self.now.index c.args.forms.now c.loop-form.form-index _ (shown_keys c.loop-form.found.keys) (shown_keys c.add_keys.new.found.keys)
    (keys_at c.args.keys.now c.headed.result.now) k c.loop-form-test.true (c.loop-form.invariant distinct ordered k) (c.in_ok-add_keys.ensures k)
    (scan_has c.args.keys.now c.args.self.now.index distinct ordered _ c.headed.result.now c.headed.ensures k)
