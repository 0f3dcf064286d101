use Rattle.std.proofs.Common.{◌≡◌, subst, ℕ, List, Some}
use Rattle.std.specs.Option.{option_copied}
use Rattle.wait_table.specs.Table.{waits}
use Rattle.wait_table.specs.Waits.{with_waiting}
use Rattle.catalogue_tables.specs.Waiting.{one_or_two}
use Rattle.catalogue_tables.proofs.Waited.{adds}
use Rattle.catalogue_tables.proofs.tables.CatalogueTables.add_waiting.Goals as goal

pub returns-clause-ok : goal.returns-clause-ok
returns-clause-ok c =
    adds c.asked.new.forms c.args.seat c.in_ok-forms.forms c.args.keys (one_or_two c.args.form.now (option_copied c.args.other))
    (waits c.args.self.now.waits) (waits c.add.new.self) c.in_ok-forms.ensures.ok
    (subst (λ (keys : List ℕ). waits c.add.new.self ≡ with_waiting c.args.seat (Some (record { forms = c.in_ok-forms.forms; keys = keys })) (waits c.args.self.now.waits))
    c.in_ok-keys.ensures c.in_ok-add.ensures.ok)
