use Rattle.std.proofs.Common.{◌∙◌, ap}
use Rattle.std.specs.Prelude.{◌||◌}
use Rattle.std.specs.List.{list_any}
use Rattle.numbering.specs.Seats.{same_seat}
use Rattle.wait_table.specs.Table.{waits}
use Rattle.catalogue_tables.specs.Lent.{shown_forms}
use Rattle.catalogue_tables.specs.Waiting.{asks_known}
use Rattle.catalogue_tables.proofs.Waited.{all_noted, any_shown}
use Rattle.catalogue_tables.proofs.tables.CatalogueTables.waiting.Goals as goal

pub returns : goal.returns
returns c =
    all_noted c.args.self.now.forms (shown_forms c.args.forms.now) c.args.key (waits c.args.self.now.waits) c.new-found.result c.gather_asking.new.found c.gather.new.found
    c.in_ok-naming.naming.items c.new-found.ensures c.once.ensures
    (λ s. c.in_ok-gather_asking.ensures s
    ∙ ap (λ b. list_any (same_seat s) c.new-found.result || b) (any_shown (asks_known c.args.self.now.forms (waits c.args.self.now.waits) s) c.args.forms.now))
    (rw c.deref.ensures.value at c.in_ok-gather.ensures) c.in_ok-naming.ensures
