use Rattle.std.proofs.Common.{◌≡◌, take}
use Rattle.std.specs.Prelude.{◌||◌}
use Rattle.std.specs.List.{list_any}
use Rattle.numbering.specs.Seats.{same_seat}
use Rattle.numbering.specs.declared.seat.Seat.{Seat}
use Rattle.wait_table.specs.Table.{waits}
use Rattle.catalogue_tables.specs.Waiting.{asks_known}
use Rattle.catalogue_tables.proofs.tables.CatalogueTables.gather_asking.Given as goal

abbrev pub invariant-loop-form : goal.invariant-loop-form
invariant-loop-form l =
    (s : Seat) → list_any (same_seat s) l.found
    ≡ (list_any (same_seat s) l.fn.found || list_any (λ form. asks_known l.self.forms (waits l.self.waits) s form.now) (take l.form-index l.forms))
