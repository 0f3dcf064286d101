use Rattle.std.proofs.Common.{◌≡◌, drop}
use Rattle.catalogue_tables.specs.Choosing.{first_taker}
use Rattle.catalogue_tables.proofs.tables.CatalogueTables.first_taker.Given as goal

abbrev pub invariant-loop-subfield : goal.invariant-loop-subfield
invariant-loop-subfield l =
    first_taker l.self.forms l.keys l.self.index l.kind l.takes l.subfields
    ≡ first_taker l.self.forms l.keys l.self.index l.kind l.takes (drop l.subfield-index l.subfields)
