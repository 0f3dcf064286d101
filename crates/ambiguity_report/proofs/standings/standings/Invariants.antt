use Rattle.std.proofs.Common.{◌≡◌, map, take}
use Rattle.catalogue_rules.specs.State.{linkable_authorities}
use Rattle.catalogue_tables.specs.Stands.{field_standing}
use Rattle.numbered_store.specs.Kept.{kept_record}
use Rattle.ambiguity_report.proofs.standings.standings.Given as goal

abbrev pub invariant-loop-place : goal.invariant-loop-place
invariant-loop-place l = l.found.items ≡ map (field_standing (linkable_authorities l.engine.state) l.class) (take l.place (kept_record l.kept).fields)
