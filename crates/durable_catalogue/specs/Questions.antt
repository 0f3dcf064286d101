-- How a field stands, as it is told. The rules are this project's own.
use Rattle.std.specs.Prelude.{◌≡◌, Option, Some, None}
use Rattle.std.specs.Option.{option_map}
use Rattle.marc_types.specs.declared.key.Place.{Place}
use Rattle.catalogue_rules.specs.Store.{field_under}
use Rattle.catalogue_rules.specs.State.{State, linkable_authorities}
use Rattle.catalogue_core.specs.Told.{Told, ToldLinked, ToldAmbiguous, ToldUnlinked, ToldNoHeading, field_told}
use Rattle.durable_catalogue.specs.declared.seen.Seen.{Seen}
use Rattle.durable_catalogue.specs.declared.seen.Seen.TheVariants.{Linked, Ambiguous, Unlinked, NoHeading, Absent}

-- what is told of a field, where there is one
abbrev pub told : Seen → Option Told
told (Linked key) = Some (ToldLinked key)
told Ambiguous = Some ToldAmbiguous
told Unlinked = Some ToldUnlinked
told NoHeading = Some ToldNoHeading
told Absent = None

-- how a field stands in a state
abbrev pub IsSeenIn : State → Place → Seen → Type 0
IsSeenIn s place seen = told seen ≡ option_map (field_told (linkable_authorities s) place.class) (field_under place s)
