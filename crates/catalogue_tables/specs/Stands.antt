-- How a field stands, as this crate tells it: without the key of a link, which the field's tie has.
use Rattle.std.specs.Prelude.{List}
use Rattle.marc_types.specs.declared.key.Class.{Class}
use Rattle.entry_record.specs.Authority.{Linkable}
use Rattle.catalogue_rules.specs.State.{KeptField}
use Rattle.catalogue_rules.specs.Receipt as definition
use Rattle.catalogue_tables.specs.declared.standing.Standing.{Standing}
use Rattle.catalogue_tables.specs.declared.standing.Standing.TheVariants.{Linked, Ambiguous, Unlinked, NoHeading}

-- how a field stands, without the key of a link
abbrev pub stands_as : definition.Standing → Standing
stands_as (definition.LinkedTo key) = Linked
stands_as (definition.AmbiguousAmong keys) = Ambiguous keys
stands_as definition.WithoutLink = Unlinked
stands_as definition.WithoutHeading = NoHeading

-- the rules' standing of a field, without the key of a link
abbrev pub field_standing : List Linkable → Class → KeptField → Standing
field_standing authorities class h = stands_as (definition.standing_of authorities class h)
