-- How a field stands, without the key of its link and the keys that could be meant.
use Rattle.std.specs.Prelude.{◌≡◌, List, Some}
use Rattle.marc_types.specs.declared.key.Class.{Class}
use Rattle.entry_record.specs.Authority.{Linkable}
use Rattle.numbering.specs.declared.seat.Seat.{Seat}
use Rattle.catalogue_rules.specs.State.{KeptField, linkable_authorities}
use Rattle.catalogue_rules.specs.Settle.{settle_field}
use Rattle.catalogue_rules.specs.Receipt.{Standing, LinkedTo, AmbiguousAmong, WithoutLink, WithoutHeading, standing_of}
use Rattle.linked_store.specs.Linked.{Linked, field_of}
use Rattle.commit_stages.specs.Fields.{field_as}
use Rattle.commit_stages.specs.declared.settled.Stands.{Stands}
use Rattle.commit_stages.specs.declared.visiting.FieldAt.{FieldAt}
use Rattle.commit_stages.specs.declared.settled.Stands.TheVariants as stands

-- how a field stands, without the keys
abbrev pub stands_as : Standing → Stands
stands_as (LinkedTo key) = stands.Linked
stands_as (AmbiguousAmong keys) = stands.Ambiguous
stands_as WithoutLink = stands.Unlinked
stands_as WithoutHeading = stands.NoHeading

-- how a field stands once it is settled
abbrev pub stands_settled : List Linkable → Class → KeptField → Stands
stands_settled all class h = stands_as (standing_of all class (settle_field all class h))

-- so does a field that was decoded
abbrev pub stands_at : Linked → Class → FieldAt → Stands
stands_at x class at = stands_settled (linkable_authorities x.state) class (field_as at)

-- the seat's field stands so once it is settled
abbrev pub StandsSo : Seat → Linked → Stands → Type 0
StandsSo seat x told = (h : KeptField) → field_of seat x ≡ Some h → told ≡ stands_settled (linkable_authorities x.state) seat.class h
