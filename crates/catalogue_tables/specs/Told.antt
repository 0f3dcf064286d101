-- What the tables in numbers tell of names and places, and within which numbers they keep.
use Rattle.std.specs.Prelude.{◌≡◌, ◌<◌, Bool, false, length, Some}
use Rattle.marc_types.specs.declared.key.Key.{Key}
use Rattle.marc_types.specs.declared.key.Place.{Place}
use Rattle.marc_types.specs.Order.{same_key}
use Rattle.numbering.specs.Numbers.{IsNumberOf}
use Rattle.link_table.specs.Links.{Links, is_linked, with_key, with_row_taken, with_row_back, IsTaken}
use Rattle.link_table.specs.declared.link.Link.{Link}
use Rattle.catalogue_tables.specs.Seam.{KeyLists, HasKey, IsRenamed, IsSeatOf, IsWithin, told}

-- the places that are linked to a key
abbrev pub linked_by : KeyLists → Links → Key → Place → Bool
linked_by keys links = told same_key keys.authorities keys (λ n seat. is_linked n links seat)

-- each number of the link table is that of a key
abbrev pub LinksFit : KeyLists → Links → Type 0
LinksFit keys links = IsWithin (length keys.authorities) keys (λ n seat. is_linked n links seat)

-- whatever the keys are by which the link was numbered, its place is linked to its key now, and every other place as before
pub record TellsLink (link : Link) (old new : Links) : Type 0 where
  pub told : (keys : KeyLists) (place : Place) (key : Key) → IsSeatOf keys place link.seat → IsNumberOf same_key keys.authorities key link.number
      → IsRenamed place (λ name. same_key name key) (linked_by keys old) (linked_by keys new)
  pub fits : (keys : KeyLists) → HasKey keys link.seat → link.number < length keys.authorities → LinksFit keys old → LinksFit keys new

-- its place is linked to no key now, and every other place as before
pub record TellsNoLink (link : Link) (old new : Links) : Type 0 where
  pub told : (keys : KeyLists) (place : Place) → IsSeatOf keys place link.seat → IsRenamed place (λ name. false) (linked_by keys old) (linked_by keys new)
  pub fits : (keys : KeyLists) → LinksFit keys old → LinksFit keys new

-- the link is new
pub record AddsLink (link : Link) (old new : Links) : Type 0 where
  pub is : new ≡ with_key link.seat (Some link.number) old
  pub tells : TellsLink link old new

-- the link is out, and may come back
pub record TakesLink (link : Link) (old new : Links) : Type 0 where
  pub is : new ≡ with_row_taken link old
  pub undone : with_row_back link new ≡ old
  pub taken : IsTaken link new
  pub tells : TellsNoLink link old new

-- the link is back
pub record PutsLinkBack (link : Link) (old new : Links) : Type 0 where
  pub is : new ≡ with_row_back link old
  pub tells : TellsLink link old new
