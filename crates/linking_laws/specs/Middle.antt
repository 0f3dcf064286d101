-- What a state is between two stages of a commit: all that a valid state is, but that links are rewritten and that no unlinked
-- field has a link to choose. The rules are this project's own.
use Rattle.std.specs.Prelude.{◌≡◌, ◌≤◌, ◌⊎◌, Bool, true, false, List, All, Some, None, is_some}
use Rattle.marc_types.specs.Valid.{is_record, is_field}
use Rattle.marc_types.specs.declared.field.Field.{Field}
use Rattle.marc_types.specs.declared.key.Class.{Class}
use Rattle.marc_types.specs.declared.key.Class.TheVariants.{Authority}
use Rattle.marc_types.specs.declared.key.Key.{Key}
use Rattle.marc_types.specs.Fields.{tag_of}
use Rattle.heading_fields.specs.Tables.{is_subdividable}
use Rattle.iso2709_record.specs.Written.{field_length}
use Rattle.marc_types.specs.Order.{same_key}
use Rattle.entry_record.specs.Authority.{Linkable, is_heading_field}
use Rattle.catalogue_rules.specs.State.{KeptField, KeptRecord, Row, State, fields_of, linkable_authorities}
use Rattle.catalogue_rules.specs.Receipt.{kept_under}
use Rattle.catalogue_rules.specs.Settle.{keeps_link, is_linked_to, settle_field}
use Rattle.linking_laws.specs.Stages.{Dropping, DropNone, DropBases, DropAll}
use Rattle.catalogue_rules.specs.Valid.{EachRow, EachField, IsAscending, IsRow, IsTied, HasRoom, reach}
use Rattle.marc_types.specs.declared.key.Place.{Place}
use Rattle.linking_laws.specs.Partway.{IsNext}

-- a field is no longer than its reach
abbrev pub IsWithinReach : Class → KeptField → Type 0
IsWithinReach class h = field_length h.field ≤ reach class h

-- the authority records stand in key order under proper keys
pub record AreAuthoritiesInOrder (s : State) : Type 0 where
  pub ascend : IsAscending s.authorities
  pub rows : All (IsRow Authority) s.authorities

-- what holds of a state between two stages
pub record IsMiddle (s : State) : Type 0 where
  pub authorities_ascend : IsAscending s.authorities
  pub bibliographic_ascend : IsAscending s.bibliographic
  pub rows : EachRow IsRow s
  pub ties : EachField (IsTied (linkable_authorities s)) s
  pub room : EachRow HasRoom s
  pub within : EachField IsWithinReach s

-- the field is left, or settled
abbrev pub IsLeftOrSettled : List Linkable → Class → KeptField → KeptField → Type 0
IsLeftOrSettled authorities class before now = (now ≡ before) ⊎ (now ≡ settle_field authorities class before)

-- a stage that leaves each field or settles it
pub record IsEitherStage (authorities : List Linkable) (change : Class → KeptField → KeptField) : Type 0 where
  pub either : (class : Class) (h : KeptField) → IsLeftOrSettled authorities class h (change class h)

-- a state between two stages, with these linkable authorities
pub record IsMiddleWith (authorities : List Linkable) (s : State) : Type 0 where
  pub middle : IsMiddle s
  pub authorities_are : linkable_authorities s ≡ authorities

-- a visited record with room, and a field that may stand in it
pub record IsVisited (class : Class) (row : Row) (field : Field) : Type 0 where
  pub visited : is_record row.1.leader (fields_of row.1) ≡ true
  pub room : HasRoom class row
  pub within : All (IsWithinReach class) row.1.fields
  pub proper : is_field field ≡ true
  pub short : field_length field ≤ 9999

-- which links to the key stay
abbrev pub is_spared : Dropping → KeptField → Bool
is_spared DropNone h = true
is_spared DropBases h = h.tie.whole
is_spared DropAll h = false

-- tied, but for a link to one key, which may not stay
pub record IsTiedButTo (key : Key) (authorities : List Linkable) (class : Class) (h : KeptField) : Type 0 where
  pub heading : is_some h.tie.key ≡ true → is_heading_field class h.field ≡ true
  pub kept : (other : Key) → h.tie.key ≡ Some other → same_key key other ≡ false → keeps_link authorities class h other ≡ true
  pub unawaiting : is_some h.tie.key ≡ true → h.tie.awaits ≡ None
  pub awaits : is_some h.tie.awaits ≡ true → is_heading_field class h.field ≡ true
  pub whole : h.tie.whole ≡ true → is_subdividable class (tag_of h.field) ≡ true

-- of the links to the key exactly those that are spared are allowed
abbrev pub IsSparedRightly : Dropping → Key → List Linkable → Class → KeptField → Type 0
IsSparedRightly dropping key authorities class h = is_linked_to key h ≡ true → keeps_link authorities class h key ≡ is_spared dropping h

-- what a state is before its links to a key are dropped
pub record CanDrop (dropping : Dropping) (key : Key) (s : State) : Type 0 where
  pub authorities_ascend : IsAscending s.authorities
  pub bibliographic_ascend : IsAscending s.bibliographic
  pub rows : EachRow IsRow s
  pub ties : EachField (IsTiedButTo key (linkable_authorities s)) s
  pub spared : EachField (IsSparedRightly dropping key (linkable_authorities s)) s
  pub room : EachRow HasRoom s
  pub within : EachField IsWithinReach s

-- Partway through dropping: what a state is before its links to a key are dropped, but that a link to the key is asked for only
-- where its place isn't done. (A field that is done may be linked to the key again.)
pub record CanDropOn (dropping : Dropping) (key : Key) (done : List Place) (s : State) : Type 0 where
  pub authorities_ascend : IsAscending s.authorities
  pub bibliographic_ascend : IsAscending s.bibliographic
  pub rows : EachRow IsRow s
  pub ties : EachField (IsTiedButTo key (linkable_authorities s)) s
  pub spared : (p : Place) (h : KeptField) → IsNext done p h s →
      IsSparedRightly dropping key (linkable_authorities s) p.class h
  pub room : EachRow HasRoom s
  pub within : EachField IsWithinReach s

-- a turn of dropping leads to such a state with one more place done, and the authorities stay
pub record IsDroppedOn (dropping : Dropping) (key : Key) (done : List Place) (before now : State) : Type 0 where
  pub can_go_on : CanDropOn dropping key done now
  pub authorities_stay : linkable_authorities now ≡ linkable_authorities before

-- the record that stands at a place is one as it was visited, and so is a field that comes into it
pub record IsLentAt (p : Place) (r : KeptRecord) (field : Field) (s : State) : Type 0 where
  pub kept : kept_under p.class p.key s ≡ Some r
  pub visited : is_record r.leader (fields_of r) ≡ true
  pub proper : is_field field ≡ true
