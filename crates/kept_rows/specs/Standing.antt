-- Which states a catalogue can begin with, and what of that is told of each row alone. The rules are this project's own.
use Rattle.std.specs.Prelude.{◌≡◌, true, false, List, All, is_some}
use Rattle.marc_types.specs.Fields.{tag_of}
use Rattle.marc_types.specs.declared.key.Class.{Class}
use Rattle.heading_fields.specs.Tables.{is_subdividable}
use Rattle.entry_record.specs.Identity.{is_deletion}
use Rattle.entry_record.specs.Authority.{Linkable, is_heading_field}
use Rattle.catalogue_rules.specs.State.{KeptField, Row, State, linkable_authorities}
use Rattle.catalogue_rules.specs.Valid.{EachRow, EachField, IsAscending, IsRow, HasRoom, IsTied, IsRewritten, IsSettled, IsValid}

-- the record deletes nothing
abbrev pub IsLiving : Class → Row → Type 0
IsLiving class row = is_deletion row.1.leader ≡ false

-- a state that a catalogue can begin with: it is valid, and none of its records deletes
pub record IsStanding (s : State) : Type 0 where
  pub valid : IsValid s
  pub living : EachRow IsLiving s

-- what is told of a field alone: only one that takes subdivisions is whole, and only a heading field awaits a key
pub record IsSoundField (class : Class) (h : KeptField) : Type 0 where
  pub whole : h.tie.whole ≡ true → is_subdividable class (tag_of h.field) ≡ true
  pub awaits : is_some h.tie.awaits ≡ true → is_heading_field class h.field ≡ true

-- what is told of a row alone
pub record IsSoundRow (class : Class) (row : Row) : Type 0 where
  pub row_is : IsRow class row
  pub living : IsLiving class row
  pub fields : All (IsSoundField class) row.1.fields
  pub room : HasRoom class row

-- what is told of a field beside the authorities: its tie stands, it is rewritten, and it has no link to choose
pub record DoesRest (authorities : List Linkable) (class : Class) (h : KeptField) : Type 0 where
  pub tied : IsTied authorities class h
  pub rewritten : IsRewritten authorities class h
  pub settled : IsSettled authorities class h

-- the rows are in order, each is sound alone, and each field rests among the authorities
pub record IsSound (s : State) : Type 0 where
  pub authorities_ascend : IsAscending s.authorities
  pub bibliographic_ascend : IsAscending s.bibliographic
  pub rows : EachRow IsSoundRow s
  pub fields : EachField (DoesRest (linkable_authorities s)) s
