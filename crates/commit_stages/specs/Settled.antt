-- What the choice of an unlinked field makes of it.
use Rattle.std.specs.Prelude.{◌≡◌, true, List, Option, Some, None}
use Rattle.marc_types.specs.Valid.{is_field}
use Rattle.marc_types.specs.declared.key.Class.{Class}
use Rattle.entry_record.specs.Authority.{Linkable}
use Rattle.catalogue_rules.specs.State.{KeptField}
use Rattle.catalogue_rules.specs.Settle.{settle_unlinked}
use Rattle.field_settling.specs.Held.{held_as}
use Rattle.field_settling.specs.declared.held.Held.{Held}

-- the field with its choice, which is one as records have them where the field is
pub record IsChoiceSettled (all : List Linkable) (class : Class) (h made : KeptField) : Type 0 where
  pub made_is : made ≡ settle_unlinked all class h
  pub proper : is_field h.field ≡ true → is_field made.field ≡ true

-- none stands for the field that is there
abbrev pub IsChoiceSettledTo : List Linkable → Class → KeptField → Option Held → Type 0
IsChoiceSettledTo all class h None = settle_unlinked all class h ≡ h
IsChoiceSettledTo all class h (Some held) = IsChoiceSettled all class h (held_as held)
