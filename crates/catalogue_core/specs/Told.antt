-- What is told of a field: under which key it is linked, that it is ambiguous, that it has no link, or that it is no heading.
use Rattle.std.specs.Prelude.{List}
use Rattle.marc_types.specs.declared.key.Class.{Class}
use Rattle.marc_types.specs.declared.key.Key.{Key}
use Rattle.entry_record.specs.Authority.{Linkable}
use Rattle.catalogue_rules.specs.State.{KeptField}
use Rattle.catalogue_rules.specs.Receipt as definition

-- what is told of a field: under which key it is linked, that it is ambiguous, that it has no link, that it is no heading
pub data Told : Type 0 where
  ToldLinked : Key → Told
  ToldAmbiguous : Told
  ToldUnlinked : Told
  ToldNoHeading : Told

-- what is told of a field that stands so
abbrev pub told_by : definition.Standing → Told
told_by (definition.LinkedTo key) = ToldLinked key
told_by (definition.AmbiguousAmong keys) = ToldAmbiguous
told_by definition.WithoutLink = ToldUnlinked
told_by definition.WithoutHeading = ToldNoHeading

-- how a field stands over these authorities, as it is told
abbrev pub field_told : List Linkable → Class → KeptField → Told
field_told authorities class h = told_by (definition.standing_of authorities class h)
