-- The parts of a field.
use Rattle.std.specs.Prelude.{List, []}
use Rattle.marc_types.specs.declared.field.Tag.{Tag}
use Rattle.marc_types.specs.declared.field.Subfield.{Subfield}
use Rattle.marc_types.specs.declared.field.Field.{Field}
use Rattle.marc_types.specs.declared.field.Field.TheVariants.{Control, Variable}

-- the tag of a field
abbrev pub tag_of : Field → Tag
tag_of (Control tag text) = tag
tag_of (Variable tag ind1 ind2 subs) = tag

-- a control field has no subfields
abbrev pub subfields_of : Field → List Subfield
subfields_of (Control tag text) = []
subfields_of (Variable tag ind1 ind2 subs) = subs
