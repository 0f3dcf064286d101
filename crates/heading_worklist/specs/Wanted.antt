-- Which subfields of a field a cell shows.
use Rattle.std.specs.Prelude.{Bool}
use Rattle.marc_types.specs.declared.field.Subfield.{Subfield}
use Rattle.heading_worklist.specs.Texts.{is_identifier, is_letter, is_of_title}
use Rattle.heading_worklist.specs.declared.texts.Wanted.{Wanted}
use Rattle.heading_worklist.specs.declared.texts.Wanted.TheVariants.{Letters, OfTitle, Identifiers}

-- those that are wanted
abbrev pub is_wanted : Wanted → Subfield → Bool
is_wanted Letters s = is_letter s
is_wanted OfTitle s = is_of_title s
is_wanted Identifiers s = is_identifier s
