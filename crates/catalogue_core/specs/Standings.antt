-- Which fields of a record count as linked, ambiguous, and unlinked, by how the catalogue says that they stand.
use Rattle.std.specs.Prelude.{Bool, true, false}
use Rattle.catalogue_tables.specs.declared.standing.Standing.{Standing}
use Rattle.catalogue_tables.specs.declared.standing.Standing.TheVariants.{Linked, Ambiguous, Unlinked, NoHeading}

-- the tables say that the field is linked
abbrev pub is_linked_here : Standing → Bool
is_linked_here Linked = true
is_linked_here (Ambiguous keys) = false
is_linked_here Unlinked = false
is_linked_here NoHeading = false

-- the tables say that it is ambiguous
abbrev pub is_ambiguous_here : Standing → Bool
is_ambiguous_here Linked = false
is_ambiguous_here (Ambiguous keys) = true
is_ambiguous_here Unlinked = false
is_ambiguous_here NoHeading = false

-- the tables say that it is a heading without a link
abbrev pub is_unlinked_here : Standing → Bool
is_unlinked_here Linked = false
is_unlinked_here (Ambiguous keys) = false
is_unlinked_here Unlinked = true
is_unlinked_here NoHeading = false
