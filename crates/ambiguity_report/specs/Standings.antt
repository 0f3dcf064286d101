-- How the fields of a record stand.
use Rattle.std.specs.Prelude.{ℕ, List, map, option_map, option_to_list}
use Rattle.marc_types.specs.declared.key.Class.{Class}
use Rattle.catalogue_rules.specs.State.{KeptRecord, State, linkable_authorities}
use Rattle.catalogue_rules.specs.Store.{field_at}
use Rattle.catalogue_tables.specs.Stands.{field_standing}
use Rattle.catalogue_tables.specs.declared.standing.Standing.{Standing}

-- how each field of a record of that class stands in a state
abbrev pub standings_of : State → Class → KeptRecord → List Standing
standings_of s class r = map (field_standing (linkable_authorities s) class) r.fields

-- how the field at a place stands, where there is one
abbrev pub standing_at : State → Class → ℕ → KeptRecord → List Standing
standing_at s class place r = option_to_list (option_map (field_standing (linkable_authorities s) class) (field_at place r))
