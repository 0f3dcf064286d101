-- A turn that settles an unlinked field.
use Rattle.std.specs.Prelude.{ℕ, ◌+◌, Bool, not, List, is_some}
use Rattle.marc_types.specs.declared.key.Class.{Class}
use Rattle.entry_record.specs.Authority.{Linkable}
use Rattle.catalogue_rules.specs.State.{KeptField}
use Rattle.linking_laws.specs.Visits.{link_visit}

-- the field isn't linked
abbrev pub has_no_link : Class → KeptField → Bool
has_no_link class h = not (is_some h.tie.key)

-- one visit for the record of the field, and one where its choice is a link
abbrev pub turn_visits : List Linkable → Class → KeptField → ℕ
turn_visits all class h = 1 + link_visit all class h
