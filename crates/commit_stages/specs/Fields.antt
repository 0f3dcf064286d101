-- The field at a seat, as the rules see it, and its record, which was one when it was visited.
use Rattle.std.specs.Prelude.{◌≡◌, true, false, Option, None, Some, IfSome}
use Rattle.marc_types.specs.Fields.{tag_of}
use Rattle.marc_types.specs.declared.key.Class.{Class}
use Rattle.marc_types.specs.Valid.{is_record}
use Rattle.numbering.specs.declared.seat.Seat.{Seat}
use Rattle.catalogue_rules.specs.State.{KeptField, KeptRecord, fields_of, kept_field}
use Rattle.linked_store.specs.Linked.{Linked, record_at}
use Rattle.linked_store.specs.Holding.{can_be_heading}
use Rattle.commit_stages.specs.declared.visiting.FieldAt.{FieldAt}

-- the field and tie that were decoded
abbrev pub field_as : FieldAt → KeptField
field_as f = kept_field f.field.now f.tie.now

-- the record of a seat, if there is one, is a MARC record
abbrev pub IsProperAt : Seat → Linked → Type 0
IsProperAt seat x = IfSome (record_at seat.class seat.number x) (λ (r : KeptRecord). is_record r.leader (fields_of r) ≡ true)

-- the field that stands there is found, but for one that can be no heading
pub record FindsHeading (class : Class) (stands found : Option KeptField) : Type 0 where
  pub some : (h : KeptField) → found ≡ Some h → stands ≡ Some h
  pub none : (h : KeptField) → found ≡ None → stands ≡ Some h → can_be_heading class (tag_of h.field) ≡ false
