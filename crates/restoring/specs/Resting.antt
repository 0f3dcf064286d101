-- How a field rests beside the heading of its authority, or without one. The rules are those of `catalogue_rules`.
use Rattle.std.specs.Prelude.{◌≡◌, ◌≢◌, ◌↔◌, ◌&&◌, ◌||◌, Bool, true, false, not, All, IsTrue, List, [], Option, Some, None, is_some, unwrap_or}
use Rattle.std.specs.Borrow.{Bor}
use Rattle.std.specs.Option.{option_copied}
use Rattle.marc_types.specs.Fields.{subfields_of}
use Rattle.marc_types.specs.declared.entry.Tie.{Tie}
use Rattle.marc_types.specs.declared.field.Field.{Field}
use Rattle.marc_types.specs.declared.field.Tag.{Tag}
use Rattle.marc_types.specs.declared.form.Kind.{Kind}
use Rattle.marc_types.specs.declared.key.Class.{Class}
use Rattle.marc_types.specs.declared.key.Key.{Key}
use Rattle.heading_fields.specs.Parts.{base_part, is_subdivided}
use Rattle.heading_fields.specs.Tables.{is_subdividable, kind_of}
use Rattle.entry_record.specs.Authority.{Linkable, is_kind}
use Rattle.numbering.specs.declared.seat.Seat.{Seat}
use Rattle.catalogue_rules.specs.State.{KeptField, Row, State, linkable_authorities, new_tie}
use Rattle.kept_rows.specs.Standing.{DoesRest}
use Rattle.linking_laws.specs.Middle.{AreAuthoritiesInOrder}
use Rattle.catalogue_tables.specs.Seam.{HasKey}
use Rattle.catalogue_tables.specs.declared.choosing.Chosen.{Chosen}
use Rattle.catalogue_tables.specs.declared.choosing.Chosen.TheVariants.{Link, Ambiguous, Unlinked}
use Rattle.field_settling.specs.Held.{linked_by}
use Rattle.linked_store.specs.Holding.{can_be_heading}
use Rattle.linked_store.specs.Linked.{Linked, field_of}

-- the heading of an authority that fields can be linked to, with its kind
abbrev pub heading_given : Linkable → Kind × Field
heading_given c = (c.kind, c.heading)

-- the field is a heading of this kind, and may be linked whole or by its base as it is
pub record CanHave (class : Class) (h : KeptField) (heading : Kind × Field) : Type 0 where
  pub kind : is_kind heading.0 (kind_of class h.field) ≡ true
  pub headed : base_part heading.0 h.field ≢ []
  pub bare : (h.tie.whole || not (is_subdivided (subfields_of heading.1))) ≡ true

-- linked to the heading anew, the field is as it stands
pub record RestsUnder (class : Class) (h : KeptField) (key : Key) (heading : Kind × Field) : Type 0 where
  pub can_have : CanHave class h heading
  pub same : linked_by class h.field h.tie.whole key heading.0 heading.1 ≡ h

-- a tie that is lent; where none is, it is blank
abbrev pub tie_lent : Option (Bor Tie) → Tie
tie_lent tie = unwrap_or (option_copied tie) new_tie

-- a field with this tag and this tie is neither linked nor can be a heading
abbrev pub is_plain : Class → Tag → Tie → Bool
is_plain class tag tie = not (is_some tie.key) && not (can_be_heading class tag)

-- a field is whole only where it takes subdivisions
abbrev pub is_whole_rightly : Class → Tag → Tie → Bool
is_whole_rightly class tag tie = not tie.whole || is_subdividable class tag

-- such a field rests where it awaits nothing
abbrev pub plain_rests : Class → Tag → Tie → Bool
plain_rests class tag tie = not (is_some tie.awaits) && is_whole_rightly class tag tie

-- an unlinked heading rests where its choice is no link, and any other field where it awaits nothing
abbrev pub rests_by : Option Chosen → Tie → Bool
rests_by (Some (Link number whole)) tie = false
rests_by (Some Ambiguous) tie = true
rests_by (Some Unlinked) tie = true
rests_by None tie = not (is_some tie.awaits)

-- each field of these rows rests among these authorities
abbrev pub DoRowsRest : List Linkable → Class → List Row → Type 0
DoRowsRest all class rows = All (λ row. All (DoesRest all class) row.1.fields) rows

-- it is told whether the field rests among the authorities of a state
abbrev pub TellsRest : Class → KeptField → State → Bool → Type 0
TellsRest class h s told = IsTrue told ↔ DoesRest (linkable_authorities s) class h

-- the field stands at a seat whose key has a number, and the authorities are in order
pub record StandsAt (h : KeptField) (seat : Seat) (x : Linked) : Type 0 where
  pub ordered : AreAuthoritiesInOrder x.state
  pub known : HasKey x.keys seat
  pub stands : field_of seat x ≡ Some h
