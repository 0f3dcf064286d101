-- Which of the two tables can have a row of a seat: the field that stands there tells.
use Rattle.std.specs.Prelude.{◌≡◌, ℕ, ◌==◌, ◌&&◌, Bool, List, Option, None, is_some, codes, if◌then◌else◌}
use Rattle.std.specs.List.{list_any}
use Rattle.std.specs.Option.{option_map_or}
use Rattle.marc_types.specs.declared.key.Class.{Class}
use Rattle.marc_types.specs.declared.key.Class.TheVariants.{Authority, Bibliographic}
use Rattle.numbering.specs.declared.seat.Seat.{Seat}
use Rattle.heading_fields.specs.Tables.{any_kind}
use Rattle.marc_types.specs.Fields.{tag_of}
use Rattle.marc_types.specs.declared.entry.Tie.{Tie}
use Rattle.marc_types.specs.declared.field.Tag.{Tag}
use Rattle.catalogue_rules.specs.State.{KeptField}
use Rattle.numbered_store.specs.Numbered.{field_of}
use Rattle.linked_store.specs.Contents.{Contents}
use Rattle.linked_store.specs.Placing.{seat_in}
use Rattle.linked_store.specs.declared.held.RowHeld.{RowHeld}
use Rattle.linked_store.specs.declared.held.RowHeld.TheVariants.{Link, Waiting, Nothing}

-- the first characters of headings' tags
abbrev pub heading_beginnings : Class → List ℕ
heading_beginnings Authority = codes "5"
heading_beginnings Bibliographic = codes "6178"

-- the character begins a heading's tag
abbrev pub begins_heading : Class → ℕ → Bool
begins_heading class a = list_any (λ c. a == c) (heading_beginnings class)

-- a field with the tag can be a heading: it begins as a heading's, and ends as that of a kind
abbrev pub can_be_heading : Class → Tag → Bool
can_be_heading class tag = begins_heading class tag.a && is_some (any_kind tag.b tag.c)

-- a linked field has its link, an unlinked one with a heading's tag can wait, and any other has nothing
abbrev pub row_held_by : Class → Tag → Tie → RowHeld
row_held_by class tag tie = if is_some tie.key then Link else if can_be_heading class tag then Waiting else Nothing

-- which table has a row of a field
abbrev pub row_held_for : Class → KeptField → RowHeld
row_held_for class h = row_held_by class (tag_of h.field) h.tie

-- where no field stands there is nothing
abbrev pub row_held : Class → Option KeptField → RowHeld
row_held class field = option_map_or (row_held_for class) field Nothing

-- the seat has no other row than this one
abbrev pub HasNoOther : RowHeld → Seat → Contents → Type 0
HasNoOther Link seat c = c.waits seat ≡ None
HasNoOther Waiting seat c = c.links seat ≡ None
HasNoOther Nothing seat c = (c.links seat ≡ None) × (c.waits seat ≡ None)

-- the seat has no other row than the one that its field tells
abbrev pub IsAsTold : Seat → Contents → Type 0
IsAsTold seat c = HasNoOther (row_held seat.class (field_of seat c.numbered)) seat c

-- the seats of a record's fields have no others
abbrev pub AreAsTold : Class → ℕ → Contents → Type 0
AreAsTold class number c = (field : ℕ) → IsAsTold (seat_in class number field) c
