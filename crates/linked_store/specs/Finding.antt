-- What is found by the tables, in the words of the state: the fields that pass a test, what a field is to be linked to, and what an
-- entry brings at a place.
use Rattle.std.specs.Prelude.{ℕ, Bool, List, Option, slice_get}
use Rattle.marc_types.specs.declared.field.Field.{Field}
use Rattle.marc_types.specs.declared.key.Class.{Class}
use Rattle.numbering.specs.declared.seat.Seat.{Seat}
use Rattle.catalogue_rules.specs.Settle.{Arrival}
use Rattle.catalogue_rules.specs.State.{KeptField, linkable_authorities}
use Rattle.linking_laws.specs.Tables.{holds_at}
use Rattle.catalogue_tables.specs.Answers.{heading_answer}
use Rattle.catalogue_tables.specs.declared.choosing.Chosen.{Chosen}
use Rattle.linked_store.specs.Linked.{Linked, ListsSeats}
use Rattle.linked_store.specs.Placing.{fields_brought}

-- the seats of all fields that pass the test, each once
abbrev pub ListsFields : Linked → (Class → KeptField → Bool) → List Seat → Type 0
ListsFields x test seats = ListsSeats x.keys (holds_at test x.state) seats

-- what a field is to be linked to, if it is a heading: the choice of the rules, with the number of its key
abbrev pub answer_in : Linked → Class → KeptField → Option Chosen
answer_in x class h = heading_answer x.keys.authorities class h (linkable_authorities x.state)

-- the field that an arrival brings at a place, if it has one there
abbrev pub brought_at : Arrival → ℕ → Option Field
brought_at a place = slice_get (fields_brought a) place
