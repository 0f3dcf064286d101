-- What stands for a seat: its row, if one does, and room for all its rows, also for those that are taken.
use Rattle.std.specs.Prelude.{◌≡◌, ℕ, Bool, Option, if◌then◌else◌, is_some}
use Rattle.marc_types.specs.declared.key.Class.{Class}
use Rattle.marc_types.specs.declared.key.Class.TheVariants.{Authority, Bibliographic}
use Rattle.numbering.specs.declared.seat.Seat.{Seat}
use Rattle.numbering.specs.Seats.{same_seat}
use Rattle.postings.specs.declared.slot.Slot.{Slot}
use Rattle.postings.specs.declared.slots.Slots.{Slots}
use Rattle.postings.specs.Slot.{slot_row, rooms_in}
use Rattle.postings.specs.RecordSlots.{slot_under}

-- what stands for the class
abbrev pub of_class : {A : Type 0} → A → A → Class → A
of_class authority bibliographic Authority = authority
of_class authority bibliographic Bibliographic = bibliographic

module _ {R : Type 0} where
  -- the slot of a seat
  abbrev pub slot_at : Slots R → Seat → Option (Slot R)
  slot_at slots seat =
      of_class (slot_under slots.authorities.records) (slot_under slots.bibliographic.records) seat.class seat.number seat.field

  -- the row that stands for the seat
  abbrev pub row_at : Slots R → Seat → Option R
  row_at slots seat = slot_row (slot_at slots seat)

  -- how many rows of the seat there are, standing or taken
  abbrev pub rooms_at : Slots R → Seat → ℕ
  rooms_at slots seat = rooms_in (slot_at slots seat)

  -- one seat's slot is changed, and no other
  abbrev pub IsChangedAt : Seat → (Option (Slot R) → Option (Slot R)) → (old new : Slots R) → Type 0
  IsChangedAt one change old new = (seat : Seat) → slot_at new seat ≡ (if same_seat one seat then change (slot_at old seat) else slot_at old seat)

  -- each seat has what it had
  abbrev pub IsSameAt : (old new : Slots R) → Type 0
  IsSameAt old new = (seat : Seat) → slot_at new seat ≡ slot_at old seat

-- one where there is a row
abbrev pub standing : {R : Type 0} → Option R → ℕ
standing row = if is_some row then 1 else 0

-- the rows with this one at the thing in place of what stood there
abbrev pub put : {P R : Type 0} (same : P → P → Bool) → P → Option R → (P → Option R) → P → Option R
put same one now row thing = if same one thing then now else row thing
