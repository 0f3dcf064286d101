-- The slot of one field of one record, and what the calls make of it. A field without a slot has none.
use Rattle.std.specs.Prelude.{◌≡◌, ℕ, ◌+◌, ◌-◌, ◌<◌, ◌≤◌, nat_eq, nat_lt, List, [], ◌∷◌, length, slice_index_or, Option, None, Some, if◌then◌else◌}
use Rattle.postings.specs.declared.slot.Slot.{Slot}

module _ {R : Type 0} where
  -- the row in a slot that may be none
  abbrev pub slot_row : Option (Slot R) → Option R
  slot_row None = None
  slot_row (Some slot) = slot.row

  -- how many rows have room there
  abbrev pub rooms_in : Option (Slot R) → ℕ
  rooms_in None = 0
  rooms_in (Some slot) = slot.rooms

  -- the slot with this row, or with none
  abbrev pub slot_with : Option R → Slot R → Slot R
  slot_with row slot = record { field = slot.field; rooms = slot.rooms; row = row }

  -- the row of a slot is exchanged
  abbrev pub exchanged : Option R → Option (Slot R) → Option (Slot R)
  exchanged row None = None
  exchanged row (Some slot) = Some (slot_with row slot)

  -- there is room for one more row
  abbrev pub roomier : ℕ → Option (Slot R) → Option (Slot R)
  roomier field None = Some (record { field = field; rooms = 1; row = None })
  roomier field (Some slot) = Some (record { field = slot.field; rooms = slot.rooms + 1; row = slot.row })

  -- there is room for one less, and a slot without room goes
  abbrev pub let_go : Option (Slot R) → Option (Slot R)
  let_go None = None
  let_go (Some slot) = if nat_lt 1 slot.rooms then Some (record { field = slot.field; rooms = slot.rooms - 1; row = slot.row }) else None

  -- the slot of a field among those of one record
  abbrev pub slot_among : List (Slot R) → ℕ → Option (Slot R)
  slot_among [] field = None
  slot_among (slot ∷ rest) field = if nat_eq slot.field field then Some slot else slot_among rest field

  -- the field of the slot at a place
  abbrev pub field_at : List (Slot R) → ℕ → ℕ
  field_at slots place = let slot = slice_index_or slots place (record { field = 0; rooms = 0; row = None }) in slot.field

  -- the fields rise
  abbrev pub IsRising : List (Slot R) → Type 0
  IsRising slots = (i j : ℕ) → i < j → j < length slots → field_at slots i < field_at slots j

  -- the slot at this place is the field's
  pub record IsAt (slots : List (Slot R)) (field place : ℕ) : Type 0 where
    pub in_range : place < length slots
    pub is_its : field_at slots place ≡ field

  -- the field's slot would go here: lesser fields before it, and greater ones from it on
  pub record IsGap (slots : List (Slot R)) (field place : ℕ) : Type 0 where
    pub in_range : place ≤ length slots
    pub below : (i : ℕ) → i < place → field_at slots i < field
    pub above : (i : ℕ) → place ≤ i → i < length slots → field < field_at slots i

  -- a field's slot is changed, and no other
  abbrev pub IsChanged : ℕ → (Option (Slot R) → Option (Slot R)) → (old new : ℕ → Option (Slot R)) → Type 0
  IsChanged field change old new = (f : ℕ) → new f ≡ (if nat_eq field f then change (old f) else old f)

  -- each field's slot is as it was
  abbrev pub IsSame : (old new : ℕ → Option (Slot R)) → Type 0
  IsSame old new = (f : ℕ) → new f ≡ old f
