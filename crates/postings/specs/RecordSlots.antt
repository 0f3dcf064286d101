-- The slots of one record, and those of the records of one class by the numbers of their keys.
use Rattle.std.specs.Prelude.{◌≡◌, ℕ, Bool, false, not, ◌&&◌, nat_eq, Option, None, Some, if◌then◌else◌}
use Rattle.numbering.specs.declared.pages.Pages.{Pages}
use Rattle.numbering.specs.Pages.{row_or}
use Rattle.postings.specs.declared.slot.Slot.{Slot}
use Rattle.postings.specs.declared.record_slots.RecordSlots.{RecordSlots}
use Rattle.postings.specs.declared.record_slots.RecordSlots.TheVariants.{Empty, One, Few}
use Rattle.postings.specs.Slot.{slot_among}

module _ {R : Type 0} where
  -- the slot of a field
  abbrev pub slot_in : RecordSlots R → ℕ → Option (Slot R)
  slot_in Empty field = None
  slot_in (One slot) field = if nat_eq slot.field field then Some slot else None
  slot_in (Few list) field = slot_among list.slots.items field

  -- whether the one slot is another field's
  abbrev pub has_other : RecordSlots R → ℕ → Bool
  has_other Empty field = false
  has_other (One slot) field = not (nat_eq slot.field field)
  has_other (Few list) field = false

  -- the slot of a field of the record whose key has the number
  abbrev pub slot_under : Pages (RecordSlots R) → ℕ → ℕ → Option (Slot R)
  slot_under records number field = slot_in (row_or Empty records number) field

  -- one field's slot of one record is changed, and no other
  abbrev pub IsChangedUnder : ℕ → ℕ → (Option (Slot R) → Option (Slot R)) → (old new : ℕ → ℕ → Option (Slot R)) → Type 0
  IsChangedUnder number field change old new = (n f : ℕ) → new n f ≡ (if nat_eq number n && nat_eq field f then change (old n f) else old n f)

  -- each slot has what it had
  abbrev pub IsSameUnder : (old new : ℕ → ℕ → Option (Slot R)) → Type 0
  IsSameUnder old new = (n f : ℕ) → new n f ≡ old n f
