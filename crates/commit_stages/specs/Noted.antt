-- The seats that stages note: those whose field they make into another one, from which a commit counts the records that it changed.
use Rattle.std.specs.Prelude.{◌≡◌, ℕ, ◌+◌, ◌==◌, Bool, true, false, not, ◌&&◌, ◌||◌, List, length, nat_eq, Option, None, Some, if◌then◌else◌}
use Rattle.std.specs.List.{IsDistinct, list_any}
use Rattle.std.specs.Option.{option_map_or}
use Rattle.marc_types.specs.declared.key.Class.{Class}
use Rattle.marc_types.specs.declared.key.Class.TheVariants.{Authority, Bibliographic}
use Rattle.numbering.specs.Numbers.{with_thing}
use Rattle.numbering.specs.Seats.{same_seat}
use Rattle.numbering.specs.declared.seat.Seat.{Seat}
use Rattle.catalogue_rules.specs.Receipt.{same_class}
use Rattle.catalogue_rules.specs.Sameness.{same_kept}
use Rattle.catalogue_rules.specs.State.{KeptField}
use Rattle.catalogue_tables.specs.Seam.{HasKey}
use Rattle.field_settling.specs.Held.{held_as}
use Rattle.field_settling.specs.declared.held.Held.{Held}
use Rattle.linked_store.specs.Linked.{Linked, field_of}

-- what a stage makes of the seat's field is another field, or has another tie
abbrev pub changes_at : (Class → KeptField → KeptField) → Linked → Seat → Bool
changes_at change x seat = option_map_or (λ h. not (same_kept h (change seat.class h))) (field_of seat x) false

-- there is something to come, and it isn't the field that was found
abbrev pub is_another : Option Held → KeptField → Bool
is_another made h = option_map_or (λ held. not (same_kept h (held_as held))) made false

-- what was to come, unless it is the field that was found
abbrev pub IsOther : Held → KeptField → Option Held → Type 0
IsOther held h None = held_as held ≡ h
IsOther held h (Some made) = made ≡ held

-- the seat is noted too, where that is so
abbrev pub noted_for : Option Held → KeptField → Seat → List Seat → List Seat
noted_for made h seat noted = if is_another made h then with_thing same_seat noted seat else noted

-- the seat is noted too, where the stage changes its field
abbrev pub noted_with : (Class → KeptField → KeptField) → Linked → Seat → List Seat → List Seat
noted_with change x seat noted = if changes_at change x seat then with_thing same_seat noted seat else noted

-- of the seats that are done exactly those were noted at which the stage changes the field, beside those that were noted before
abbrev pub AreNoted : (Class → KeptField → KeptField) → Linked → List Seat → List Seat → List Seat → Type 0
AreNoted change x done before now =
    (seat : Seat) → list_any (same_seat seat) now ≡ (list_any (same_seat seat) before || (list_any (same_seat seat) done && changes_at change x seat))

-- of the seats whose keys have numbers exactly those were noted at which the stage changes the field, beside those that were noted
-- before
pub record NotesChanges (change : Class → KeptField → KeptField) (x : Linked) (before now : List Seat) : Type 0 where
  pub noted : (seat : Seat) → HasKey x.keys seat → list_any (same_seat seat) now ≡ (list_any (same_seat seat) before || changes_at change x seat)
  pub known : (seat : Seat) → list_any (same_seat seat) now ≡ true → list_any (same_seat seat) before ≡ false → HasKey x.keys seat

-- ---- records

-- a seat of the record of the class with the number
abbrev pub is_seat_of : Class → ℕ → Seat → Bool
is_seat_of class number seat = same_class class seat.class && (number == seat.number)

-- the record of the one class and number is that of the other
abbrev pub is_record_of : Class → ℕ → Class → ℕ → Bool
is_record_of class number other n = same_class class other && (number == n)

-- the first seat of a seat's record
abbrev pub first_seat : Seat → Seat
first_seat seat = record { class = seat.class; number = seat.number; field = 0 }

-- the first seat of a seat's record among them, unless it is the record of the class and number
abbrev pub with_first : Class → ℕ → Seat → List Seat → List Seat
with_first class number seat firsts =
    if is_record_of class number seat.class seat.number then firsts else with_thing same_seat firsts (first_seat seat)

-- the first seats of the records that have one of the seats, without the one of the class and number
abbrev pub AreFirstSeats : Class → ℕ → List Seat → List Seat → Type 0
AreFirstSeats class number seats firsts =
    (seat : Seat) → list_any (same_seat seat) firsts
    ≡ ((seat.field == 0) && (list_any (is_seat_of seat.class seat.number) seats && not (is_record_of class number seat.class seat.number)))

-- the numbers of the records of a class that have one of the seats, without a record's own, each once
pub record AreRecordNumbers (seats : List Seat) (class : Class) (number : ℕ) (other : Class) (numbers : List ℕ) : Type 0 where
  pub once : IsDistinct nat_eq numbers
  pub are : (n : ℕ) → list_any (nat_eq n) numbers ≡ (list_any (is_seat_of other n) seats && not (is_record_of class number other n))

-- so many records have one of the seats, without the one of the class and number
pub record AreRecordsOf (seats : List Seat) (class : Class) (number count : ℕ) : Type 0 where
  pub authorities : List ℕ
  pub bibliographic : List ℕ
  pub authorities_are : AreRecordNumbers seats class number Authority authorities
  pub bibliographic_are : AreRecordNumbers seats class number Bibliographic bibliographic
  pub count_is : count ≡ length authorities + length bibliographic
