-- Keys, forms and places told through their numbers: a table is a test of numbers and seats, and the rules speak of names and
-- places.
use Rattle.std.specs.Prelude.{◌≡◌, ℕ, ◌<◌, Bool, true, List, length, if◌then◌else◌}
use Rattle.std.specs.List.{IsDistinct}
use Rattle.marc_types.specs.declared.key.Class.{Class}
use Rattle.marc_types.specs.declared.key.Class.TheVariants.{Authority, Bibliographic}
use Rattle.marc_types.specs.declared.key.Key.{Key}
use Rattle.marc_types.specs.declared.key.Place.{Place}
use Rattle.marc_types.specs.Order.{same_key}
use Rattle.numbering.specs.Numbers.{is_known, number_of, Keeps}
use Rattle.numbering.specs.Seats.{same_seat}
use Rattle.numbering.specs.declared.seat.Seat.{Seat}
use Rattle.linking_laws.specs.Partway.{same_place}
use Rattle.form_index.specs.Order.{key_at}

-- the keys of each class, in the order of their numbers
pub record KeyLists : Type 0 where
  pub authorities : List Key
  pub bibliographic : List Key

-- the keys of a class, in the order of their numbers
abbrev pub keys_in : Class → KeyLists → List Key
keys_in Authority keys = keys.authorities
keys_in Bibliographic keys = keys.bibliographic

-- each key has one number
pub record AreDistinct (keys : KeyLists) : Type 0 where
  pub authorities : IsDistinct same_key keys.authorities
  pub bibliographic : IsDistinct same_key keys.bibliographic

-- the keys' numbers stay while new keys get theirs
pub record KeysKeep (old new : KeyLists) : Type 0 where
  pub authorities : Keeps same_key old.authorities new.authorities
  pub bibliographic : Keeps same_key old.bibliographic new.bibliographic

-- whether the key of a place has a number
abbrev pub has_number : KeyLists → Place → Bool
has_number keys place = is_known same_key (keys_in place.class keys) place.key

-- the seat of a place
abbrev pub seat_of : KeyLists → Place → Seat
seat_of keys place = record { class = place.class; number = number_of same_key (keys_in place.class keys) place.key; field = place.field }

-- the place that a seat stands for
abbrev pub place_at : KeyLists → Seat → Place
place_at keys seat = record { class = seat.class; key = key_at (keys_in seat.class keys) seat.number; field = seat.field }

-- the place has a seat, and it is this one
pub record IsSeatOf (keys : KeyLists) (place : Place) (seat : Seat) : Type 0 where
  pub known : has_number keys place ≡ true
  pub is : seat ≡ seat_of keys place

-- a seat of a key that has a number
abbrev pub HasKey : KeyLists → Seat → Type 0
HasKey keys seat = seat.number < length (keys_in seat.class keys)

-- what a test of numbers and seats says of a name and a place
abbrev pub told : {T : Type 0} (same : T → T → Bool) → List T → KeyLists → (ℕ → Seat → Bool) → T → Place → Bool
told same names keys test name place = test (number_of same names name) (seat_of keys place)

-- no test passes beyond the numbers that were given
pub record IsWithin (names : ℕ) (keys : KeyLists) (test : ℕ → Seat → Bool) : Type 0 where
  pub named : (n : ℕ) (seat : Seat) → test n seat ≡ true → n < names
  pub seated : (n : ℕ) (seat : Seat) → test n seat ≡ true → HasKey keys seat

-- one seat has other numbers now, and the others have theirs
abbrev pub IsRenumbered : Seat → (ℕ → Bool) → (ℕ → Seat → Bool) → (ℕ → Seat → Bool) → Type 0
IsRenumbered one now before after = (n : ℕ) (seat : Seat) → after n seat ≡ (if same_seat one seat then now n else before n seat)

-- one place has other names now, and the others have theirs
abbrev pub IsRenamed : {T : Type 0} → Place → (T → Bool) → (T → Place → Bool) → (T → Place → Bool) → Type 0
IsRenamed {T} one now before after = (name : T) (place : Place) → after name place ≡ (if same_place one place then now name else before name place)
