-- What the waiting table in numbers tells of names and places, and within which numbers it keeps.
use Rattle.std.specs.Prelude.{◌≡◌, ℕ, ◌<◌, Bool, true, false, ◌&&◌, ◌||◌, List, [], ◌∷◌, length, map, Option, None, Some}
use Rattle.std.specs.List.{AllByRecursion, list_any}
use Rattle.marc_types.specs.declared.form.Form.{Form}
use Rattle.marc_types.specs.declared.key.Key.{Key}
use Rattle.marc_types.specs.declared.key.Place.{Place}
use Rattle.marc_types.specs.Order.{same_form, same_key}
use Rattle.numbering.specs.Numbers.{is_known, number_of}
use Rattle.numbering.specs.declared.seat.Seat.{Seat}
use Rattle.wait_table.specs.Waits.{Waits, IsTaken, asks, forms_of, names, with_row_back, with_row_taken, with_waiting}
use Rattle.wait_table.specs.declared.waiting.WaitRow.{WaitRow}
use Rattle.catalogue_tables.specs.Seam.{HasKey, IsRenamed, IsSeatOf, IsWithin, KeyLists, told}

-- the places that ask for a form, and those that name a key
abbrev pub asking_by : List Form → KeyLists → Waits → Form → Place → Bool
asking_by forms keys waits = told same_form forms keys (λ n seat. asks n waits seat)

-- the waiting table says that the field at a place names the key
abbrev pub naming_by : KeyLists → Waits → Key → Place → Bool
naming_by keys waits = told same_key keys.authorities keys (λ n seat. names n waits seat)

-- each number of the waiting table is that of a form or a key
pub record WaitsFit (forms : ℕ) (keys : KeyLists) (waits : Waits) : Type 0 where
  pub asking : IsWithin forms keys (λ n seat. asks n waits seat)
  pub naming : IsWithin (length keys.authorities) keys (λ n seat. names n waits seat)

-- these are the things' numbers, in their order
pub record AreNumbersOf {T : Type 0} (same : T → T → Bool) (names things : List T) (numbers : List ℕ) : Type 0 where
  pub known : AllByRecursion (λ t. is_known same names t ≡ true) things
  pub are : numbers ≡ map (number_of same names) things

-- all numbers are below this one
abbrev pub AreBelow : ℕ → List ℕ → Type 0
AreBelow top numbers = AllByRecursion (λ n. n < top) numbers

-- whatever the forms and keys are by which the row was numbered, its place asks for its forms and names its keys now, and every
-- other place as before
pub record TellsWait (row : WaitRow) (old new : Waits) : Type 0 where
  pub asking : (keys : KeyLists) (forms asked : List Form) (place : Place) → IsSeatOf keys place row.seat
      → AreNumbersOf same_form forms asked (forms_of row.waiting.forms)
      → IsRenamed place (λ form. list_any (same_form form) asked) (asking_by forms keys old) (asking_by forms keys new)
  pub naming : (keys : KeyLists) (named : List Key) (place : Place) → IsSeatOf keys place row.seat
      → AreNumbersOf same_key keys.authorities named row.waiting.keys
      → IsRenamed place (λ key. list_any (same_key key) named) (naming_by keys old) (naming_by keys new)
  pub fits : (keys : KeyLists) (forms : ℕ) → HasKey keys row.seat → AreBelow forms (forms_of row.waiting.forms)
      → AreBelow (length keys.authorities) row.waiting.keys → WaitsFit forms keys old → WaitsFit forms keys new

-- its place waits for nothing now, and every other place as before
pub record TellsNoWait (row : WaitRow) (old new : Waits) : Type 0 where
  pub asking : (keys : KeyLists) (forms : List Form) (place : Place) → IsSeatOf keys place row.seat
      → IsRenamed place (λ form. false) (asking_by forms keys old) (asking_by forms keys new)
  pub naming : (keys : KeyLists) (place : Place) → IsSeatOf keys place row.seat
      → IsRenamed place (λ key. false) (naming_by keys old) (naming_by keys new)
  pub fits : (keys : KeyLists) (forms : ℕ) → WaitsFit forms keys old → WaitsFit forms keys new

-- the seat waits for these forms, which have numbers now, and for these keys
pub record AddsWait (names : List Form) (seat : Seat) (asked : List Form) (keys : List ℕ) (old new : Waits) : Type 0 where
  pub row : WaitRow
  pub seat_is : row.seat ≡ seat
  pub asked_are : AreNumbersOf same_form names asked (forms_of row.waiting.forms)
  pub keys_are : row.waiting.keys ≡ keys
  pub is : new ≡ with_waiting row.seat (Some row.waiting) old
  pub tells : TellsWait row old new

-- the row is out, and may come back
pub record TakesWait (row : WaitRow) (old new : Waits) : Type 0 where
  pub is : new ≡ with_row_taken row old
  pub undone : with_row_back row new ≡ old
  pub taken : IsTaken row new
  pub tells : TellsNoWait row old new

-- the row is back
pub record PutsWaitBack (row : WaitRow) (old new : Waits) : Type 0 where
  pub is : new ≡ with_row_back row old
  pub tells : TellsWait row old new

-- one form, or two
abbrev pub one_or_two : Form → Option Form → List Form
one_or_two form None = form ∷ []
one_or_two form (Some other) = form ∷ other ∷ []

-- the seat waits for a form, if that has a number
abbrev pub asks_known : List Form → Waits → Seat → Form → Bool
asks_known known waits seat form = is_known same_form known form && asks (number_of same_form known form) waits seat

-- the seat waits for one of the forms or for the key
abbrev pub waits_for : List Form → List Form → ℕ → Waits → Seat → Bool
waits_for known forms key waits seat = list_any (asks_known known waits seat) forms || names key waits seat
