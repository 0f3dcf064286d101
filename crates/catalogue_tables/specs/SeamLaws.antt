-- What is proved of the seam between numbers and what they stand for.
use Rattle.std.specs.Prelude.{◌≡◌, ℕ, ◌||◌, Bool, true, false, List, length, map, None}
use Rattle.std.specs.List.{list_any}
use Rattle.marc_types.specs.declared.form.Form.{Form}
use Rattle.marc_types.specs.declared.key.Key.{Key}
use Rattle.marc_types.specs.declared.key.Place.{Place}
use Rattle.marc_types.specs.Order.{same_form, same_key}
use Rattle.numbering.specs.Numbers.{Keeps, number_of}
use Rattle.numbering.specs.Seats.{same_seat}
use Rattle.numbering.specs.declared.seat.Seat.{Seat}
use Rattle.link_table.specs.Links.{Links}
use Rattle.wait_table.specs.Waits.{Waits}
use Rattle.postings.specs.Listed.{ListsEach}
use Rattle.linking_laws.specs.Tables.{IsListing}
use Rattle.catalogue_tables.specs.Seam.{AreDistinct, HasKey, IsSeatOf, IsWithin, KeyLists, KeysKeep, place_at, seat_of, told}
use Rattle.catalogue_tables.specs.Told.{LinksFit, linked_by}
use Rattle.catalogue_tables.specs.Waiting.{WaitsFit, asking_by, naming_by, waits_for}

-- what a test within its numbers tells of names and places stays while names and keys get numbers
abbrev pub StaysTold : {T : Type 0} → (T → T → Bool) → List T → List T → Type 0
StaysTold {T} same old new = (keys many : KeyLists) (test : ℕ → Seat → Bool)
    → IsWithin (length old) keys test → Keeps same old new → KeysKeep keys many
    → (name : T) (p : Place) → told same new many test name p ≡ told same old keys test name p

-- a test stays within the numbers while more are given
abbrev pub StaysWithin : List Form → List Form → Type 0
StaysWithin old new = (keys many : KeyLists) (test : ℕ → Seat → Bool)
    → Keeps same_form old new → KeysKeep keys many → IsWithin (length old) keys test → IsWithin (length new) many test

-- the places of all seats that pass a test, each once, are all places that pass it, each once
abbrev pub ListsPlaces : KeyLists → (Seat → Bool) → List Seat → Type 0
ListsPlaces keys test seats =
    AreDistinct keys → ((s : Seat) → test s ≡ true → HasKey keys s) → ListsEach same_seat test seats
    → IsListing (λ p. test (seat_of keys p)) (map (place_at keys) seats)

-- a place waits for one of some forms or for a key
abbrev pub waits_by : List Form → KeyLists → Waits → List Form → Key → Place → Bool
waits_by known keys waits forms key place = list_any (λ form. asking_by known keys waits form place) forms || naming_by keys waits key place

-- the seats that wait are those of the places that do
abbrev pub TellsWaiting : List Form → KeyLists → Waits → Type 0
TellsWaiting known keys waits = (forms : List Form) (key : Key) (number : ℕ) (place : Place)
    → WaitsFit (length known) keys waits → number ≡ number_of same_key keys.authorities key
    → waits_for known forms number waits (seat_of keys place) ≡ waits_by known keys waits forms key place

-- what waits has a key with a number
abbrev pub HasKeysWaiting : List Form → KeyLists → Waits → Type 0
HasKeysWaiting known keys waits = (forms : List Form) (key : ℕ) (seat : Seat) → waits_for known forms key waits seat ≡ true → HasKey keys seat

-- a place that is linked to no key has no link
abbrev pub IsFreeUnlinked : KeyLists → Links → Place → Seat → Type 0
IsFreeUnlinked keys links place seat =
    AreDistinct keys → LinksFit keys links → IsSeatOf keys place seat
    → ((key : Key) → linked_by keys links key place ≡ false) → links.key_of seat ≡ None
