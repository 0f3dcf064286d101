-- What changes in a linked store, and the steps that lead back: records, the index of authorities, the link of each
-- seat, and what each seat waits for. Numbers of keys and forms are not taken back, and so they are no part of it.
use Rattle.std.specs.Prelude.{ℕ, ◌+◌, ◌<◌, ◌≤◌, nat_eq, length, List, [], ◌∷◌, Option, None, Some, ⊤, if◌then◌else◌}
use Rattle.std.specs.Option.{option_map}
use Rattle.marc_types.specs.declared.key.Class.{Class}
use Rattle.marc_types.specs.declared.key.Key.{Key}
use Rattle.numbering.specs.declared.seat.Seat.{Seat}
use Rattle.numbering.specs.Seats.{same_seat}
use Rattle.postings.specs.Counts.{brought}
use Rattle.catalogue_rules.specs.State.{KeptField, KeptRecord}
use Rattle.numbered_store.specs.Kept.{kept_record}
use Rattle.numbered_store.specs.Numbered.{Numbered, IsNumber, with_field_of, with_record}
use Rattle.link_table.specs.Links.{Links}
use Rattle.wait_table.specs.Waits.{Waits, forms_of}
use Rattle.wait_table.specs.declared.waiting.Waiting.{Waiting}
use Rattle.form_index.specs.Index.{Indexed, IsInOrder, Taken}
use Rattle.catalogue_tables.specs.Following.{CanRestore, restored, without_row}
use Rattle.linked_store.specs.declared.change.Change.{Change}
use Rattle.linked_store.specs.declared.change.Change.TheVariants.{Exchanged, Followed, Relinked, Awaited}

-- records by number, and what the three tables say
pub record Contents : Type 0 where
  pub numbered : Numbered
  pub index : Indexed
  pub links : Seat → Option ℕ
  pub waits : Seat → Option Waiting

-- another thing, or none, at one seat
abbrev pub at_seat : {V : Type 0} → Seat → Option V → (Seat → Option V) → Seat → Option V
at_seat one thing things seat = if same_seat one seat then thing else things seat

-- back to a record, or to none, under a number; to an authority's row in the index, or to none,
-- under a number; to a link, or to none; to what the seat waited for, or to nothing
pub data Step : Type 0 where
  ToRecord : Class → ℕ → Option KeptRecord → Step
  ToIndex : ℕ → Option Taken → Step
  ToLink : Seat → Option ℕ → Step
  ToWait : Seat → Option Waiting → Step

-- a change of the log as a step back
abbrev pub step_of : Change → Step
step_of (Exchanged class number before) = ToRecord class number (option_map kept_record before)
step_of (Followed number before) = ToIndex number before
step_of (Relinked seat before) = ToLink seat before
step_of (Awaited seat before) = ToWait seat before

-- what a step makes of the contents
abbrev pub apply : Step → Contents → Contents
apply (ToRecord class number r) c = record {
  numbered = with_record class number r c.numbered;
  index = c.index;
  links = c.links;
  waits = c.waits;
}
apply (ToIndex number row) c = record {
  numbered = c.numbered;
  index = restored c.numbered.keys.authorities number row c.index;
  links = c.links;
  waits = c.waits;
}
apply (ToLink seat number) c = record { numbered = c.numbered; index = c.index; links = at_seat seat number c.links; waits = c.waits }
apply (ToWait seat waiting) c = record { numbered = c.numbered; index = c.index; links = c.links; waits = at_seat seat waiting c.waits }

-- another field and tie at a seat
abbrev pub with_field_in : Seat → KeptField → Contents → Contents
with_field_in seat h c = record { numbered = with_field_of seat h c.numbered; index = c.index; links = c.links; waits = c.waits }

-- the row that was taken can come back in place of the one under the number
pub record CanReturn (keys : List Key) (number : ℕ) (row : Option Taken) (x : Indexed) : Type 0 where
  pub known : number < length keys
  pub ordered : IsInOrder keys x
  pub held : CanRestore number row x
  pub ordered_without : IsInOrder keys (without_row number x)

-- the step can be taken
abbrev pub Fits : Step → Contents → Type 0
Fits (ToRecord class number r) c = IsNumber class number c.numbered
Fits (ToIndex number row) c = CanReturn c.numbered.keys.authorities number row c.index
Fits (ToLink seat number) c = ⊤
Fits (ToWait seat waiting) c = ⊤

-- what was before the steps, which are listed as the changes were made
abbrev pub apply_back : List Step → Contents → Contents
apply_back [] c = c
apply_back (step ∷ steps) c = apply step (apply_back steps c)

-- each step can be taken once those behind it are
abbrev pub CanGoBack : List Step → Contents → Type 0
CanGoBack [] c = ⊤
CanGoBack (step ∷ steps) c = CanGoBack steps c × Fits step (apply_back steps c)

-- ---- the rooms of rows that are out

-- 1 at this seat, else 0
abbrev pub one_at : Seat → Seat → ℕ
one_at one seat = if same_seat one seat then 1 else 0

-- what a step puts back at a seat: of links, of links to a key, of rows, of rows for a form and for a key
abbrev pub link_rooms : Step → Seat → ℕ
link_rooms (ToRecord class number r) seat = 0
link_rooms (ToIndex number row) seat = 0
link_rooms (ToLink at None) seat = 0
link_rooms (ToLink at (Some number)) seat = one_at at seat
link_rooms (ToWait at waiting) seat = 0

-- of links to this key
abbrev pub key_rooms : Step → ℕ → Seat → ℕ
key_rooms (ToRecord class number r) n seat = 0
key_rooms (ToIndex number row) n seat = 0
key_rooms (ToLink at None) n seat = 0
key_rooms (ToLink at (Some number)) n seat = if same_seat at seat then (if nat_eq number n then 1 else 0) else 0
key_rooms (ToWait at waiting) n seat = 0

-- of waiting rows
abbrev pub wait_rooms : Step → Seat → ℕ
wait_rooms (ToRecord class number r) seat = 0
wait_rooms (ToIndex number row) seat = 0
wait_rooms (ToLink at number) seat = 0
wait_rooms (ToWait at None) seat = 0
wait_rooms (ToWait at (Some waiting)) seat = one_at at seat

-- of rows for this form
abbrev pub form_rooms : Step → ℕ → Seat → ℕ
form_rooms (ToRecord class number r) n seat = 0
form_rooms (ToIndex number row) n seat = 0
form_rooms (ToLink at number) n seat = 0
form_rooms (ToWait at None) n seat = 0
form_rooms (ToWait at (Some waiting)) n seat = brought nat_eq same_seat (forms_of waiting.forms) at n seat

-- of rows for this key
abbrev pub name_rooms : Step → ℕ → Seat → ℕ
name_rooms (ToRecord class number r) n seat = 0
name_rooms (ToIndex number row) n seat = 0
name_rooms (ToLink at number) n seat = 0
name_rooms (ToWait at None) n seat = 0
name_rooms (ToWait at (Some waiting)) n seat = brought nat_eq same_seat waiting.keys at n seat

-- a number of each step, together
abbrev pub total : (Step → ℕ) → List Step → ℕ
total number [] = 0
total number (step ∷ steps) = total number steps + number step

-- each row that the steps put back is out
pub record HaveRooms (steps : List Step) (l : Links) (w : Waits) : Type 0 where
  pub links : (seat : Seat) → total (λ step. link_rooms step seat) steps ≤ l.taken seat
  pub keys : (n : ℕ) (seat : Seat) → total (λ step. key_rooms step n seat) steps ≤ l.taken_from n seat
  pub waits : (seat : Seat) → total (λ step. wait_rooms step seat) steps ≤ w.taken seat
  pub forms : (n : ℕ) (seat : Seat) → total (λ step. form_rooms step n seat) steps ≤ w.taken_forms n seat
  pub names : (n : ℕ) (seat : Seat) → total (λ step. name_rooms step n seat) steps ≤ w.taken_keys n seat
