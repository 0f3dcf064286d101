-- A record comes into its place, with the rows of its seats and its authority's row of the index.
use Rattle.std.specs.Prelude.{◌≡◌, ℕ, ◌==◌, ◌≤◌, false, List, [], ◌∷◌, slice_get, Option, None, Some, if◌then◌else◌, ⊤}
use Rattle.marc_types.specs.declared.entry.Entry.{Entry}
use Rattle.marc_types.specs.declared.field.Field.{Field}
use Rattle.marc_types.specs.declared.form.Form.{Form}
use Rattle.marc_types.specs.declared.key.Class.{Class}
use Rattle.marc_types.specs.declared.key.Class.TheVariants.{Authority, Bibliographic}
use Rattle.marc_types.specs.declared.key.Key.{Key}
use Rattle.numbering.specs.Seats.{same_seat}
use Rattle.numbering.specs.declared.seat.Seat.{Seat}
use Rattle.entry_record.specs.Identity.{is_deletion}
use Rattle.catalogue_rules.specs.Settle.{Arrival, arrival_of}
use Rattle.catalogue_rules.specs.State.{KeptRecord, new_field, new_record}
use Rattle.form_index.specs.Index.{IsInOrder}
use Rattle.catalogue_tables.specs.Following.{FollowsAuthority, authority_brought}
use Rattle.numbered_store.specs.Numbered.{with_record}
use Rattle.linked_store.specs.Contents.{Contents}
use Rattle.linked_store.specs.Fielding.{IsRowFor}
use Rattle.linked_store.specs.Transactions.{contents}
use Rattle.linked_store.specs.Turns.{IsWaitingOf, row_lent}
use Rattle.linked_store.specs.declared.transaction.Transaction.{Transaction}
use Rattle.linked_store.specs.declared.own.OwnRecord.{OwnRecord}
use Rattle.linked_store.specs.declared.seating.FieldRow.{FieldRow}
use Rattle.linked_store.specs.declared.turns.LentRow.{LentRow}
use Rattle.linked_store.specs.declared.turns.Row.{Row}

-- the record that an entry brings; a deletion brings none
abbrev pub record_brought : Arrival → Option KeptRecord
record_brought a = if is_deletion a.leader then None else Some (new_record a.leader a.fields)

-- the fields that an arrival brings; a deletion brings none
abbrev pub fields_brought : Arrival → List Field
fields_brought a = if is_deletion a.leader then [] else a.fields

-- what a commit gets of the record that it placed
abbrev pub own_record : Class → ℕ → OwnRecord
own_record class number = record { class = class; number = number }

-- ---- the index

-- what the seats have stays
pub record StaysInSeats (old new : Transaction) : Type 0 where
  pub links : (contents new).links ≡ (contents old).links
  pub waits : (contents new).waits ≡ (contents old).waits

-- the index has the row of the entry's authority under the number, or none; all else stays
pub record IsFollowed (number : ℕ) (e : Entry) (old new : Transaction) : Type 0 where
  pub follows : FollowsAuthority new.tables.forms number (authority_brought (arrival_of e)) old.tables.index new.tables.index
  pub ordered : IsInOrder old.store.keys.authorities new.tables.index
  pub seats : StaysInSeats old new

-- the index follows an authority's entry, and stays with a bibliographic one
abbrev pub IndexFollows : Class → ℕ → Entry → Transaction → Transaction → Type 0
IndexFollows Authority number e old new =
    FollowsAuthority new.tables.forms number (authority_brought (arrival_of e)) old.tables.index new.tables.index
    × IsInOrder old.store.keys.authorities new.tables.index
IndexFollows Bibliographic number e old new = new.tables.index ≡ old.tables.index

-- ---- seats

-- the seat of a field under a key's number
abbrev pub seat_in : Class → ℕ → ℕ → Seat
seat_in class number field = record { class = class; number = number; field = field }

-- the seat isn't one of a record's fields
abbrev pub IsElsewhere : Class → ℕ → Seat → Type 0
IsElsewhere class number seat = (field : ℕ) → same_seat (seat_in class number field) seat ≡ false

-- ---- the rows of a record's fields

-- the row of a field, if there is one
abbrev pub row_of_field : ℕ → List FieldRow → Option Row
row_of_field field [] = None
row_of_field field (one ∷ rows) = if one.field == field then Some (row_lent one.row) else row_of_field field rows

-- a field's row as a list
abbrev pub noted_rows : ℕ → Option LentRow → List FieldRow
noted_rows field None = []
noted_rows field (Some row) = (record { field = field; row = row }) ∷ []

-- no field has two rows
abbrev pub AreApart : List FieldRow → Type 0
AreApart [] = ⊤
AreApart (one ∷ rows) = (row_of_field one.field rows ≡ None) × AreApart rows

-- a seat is linked to nothing, and waits for what the row says
pub record HasRow (forms : List Form) (row : Option Row) (seat : Seat) (c : Contents) : Type 0 where
  pub link : c.links seat ≡ None
  pub waiting : IsWaitingOf forms row (c.waits seat)

-- the seats of a record's fields have these rows, and no others
abbrev pub HaveRows : List Form → Class → ℕ → List FieldRow → Contents → Type 0
HaveRows forms class number rows c = (field : ℕ) → HasRow forms (row_of_field field rows) (seat_in class number field) c

-- the seats of a record's fields from one on have no rows
abbrev pub AreFreeFrom : List Form → Class → ℕ → ℕ → Contents → Type 0
AreFreeFrom forms class number first c = (field : ℕ) → first ≤ field → HasRow forms None (seat_in class number field) c

-- the links and rows of a seat are as they were
pub record StaysAt (seat : Seat) (old new : Contents) : Type 0 where
  pub link : new.links seat ≡ old.links seat
  pub waiting : new.waits seat ≡ old.waits seat

-- the seats of a record's fields have these rows, and all else stays
pub record IsReseated (class : Class) (number : ℕ) (rows : List FieldRow) (old new : Transaction) : Type 0 where
  pub store : new.store ≡ old.store
  pub index : new.tables.index ≡ old.tables.index
  pub own : HaveRows new.tables.forms class number rows (contents new)
  pub others : (seat : Seat) → IsElsewhere class number seat → StaysAt seat (contents old) (contents new)

-- ---- the whole

-- another record, or none, stands under the number, with the index and the rows
pub record IsPlaced (number : ℕ) (e : Entry) (rows : List FieldRow) (old new : Transaction) : Type 0 where
  pub store : new.store ≡ with_record e.class number (record_brought (arrival_of e)) old.store
  pub index : IndexFollows e.class number e old new
  pub own : HaveRows new.tables.forms e.class number rows (contents new)
  pub others : (seat : Seat) → IsElsewhere e.class number seat → StaysAt seat (contents old) (contents new)

-- ---- the rows of new fields

-- the row of a field that comes in; where there is no field, there is none
abbrev pub IsRowAt : Class → List Key → Option Field → Option Row → Type 0
IsRowAt class keys None row = row ≡ None
IsRowAt class keys (Some field) row = IsRowFor class (new_field field) keys row

-- the rows of these fields, at most one each
pub record AreRowsOf (class : Class) (keys : List Key) (fields : List Field) (rows : List FieldRow) : Type 0 where
  pub own : (field : ℕ) → IsRowAt class keys (slice_get fields field) (row_of_field field rows)
  pub apart : AreApart rows
