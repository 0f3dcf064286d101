-- A seat's rows out and in, and its field exchanged.
use Rattle.std.specs.Prelude.{◌≡◌, ℕ, List, Option, None, Some}
use Rattle.std.specs.Option.{option_copied}
use Rattle.marc_types.specs.declared.form.Form.{Form}
use Rattle.marc_types.specs.Order.{same_form}
use Rattle.numbering.specs.declared.seat.Seat.{Seat}
use Rattle.catalogue_rules.specs.State.{KeptField}
use Rattle.wait_table.specs.Waits.{forms_of}
use Rattle.wait_table.specs.declared.waiting.Waiting.{Waiting}
use Rattle.catalogue_tables.specs.Waiting.{AreNumbersOf, one_or_two}
use Rattle.linked_store.specs.Contents.{Contents, ToLink, ToWait, apply}
use Rattle.linked_store.specs.Transactions.{contents}
use Rattle.linked_store.specs.Turning.{turned}
use Rattle.linked_store.specs.declared.transaction.Transaction.{Transaction}
use Rattle.linked_store.specs.declared.turns.LentRow.{LentRow}
use Rattle.linked_store.specs.declared.turns.Row.{Row}

-- a row as one of its own
abbrev pub row_lent : LentRow → Row
row_lent lent = record { form = lent.form.now; other = option_copied lent.other; keys = lent.keys }

-- the contents without a seat's rows
abbrev pub without_rows : Seat → Contents → Contents
without_rows seat c = apply (ToWait seat None) (apply (ToLink seat None) c)

-- the row's forms and keys by their numbers
pub record IsNumbered (forms : List Form) (row : Row) (waiting : Waiting) : Type 0 where
  pub asked : AreNumbersOf same_form forms (one_or_two row.form row.other) (forms_of waiting.forms)
  pub keys : waiting.keys ≡ row.keys

-- what stands in the waiting table is the row that is wanted
abbrev pub IsWaitingOf : List Form → Option Row → Option Waiting → Type 0
IsWaitingOf forms None None = Unit {0}
IsWaitingOf forms None (Some waiting) = ⊥
IsWaitingOf forms (Some row) None = ⊥
IsWaitingOf forms (Some row) (Some waiting) = IsNumbered forms row waiting

-- the seat waits for what the row says, or for nothing
pub record IsWaiting (seat : Seat) (row : Option Row) (old new : Transaction) : Type 0 where
  pub waiting : Option Waiting
  pub is : IsWaitingOf new.tables.forms row waiting
  pub now : contents new ≡ apply (ToWait seat waiting) (contents old)

-- a seat got these rows
pub record HasRows (seat : Seat) (link : Option ℕ) (row : Option Row) (old new : Transaction) : Type 0 where
  pub waiting : Option Waiting
  pub is : IsWaitingOf new.tables.forms row waiting
  pub now : contents new ≡ apply (ToWait seat waiting) (apply (ToLink seat link) (contents old))

-- a field and its rows were exchanged
pub record IsTurned (seat : Seat) (h : KeptField) (link : Option ℕ) (row : Option Row) (old new : Transaction) : Type 0 where
  pub waiting : Option Waiting
  pub is : IsWaitingOf new.tables.forms row waiting
  pub now : contents new ≡ turned seat h link waiting (contents old)
