-- What callers see of a waiting table. Forms and keys stand there by their numbers.
use Rattle.std.specs.Prelude.{ℕ, ◌+◌, ◌-◌, ◌≤◌, Bool, false, nat_eq, List, [], ◌∷◌, Option, None, Some, if◌then◌else◌}
use Rattle.std.specs.List.{list_any, count_by}
use Rattle.numbering.specs.declared.seat.Seat.{Seat}
use Rattle.numbering.specs.Seats.{same_seat}
use Rattle.postings.specs.Counts.{brought}
use Rattle.wait_table.specs.declared.waiting.Asked.{Asked}
use Rattle.wait_table.specs.declared.waiting.Asked.TheVariants.{One, Two}
use Rattle.wait_table.specs.declared.waiting.Waiting.{Waiting}
use Rattle.wait_table.specs.declared.waiting.WaitRow.{WaitRow}

-- the forms that are asked for
abbrev pub forms_of : Asked → List ℕ
forms_of (One form) = form ∷ []
forms_of (Two form base) = form ∷ base ∷ []

-- whether a number is in the list, and how often
abbrev pub has : List ℕ → ℕ → Bool
has numbers number = list_any (λ n. nat_eq n number) numbers

-- how often a number stands in a list
abbrev pub times_of : List ℕ → ℕ → ℕ
times_of numbers number = count_by (λ n. nat_eq n number) numbers

-- what each seat waits for, and how many rows are taken out
pub record Waits : Type 0 where
  -- what the seat waits for
  pub waiting : Seat → Option Waiting
  -- how many rows of the seat are taken, and how often they ask for a form and name a key
  pub taken : Seat → ℕ
  pub taken_forms : ℕ → Seat → ℕ
  pub taken_keys : ℕ → Seat → ℕ

-- no seat waits and no row is taken
abbrev pub no_waits : Waits
no_waits = record { waiting = λ seat. None; taken = λ seat. 0; taken_forms = λ form seat. 0; taken_keys = λ key seat. 0 }

-- the seat waits for this, or for nothing
abbrev pub with_waiting : Seat → Option Waiting → Waits → Waits
with_waiting one waiting waits = record {
  waiting = λ seat. if same_seat one seat then waiting else waits.waiting seat;
  taken = waits.taken;
  taken_forms = waits.taken_forms;
  taken_keys = waits.taken_keys;
}

-- one more row is taken, or one less
abbrev pub more_taken : WaitRow → Waits → Waits
more_taken row waits = record {
  waiting = waits.waiting;
  taken = λ seat. waits.taken seat + (if same_seat row.seat seat then 1 else 0);
  taken_forms = λ form seat. waits.taken_forms form seat + brought nat_eq same_seat (forms_of row.waiting.forms) row.seat form seat;
  taken_keys = λ key seat. waits.taken_keys key seat + brought nat_eq same_seat row.waiting.keys row.seat key seat;
}

-- one row less is taken
abbrev pub less_taken : WaitRow → Waits → Waits
less_taken row waits = record {
  waiting = waits.waiting;
  taken = λ seat. waits.taken seat - (if same_seat row.seat seat then 1 else 0);
  taken_forms = λ form seat. waits.taken_forms form seat - brought nat_eq same_seat (forms_of row.waiting.forms) row.seat form seat;
  taken_keys = λ key seat. waits.taken_keys key seat - brought nat_eq same_seat row.waiting.keys row.seat key seat;
}

-- the row was taken out, and put back
abbrev pub with_row_taken : WaitRow → Waits → Waits
with_row_taken row waits = with_waiting row.seat None (more_taken row waits)

-- the row was put back
abbrev pub with_row_back : WaitRow → Waits → Waits
with_row_back row waits = with_waiting row.seat (Some row.waiting) (less_taken row waits)

-- such a row is taken
pub record IsTaken (row : WaitRow) (waits : Waits) : Type 0 where
  pub room : 1 ≤ waits.taken row.seat
  pub forms : (form : ℕ) → times_of (forms_of row.waiting.forms) form ≤ waits.taken_forms form row.seat
  pub keys : (key : ℕ) → times_of row.waiting.keys key ≤ waits.taken_keys key row.seat

-- the row of a seat
abbrev pub row_of : Seat → Option Waiting → Option WaitRow
row_of seat None = None
row_of seat (Some waiting) = Some (record { seat = seat; waiting = waiting })

-- whether what waits asks for the form, and whether it names the key
abbrev pub asks_form : ℕ → Option Waiting → Bool
asks_form form None = false
asks_form form (Some waiting) = has (forms_of waiting.forms) form

-- what waits names the key
abbrev pub names_key : ℕ → Option Waiting → Bool
names_key key None = false
names_key key (Some waiting) = has waiting.keys key

-- whether the seat waits for the form, and for the key
abbrev pub asks : ℕ → Waits → Seat → Bool
asks form waits seat = asks_form form (waits.waiting seat)

-- the seat waits for the key
abbrev pub names : ℕ → Waits → Seat → Bool
names key waits seat = names_key key (waits.waiting seat)
