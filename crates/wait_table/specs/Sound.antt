-- What the three parts of a waiting table keep of each other.
use Rattle.std.specs.Prelude.{ℕ, ◌≤◌, ◌-◌, Option, None, Some}
use Rattle.numbering.specs.declared.seat.Seat.{Seat}
use Rattle.postings.specs.Slots.{standing}
use Rattle.wait_table.specs.declared.waiting.Waiting.{Waiting}
use Rattle.wait_table.specs.Waits.{Waits, forms_of, times_of}

-- how often what waits asks for the form, and how often it names the key
abbrev pub asking : ℕ → Option Waiting → ℕ
asking form None = 0
asking form (Some waiting) = times_of (forms_of waiting.forms) form

-- how often what waits names the key
abbrev pub naming : ℕ → Option Waiting → ℕ
naming key None = 0
naming key (Some waiting) = times_of waiting.keys key

-- what stands has room, and is counted
pub record WaitsAgree (row : Seat → Option Waiting) (rooms : Seat → ℕ) (forms keys : ℕ → Seat → ℕ) : Type 0 where
  pub roomy : (seat : Seat) → standing (row seat) ≤ rooms seat
  pub asked : (form : ℕ) (seat : Seat) → asking form (row seat) ≤ forms form seat
  pub named : (key : ℕ) (seat : Seat) → naming key (row seat) ≤ keys key seat

-- a row that is counted and doesn't stand is taken
abbrev pub seen : (Seat → Option Waiting) → (Seat → ℕ) → (forms keys : ℕ → Seat → ℕ) → Waits
seen row rooms forms keys = record {
  waiting = row;
  taken = λ seat. rooms seat - standing (row seat);
  taken_forms = λ form seat. forms form seat - asking form (row seat);
  taken_keys = λ key seat. keys key seat - naming key (row seat);
}
