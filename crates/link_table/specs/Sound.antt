-- What the two parts of a link table keep of each other.
use Rattle.std.specs.Prelude.{ℕ, ◌≤◌, ◌-◌, Option, if◌then◌else◌}
use Rattle.numbering.specs.declared.seat.Seat.{Seat}
use Rattle.postings.specs.Slots.{standing}
use Rattle.link_table.specs.Links.{Links, leads_to}

-- one where the row leads to the authority
abbrev pub leading : ℕ → Option ℕ → ℕ
leading number row = if leads_to number row then 1 else 0

-- what stands has room, and is counted
pub record LinksAgree (row : Seat → Option ℕ) (rooms : Seat → ℕ) (times : ℕ → Seat → ℕ) : Type 0 where
  pub roomy : (seat : Seat) → standing (row seat) ≤ rooms seat
  pub counted : (number : ℕ) (seat : Seat) → leading number (row seat) ≤ times number seat

-- a row that is counted and doesn't stand is taken
abbrev pub seen : (Seat → Option ℕ) → (Seat → ℕ) → (ℕ → Seat → ℕ) → Links
seen row rooms times = record {
  key_of = row;
  taken = λ seat. rooms seat - standing (row seat);
  taken_from = λ number seat. times number seat - leading number (row seat);
}
