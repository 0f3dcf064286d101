-- What callers see of a link table. Authorities stand there by the numbers of their keys.
use Rattle.std.specs.Prelude.{ℕ, ◌+◌, ◌-◌, ◌≤◌, Bool, false, nat_eq, Option, None, Some, if◌then◌else◌}
use Rattle.numbering.specs.declared.seat.Seat.{Seat}
use Rattle.numbering.specs.Seats.{same_seat}
use Rattle.link_table.specs.declared.link.Link.{Link}

-- to which authority each seat is linked, and how many rows are taken out
pub record Links : Type 0 where
  -- the authority to which the seat is linked
  pub key_of : Seat → Option ℕ
  -- how many rows of the seat are taken, and how many of them from under the authority
  pub taken : Seat → ℕ
  pub taken_from : ℕ → Seat → ℕ

-- no seat is linked and no row is taken
abbrev pub no_links : Links
no_links = record { key_of = λ seat. None; taken = λ seat. 0; taken_from = λ number seat. 0 }

-- the seat is linked to the authority, or to none
abbrev pub with_key : Seat → Option ℕ → Links → Links
with_key one number links = record {
  key_of = λ seat. if same_seat one seat then number else links.key_of seat;
  taken = links.taken;
  taken_from = links.taken_from;
}

-- one at this seat under this authority
abbrev pub one_at : Link → ℕ → Seat → ℕ
one_at link number seat = if same_seat link.seat seat then (if nat_eq link.number number then 1 else 0) else 0

-- one more row is taken, or one less
abbrev pub more_taken : Link → Links → Links
more_taken link links = record {
  key_of = links.key_of;
  taken = λ seat. links.taken seat + (if same_seat link.seat seat then 1 else 0);
  taken_from = λ number seat. links.taken_from number seat + one_at link number seat;
}

-- one row less is taken
abbrev pub less_taken : Link → Links → Links
less_taken link links = record {
  key_of = links.key_of;
  taken = λ seat. links.taken seat - (if same_seat link.seat seat then 1 else 0);
  taken_from = λ number seat. links.taken_from number seat - one_at link number seat;
}

-- the row was taken out, and put back
abbrev pub with_row_taken : Link → Links → Links
with_row_taken link links = with_key link.seat None (more_taken link links)

-- the row was put back
abbrev pub with_row_back : Link → Links → Links
with_row_back link links = with_key link.seat (Some link.number) (less_taken link links)

-- such a row is taken
pub record IsTaken (link : Link) (links : Links) : Type 0 where
  pub room : 1 ≤ links.taken link.seat
  pub from : 1 ≤ links.taken_from link.number link.seat

-- the row by which the seat is linked
abbrev pub row_of : Seat → Option ℕ → Option Link
row_of seat None = None
row_of seat (Some number) = Some (record { number = number; seat = seat })

-- whether a link is to this authority
abbrev pub leads_to : ℕ → Option ℕ → Bool
leads_to number None = false
leads_to number (Some to) = nat_eq to number

-- whether the seat is linked to the authority
abbrev pub is_linked : ℕ → Links → Seat → Bool
is_linked number links seat = leads_to number (links.key_of seat)
