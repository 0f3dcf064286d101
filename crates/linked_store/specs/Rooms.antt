-- Rows of one seat that go out of the tables, and come back.
use Rattle.std.specs.Prelude.{ℕ, ◌+◌, Option, None, Some, IfSome}
use Rattle.numbering.specs.declared.seat.Seat.{Seat}
use Rattle.link_table.specs.Links.{Links, IsTaken, less_taken, with_row_back}
use Rattle.link_table.specs.declared.link.Link.{Link}
use Rattle.wait_table.specs.Waits.{Waits, IsTaken as IsTakenWait, less_taken as less_waiting, with_row_back as with_wait_back}
use Rattle.wait_table.specs.declared.waiting.Waiting.{Waiting}
use Rattle.wait_table.specs.declared.waiting.WaitRow.{WaitRow}
use Rattle.linked_store.specs.Contents.{ToLink, ToWait, at_seat, form_rooms, key_rooms, link_rooms, name_rooms, wait_rooms}

-- the row by which a seat is linked
abbrev pub link_row : Seat → ℕ → Link
link_row seat number = record { number = number; seat = seat }

-- the row by which a seat waits
abbrev pub wait_row : Seat → Waiting → WaitRow
wait_row seat waiting = record { seat = seat; waiting = waiting }

-- the seat's link, or none, is out and has its room
abbrev pub link_out : Seat → Option ℕ → Links → Links
link_out seat number l = record {
  key_of = at_seat seat None l.key_of;
  taken = λ s. l.taken s + link_rooms (ToLink seat number) s;
  taken_from = λ n s. l.taken_from n s + key_rooms (ToLink seat number) n s;
}

-- the waiting table with the seat's row taken out
abbrev pub wait_out : Seat → Option Waiting → Waits → Waits
wait_out seat waiting w = record {
  waiting = at_seat seat None w.waiting;
  taken = λ s. w.taken s + wait_rooms (ToWait seat waiting) s;
  taken_forms = λ n s. w.taken_forms n s + form_rooms (ToWait seat waiting) n s;
  taken_keys = λ n s. w.taken_keys n s + name_rooms (ToWait seat waiting) n s;
}

-- a link that was out is back, if there was one
abbrev pub link_back : Seat → Option ℕ → Links → Links
link_back seat None l = l
link_back seat (Some number) l = with_row_back (link_row seat number) l

-- the waiting table with the seat's row put back
abbrev pub wait_back : Seat → Option Waiting → Waits → Waits
wait_back seat None w = w
wait_back seat (Some waiting) w = with_wait_back (wait_row seat waiting) w

-- there is none, or it is out
abbrev pub IsOut : Seat → Option ℕ → Links → Type 0
IsOut seat number l = IfSome number (λ n. IsTaken (link_row seat n) l)

-- the seat's row is taken out, where it had one
abbrev pub IsWaitOut : Seat → Option Waiting → Waits → Type 0
IsWaitOut seat waiting w = IfSome waiting (λ row. IsTakenWait (wait_row seat row) w)

-- a link that was out has no room any more, if there was one
abbrev pub link_gone : Seat → Option ℕ → Links → Links
link_gone seat None l = l
link_gone seat (Some number) l = less_taken (link_row seat number) l

-- the waiting table without the room of a row that was taken out
abbrev pub wait_gone : Seat → Option Waiting → Waits → Waits
wait_gone seat None w = w
wait_gone seat (Some waiting) w = less_waiting (wait_row seat waiting) w
