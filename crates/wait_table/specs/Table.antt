-- What callers see of the struct.
use Rattle.numbering.specs.Seats.{same_seat}
use Rattle.postings.specs.Slots.{row_at, rooms_at}
use Rattle.postings.specs.Counts.{times}
use Rattle.wait_table.specs.Waits.{Waits}
use Rattle.wait_table.specs.Sound.{seen}
use Rattle.wait_table.specs.declared.table.WaitTable.{WaitTable}

-- what a table says of what waits
unfoldable pub waits : WaitTable → Waits
waits table =
    seen (row_at table.slots) (rooms_at table.slots) (times same_seat table.forms.groups)
    (times same_seat table.keys.groups)
