-- What callers see of the struct.
use Rattle.numbering.specs.Seats.{same_seat}
use Rattle.postings.specs.Slots.{row_at, rooms_at}
use Rattle.postings.specs.Counts.{times}
use Rattle.link_table.specs.Links.{Links}
use Rattle.link_table.specs.Sound.{seen}
use Rattle.link_table.specs.declared.table.LinkTable.{LinkTable}

-- what a table says of links
unfoldable pub links : LinkTable → Links
links table = seen (row_at table.slots) (rooms_at table.slots) (times same_seat table.names.groups)
