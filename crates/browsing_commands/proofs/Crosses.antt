-- What a writer holds crosses threads. It is shown from the inside out, since a search through all of it runs out of steps.
use denote.Param.Send.{IsSend, IsSync, sendable}
use Rattle.std.proofs.Crossing.{crosses}
use Rattle.std.proofs.MapsCrossing.{BTreeMap-send, BTreeMap-sync}
use Rattle.packed_keys.specs.contracts.packed_key.PackedKey as PackedKey
use Rattle.heading_rows.specs.contracts.row.BrowseRow as BrowseRow
use Rattle.heading_rows.specs.contracts.shared_row.SharedRow as SharedRow
use Rattle.heading_rows.specs.contracts.listing.Listing as Listing
use Rattle.heading_rows.specs.contracts.table.Table as Table

packed_send : IsSend PackedKey.the_row
packed_send = search (sendable, crosses) depth 40 fits 20000

packed_sync : IsSync PackedKey.the_row
packed_sync = search (sendable, crosses) depth 40 fits 20000

row_send : IsSend BrowseRow.the_row
row_send = search (sendable, crosses) depth 40 fits 20000

row_sync : IsSync BrowseRow.the_row
row_sync = search (sendable, crosses) depth 40 fits 20000

shared_send : IsSend SharedRow.the_row
shared_send = search (row_send, row_sync, sendable, crosses) depth 40 fits 20000

shared_sync : IsSync SharedRow.the_row
shared_sync = search (row_send, row_sync, sendable, crosses) depth 40 fits 20000

listing_send : IsSend Listing.the_row
listing_send = search (packed_send, shared_send, BTreeMap-send, sendable, crosses) depth 40 fits 20000

listing_sync : IsSync Listing.the_row
listing_sync = search (packed_sync, shared_sync, BTreeMap-sync, sendable, crosses) depth 40 fits 20000

pub table_send : IsSend Table.the_row
table_send = search (listing_send, sendable, crosses) depth 40 fits 20000

pub table_sync : IsSync Table.the_row
table_sync = search (listing_sync, sendable, crosses) depth 40 fits 20000
