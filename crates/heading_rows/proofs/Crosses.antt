-- A heading crosses threads. It is shown from the inside out, since a search through all of it runs out of steps.
use denote.Param.Send.{IsSend, IsSync, sendable}
use Rattle.std.proofs.Crossing.{crosses}
use Rattle.marc_types.specs.contracts.text.Text as Text
use Rattle.marc_types.specs.contracts.key.Key as Key
use Rattle.heading_rows.specs.contracts.row.BrowseRow as BrowseRow
use Rattle.heading_rows.specs.contracts.shared_row.SharedRow as SharedRow
use Rattle.heading_rows.specs.contracts.heading.Change as Change
use Rattle.heading_rows.specs.contracts.heading.KeyedChange as KeyedChange
use Rattle.heading_rows.specs.contracts.heading.Heading as Heading

text_send : IsSend Text.the_row
text_send = search (sendable, crosses) depth 40

text_sync : IsSync Text.the_row
text_sync = search (sendable, crosses) depth 40

key_send : IsSend Key.the_row
key_send = search (text_send, sendable, crosses) depth 40

key_sync : IsSync Key.the_row
key_sync = search (text_sync, sendable, crosses) depth 40

row_send : IsSend BrowseRow.the_row
row_send = search (text_send, sendable, crosses) depth 40 fits 20000

row_sync : IsSync BrowseRow.the_row
row_sync = search (text_sync, sendable, crosses) depth 40 fits 20000

shared_send : IsSend SharedRow.the_row
shared_send = search (row_send, row_sync, sendable, crosses) depth 40 fits 20000

shared_sync : IsSync SharedRow.the_row
shared_sync = search (row_send, row_sync, sendable, crosses) depth 40 fits 20000

change_send : IsSend Change.the_row
change_send = search (shared_send, sendable, crosses) depth 40 fits 20000

change_sync : IsSync Change.the_row
change_sync = search (shared_sync, sendable, crosses) depth 40 fits 20000

keyed_send : IsSend KeyedChange.the_row
keyed_send = search (key_send, change_send, sendable, crosses) depth 100 fits 60000

keyed_sync : IsSync KeyedChange.the_row
keyed_sync = search (key_sync, change_sync, sendable, crosses) depth 100 fits 60000

pub heading_send : IsSend Heading.the_row
heading_send = search (keyed_send, keyed_sync, sendable, crosses) depth 40 fits 20000
