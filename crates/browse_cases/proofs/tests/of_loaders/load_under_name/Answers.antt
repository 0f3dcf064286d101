use denote.Param.{param}
use denote.Param.Send.{IsSend, IsSync, sendable}
use Rattle.std.proofs.Crossing.{crosses, frees}
use Rattle.std.proofs.alloc.Global.TheSendSync as heap
use Rattle.heading_rows.proofs.Crosses.{heading_send}
use Rattle.logbook.proofs.tokens.Seen.TheSendSync as seen
use Rattle.logbook.proofs.word.Word.TheSendSync as word
use Rattle.left_right.proofs.part.Part.TheSendSync as part
use Rattle.left_right.proofs.part.Deed.TheSendSync as deed
use Rattle.atomic_table.proofs.send_lease.SendLease.TheSendSync as lease
use Rattle.atomic_table.proofs.shared.Seat.TheSendSync as seat
use Rattle.atomic_table.proofs.shared.Shared.TheSendSync as shared
use Rattle.browsing_commands.proofs.Crosses.{table_send, table_sync}
use Rattle.browse_cases.proofs.tests.of_loaders.load_under_name.Goals as goal

-- what the writer holds crosses threads
pub load_followed-loaded-requires-send-T : goal.load_followed-loaded-requires-send-T
load_followed-loaded-requires-send-T g c κs within =
    let named : IsSend (param 0 g.row.J) = c.type_bounds.send-J in
    let shared_named : IsSync (param 0 g.row.J) = c.type_bounds.sync-J in
    let machine : IsSync (param 1 g.row.H) = c.type_bounds.sync-H in
    search (table_send, table_sync, heading_send, seen.the_send, seen.the_sync, word.the_send, part.the_send, deed.the_send, seat.the_send, shared.the_send, shared.the_sync, lease.the_send, lease.the_sync, frees, heap.the_field_send, sendable, crosses) depth 200 fits 400000
