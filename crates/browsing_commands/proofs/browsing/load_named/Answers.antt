use denote.Param.{param}
use denote.Param.Send.{IsSend, IsSync, sendable}
use Rattle.std.proofs.Crossing.{crosses, frees}
use Rattle.std.proofs.alloc.Global.TheSendSync as heap
use Rattle.heading_rows.proofs.Crosses.{heading_send}
use Rattle.logbook.proofs.tokens.Seen.TheSendSync as seen
use Rattle.logbook.proofs.word.Word.TheSendSync as word
use Rattle.left_right.proofs.part.Part.TheSendSync as part
use Rattle.left_right.proofs.part.Deed.TheSendSync as deed
use Rattle.atomic_table.proofs.send_lease.SendLease.TheSendSync as lease
use Rattle.atomic_table.proofs.shared.Seat.TheSendSync as seat
use Rattle.atomic_table.proofs.shared.Shared.TheSendSync as shared
use Rattle.browsing_commands.proofs.Crosses.{table_send, table_sync}
use Rattle.std.proofs.Common.{length, ap, ◌∙◌}
use Rattle.durable_catalogue.specs.Views.{durable_view}
use Rattle.browsing_commands.proofs.Loaded.{taken_more, are_paged, counts_history}
use Rattle.browsing_commands.proofs.browsing.load_named.Goals as goal

pub load_followed-loaded-requires-send-T : goal.load_followed-loaded-requires-send-T
load_followed-loaded-requires-send-T g c κs within =
    let named : IsSend (param 0 g.row.J) = c.type_bounds.send-J in
    let shared_named : IsSync (param 0 g.row.J) = c.type_bounds.sync-J in
    let machine : IsSync (param 1 g.row.H) = c.type_bounds.sync-H in
    search (table_send, table_sync, heading_send, seen.the_send, seen.the_sync, word.the_send, part.the_send, deed.the_send, seat.the_send, shared.the_send, shared.the_sync, lease.the_send, lease.the_sync, frees, heap.the_field_send, sendable, crosses) depth 200 fits 400000

pub gathered-got-requires : goal.gathered-got-requires
gathered-got-requires g c =
    let counted = counts_history _ _ _ c.history_len-least.ensures.value c.catalogue.ensures.unstaged ∙ ap (λ core. length core.history) c.catalogue.ensures.value in
    taken_more g.R.In.Source.left g.R.In.Source.faults _ _ (durable_view c.args.loading.durable) _ _ _ _ c.load_followed-loaded.ensures.reads _ counted _ _
    c.load_followed-loaded.ensures.all

pub returns-clause-paged : goal.returns-clause-paged
returns-clause-paged g c =
    let counted = counts_history _ _ _ c.history_len-least.ensures.value c.catalogue.ensures.unstaged ∙ ap (λ core. length core.history) c.catalogue.ensures.value in
    are_paged g.R.In.Source.left g.R.In.Source.faults _ _ (durable_view c.args.loading.durable) _ _ _ _ c.load_followed-loaded.ensures.reads _ counted _ _
    c.load_followed-loaded.ensures.all _ c.gathered-got.ensures
