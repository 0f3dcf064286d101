use Rattle.linked_store.specs.Contents.{step_of}
use Rattle.linked_store.proofs.Noted.{gone_linked, gone_stored, gone_waiting}
use Rattle.linked_store.proofs.Indexed.{gone_indexed}
use Rattle.linked_store.proofs.back.forget.Goals as goal

pub returns-in-Exchanged : goal.returns-in-Exchanged
returns-in-Exchanged c = gone_stored (step_of c.args.change) c.args.tables.now

pub returns-in-Relinked : goal.returns-in-Relinked
returns-in-Relinked c =
    rw c.in-Relinked.is
    (gone_linked c.args.tables.now c.forget_link.new.tables c.in-Relinked.seat c.in-Relinked.before c.forget_link.ensures.only c.forget_link.ensures.now)

pub returns : goal.returns
returns c =
    rw c.in-Awaited.is
    (gone_waiting c.args.tables.now c.forget_waiting.new.tables c.in-Awaited.seat c.in-Awaited.before c.forget_waiting.ensures.only c.forget_waiting.ensures.now)

pub returns-in-Followed : goal.returns-in-Followed
returns-in-Followed c =
    rw c.in-Followed.is
    (gone_indexed c.args.tables.now c.forget_row.new.tables c.in-Followed.number c.in-Followed.before c.forget_row.ensures.rows c.forget_row.ensures.links c.forget_row.ensures.waits
    c.forget_row.ensures.forms)
