use Rattle.std.proofs.Common.{subst}
use Rattle.durable_catalogue.specs.Loading.{IsUnreadBehind}
use Rattle.durable_catalogue.proofs.Coming.{one_came, one_bad}
use Rattle.durable_catalogue.proofs.taking.take_frame.Goals as goal

pub returns-in-Ok : goal.returns-in-Ok
returns-in-Ok g c begun version first before came =
    let has = g.T.EntryTaker.has begun in
    let handed = c.in_ok-hand_on-in-Ok.ensures in
    one_came (has c.args.taker.now) (has c.hand_on.new.taker) version first before c.args.frame c.args.counter.now c.read_frame.new.counter c.args.left.now c.hand_on.new.left
    c.in-Ok.items.items came c.in-Ok.ensures.read c.read_frame.ensures.version (handed.taken begun) handed.left

pub returns-in-Err-NotAJournal : goal.returns-in-Err-NotAJournal
returns-in-Err-NotAJournal g c begun version first before came =
    rw c.in-Err-NotAJournal.field-0-is (one_bad (g.T.EntryTaker.has begun c.args.taker.now) version first before c.args.frame c.args.counter.now c.args.left.now c.in-Err-NotAJournal.gate came
    (subst (IsUnreadBehind c.args.counter.now c.args.frame) c.in-Err-NotAJournal.field-0-is c.in-Err-NotAJournal.ensures.fault))
