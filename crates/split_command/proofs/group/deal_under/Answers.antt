use Rattle.std.proofs.Common.{◌≡◌, ◌∙◌, true, OnOk, length, ap, subst, arith}
use Rattle.std.proofs.lemmas.Result.{on_ok_weaker}
use Rattle.outside.specs.Fault.{count_sum}
use Rattle.split_command.specs.Outputs.{AreClosedWhole, AreClosedOrNot, RaisesFaults}
use Rattle.split_command.proofs.SideBySide.{free_same, begun_same}
use Rattle.split_command.proofs.Grouped.{lent_back, dealt_so, stopped_so, group_whole, group_left, dealing_cause}
use Rattle.split_command.proofs.group.deal_under.Goals as goal

pub returns-in-Err-clause-closed : goal.returns-in-Err-clause-closed
returns-in-Err-clause-closed g c =
    free_same (g.R.Room.seen c.begin_all.new.room) (g.R.Room.seen c.close_in.new.self) c.args.names.now c.close_in.ensures.stays c.in-Err.ensures.closed

pub close_all-requires-clause-begun : goal.close_all-requires-clause-begun
close_all-requires-clause-begun g c κs within =
    begun_same (g.R.Room.seen c.begin_all.new.room) (g.R.Room.seen c.close_in-2.new.self) c.args.names.now c.close_in-2.ensures.stays c.in-Ok.ensures.begun

pub give_up_all-requires-clause-begun : goal.give_up_all-requires-clause-begun
give_up_all-requires-clause-begun g c κs within =
    begun_same (g.R.Room.seen c.begin_all.new.room) (g.R.Room.seen c.close_in-2.new.self) c.args.names.now c.close_in-2.ensures.stays c.in-Ok.ensures.begun

pub returns-in-Ok-dealt-clause-whole : goal.returns-in-Ok-dealt-clause-whole
returns-in-Ok-dealt-clause-whole g c =
    let dealt = dealt_so g.R.Out.Sink.written g.R.Out.Sink.faults c.args.library.now.code c.args.plan.now.bounds c.as_slice-bounds.result.now c.args.group.first
    (g.R.In.Source.left c.args.source) (g.R.In.Source.faults c.args.source) (g.R.In.Source.faults c.deal_source-dealt.result.1) c.in-Ok.outs.items c.as_mut_slice.result.now
    c.deal_source-dealt.new.outs c.deal_source-dealt.result.0 c.as_mut_slice.ensures.value c.as_slice-bounds.ensures c.deal_source-dealt.ensures.deals
    c.in-Ok-dealt.field-0 c.in-Ok-dealt.is in
    let many : length c.deal_source-dealt.new.outs ≡ length c.in-Ok.outs.items = c.deal_source-dealt.ensures.many ∙ ap length c.as_mut_slice.ensures.value in
    let back = lent_back c.in-Ok.outs.items c.deal_source-dealt.new.outs c.in-Ok.outs.len (omega (arith, c.in-Ok.outs.ok)) many in
    let read = g.R.Room.seen c.close_in-2.new.self in
    let new = g.R.Room.seen c.close_all.new.room in
    on_ok_weaker c.close_all.result
    (group_whole g.R.Out.Sink.written g.R.Out.Sink.faults c.args.plan.now c.args.library.now c.args.group c.args.names.now c.requires.named
    (g.R.Room.seen c.args.room.now) (g.R.Room.seen c.begin_all.new.room) (g.R.Room.seen c.close_in-2.new.self) (g.R.Room.seen c.close_all.new.room)
    c.in-Ok.outs.items c.deal_source-dealt.new.outs c.begin_all.ensures.apart c.begin_all.ensures.kept c.in-Ok.ensures.fresh c.close_in-2.ensures.stays
    c.close_all.ensures.apart
    (g.R.In.Source.left c.args.source) c.requires.left dealt)
    (subst (λ outs. OnOk c.close_all.result (read.tells ≡ true → AreClosedWhole g.R.Out.Sink.written new c.args.names.now outs)) back c.close_all.ensures.whole)

pub returns-in-Ok-dealt-clause-left : goal.returns-in-Ok-dealt-clause-left
returns-in-Ok-dealt-clause-left g c =
    let dealt = dealt_so g.R.Out.Sink.written g.R.Out.Sink.faults c.args.library.now.code c.args.plan.now.bounds c.as_slice-bounds.result.now c.args.group.first
    (g.R.In.Source.left c.args.source) (g.R.In.Source.faults c.args.source) (g.R.In.Source.faults c.deal_source-dealt.result.1) c.in-Ok.outs.items c.as_mut_slice.result.now
    c.deal_source-dealt.new.outs c.deal_source-dealt.result.0 c.as_mut_slice.ensures.value c.as_slice-bounds.ensures c.deal_source-dealt.ensures.deals
    c.in-Ok-dealt.field-0 c.in-Ok-dealt.is in
    let many : length c.deal_source-dealt.new.outs ≡ length c.in-Ok.outs.items = c.deal_source-dealt.ensures.many ∙ ap length c.as_mut_slice.ensures.value in
    let back = lent_back c.in-Ok.outs.items c.deal_source-dealt.new.outs c.in-Ok.outs.len (omega (arith, c.in-Ok.outs.ok)) many in
    let read = g.R.Room.seen c.close_in-2.new.self in
    let new = g.R.Room.seen c.close_all.new.room in
    group_left g.R.Out.Sink.written g.R.Out.Sink.faults c.args.plan.now c.args.library.now c.args.group c.args.names.now c.requires.named
    (g.R.Room.seen c.args.room.now) (g.R.Room.seen c.begin_all.new.room) (g.R.Room.seen c.close_in-2.new.self) (g.R.Room.seen c.close_all.new.room)
    c.in-Ok.outs.items c.deal_source-dealt.new.outs c.begin_all.ensures.apart c.begin_all.ensures.kept c.in-Ok.ensures.fresh c.close_in-2.ensures.stays
    c.close_all.ensures.apart
    (g.R.In.Source.left c.args.source) c.requires.left dealt
    (subst (λ outs. read.tells ≡ true → AreClosedOrNot g.R.Out.Sink.written read new c.args.names.now outs) back c.close_all.ensures.left)

pub returns-in-Err-dealt-clause-cause : goal.returns-in-Err-dealt-clause-cause
returns-in-Err-dealt-clause-cause g c =
    let stopped = stopped_so g.R.Out.Sink.written g.R.Out.Sink.faults c.args.library.now.code c.args.plan.now.bounds c.as_slice-bounds.result.now c.args.group.first
    (g.R.In.Source.left c.args.source) (g.R.In.Source.faults c.args.source) (g.R.In.Source.faults c.deal_source-dealt.result.1) c.in-Ok.outs.items c.as_mut_slice.result.now
    c.deal_source-dealt.new.outs c.deal_source-dealt.result.0 c.as_mut_slice.ensures.value c.as_slice-bounds.ensures c.deal_source-dealt.ensures.deals
    c.in-Err-dealt.fault c.in-Err-dealt.is in
    let counted = subst (λ n. (g.R.Room.seen c.close_in-2.new.self).in_faults n
    ≡ count_sum ((g.R.Room.seen c.begin_all.new.room).in_faults n) (g.R.In.Source.faults c.deal_source-dealt.result.1)) c.as_str-2.ensures c.close_in-2.ensures.counted in
    let many : length c.deal_source-dealt.new.outs ≡ length c.in-Ok.outs.items = c.deal_source-dealt.ensures.many ∙ ap length c.as_mut_slice.ensures.value in
    let back = lent_back c.in-Ok.outs.items c.deal_source-dealt.new.outs c.in-Ok.outs.len (omega (arith, c.in-Ok.outs.ok)) many in
    let raised = subst (λ outs. RaisesFaults g.R.Out.Sink.faults c.args.names.now outs (g.R.Room.seen c.close_in-2.new.self) (g.R.Room.seen c.give_up_all.new.room))
    back c.give_up_all.ensures.rose in
    dealing_cause g.R.Out.Sink.written g.R.Out.Sink.faults c.args.plan.now c.args.library.now c.args.group c.args.names.now c.requires.named
    (g.R.Room.seen c.args.room.now) (g.R.Room.seen c.begin_all.new.room) (g.R.Room.seen c.close_in-2.new.self) (g.R.Room.seen c.give_up_all.new.room)
    c.in-Ok.outs.items c.deal_source-dealt.new.outs c.begin_all.ensures.apart c.begin_all.ensures.kept c.in-Ok.ensures.fresh c.close_in-2.ensures.stays
    c.give_up_all.ensures.apart
    (g.R.In.Source.faults c.args.source) (g.R.In.Source.faults c.deal_source-dealt.result.1) c.in-Err-dealt.fault c.requires.fresh counted (many ∙ c.in-Ok.ensures.many) raised stopped
