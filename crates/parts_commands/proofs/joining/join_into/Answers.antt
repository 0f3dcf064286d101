use Rattle.std.proofs.Common.{◌∙◌, sym}
use Rattle.parts_commands.proofs.Joinings.{put_joined, put_or_not_joined, stops_given_up}
use Rattle.parts_commands.proofs.joining.join_into.Goals as goal

pub returns-in-Err-write_parts-clause-stopped : goal.returns-in-Err-write_parts-clause-stopped
returns-in-Err-write_parts-clause-stopped g c =
    stops_given_up (g.R.Room.seen c.args.room.now) (g.R.Room.seen c.open_out.new.self) (g.R.Room.seen c.write_parts.new.room)
    (g.R.Room.seen c.give_up_out.new.self) c.args.exports.now c.args.out.now c.open_out.ensures.apart c.open_out.ensures.untouched
    c.write_parts.ensures.stays c.give_up_out.ensures.apart (g.R.Out.Sink.faults c.in-Ok.written) (g.R.Out.Sink.faults c.write_parts.new.out)
    c.in-Ok.ensures.fresh c.in-Err-write_parts.why c.give_up_out.ensures.counted c.in-Err-write_parts.ensures.stopped

pub returns-in-Ok-close_out-clause-put : goal.returns-in-Ok-close_out-clause-put
returns-in-Ok-close_out-clause-put g c = λ tells.
    put_joined (g.R.Room.seen c.args.room.now) (g.R.Room.seen c.open_out.new.self) (g.R.Room.seen c.write_parts.new.room) (g.R.Room.seen c.close_out.new.self)
    c.args.exports.now c.args.out.now c.open_out.ensures.apart c.open_out.ensures.untouched c.write_parts.ensures.stays c.close_out.ensures.apart
    (g.R.Out.Sink.faults c.in-Ok.written) (g.R.Out.Sink.faults c.write_parts.new.out) c.in-Ok.ensures.fresh (g.R.Out.Sink.written c.in-Ok.written)
    (g.R.Out.Sink.written c.write_parts.new.out) tells (λ also. c.in-Ok.ensures.empty (sym c.open_out.ensures.apart.tells ∙ also))
    c.in_default.ensures.joined c.in-Ok-close_out.ensures.put

pub returns-in-Err-close_out-clause-left : goal.returns-in-Err-close_out-clause-left
returns-in-Err-close_out-clause-left g c =
    put_or_not_joined (g.R.Room.seen c.args.room.now) (g.R.Room.seen c.open_out.new.self) (g.R.Room.seen c.write_parts.new.room)
    (g.R.Room.seen c.close_out.new.self) c.args.exports.now c.args.out.now c.open_out.ensures.apart c.open_out.ensures.untouched c.write_parts.ensures.stays
    c.close_out.ensures.apart (g.R.Out.Sink.faults c.in-Ok.written) (g.R.Out.Sink.faults c.write_parts.new.out) c.in-Ok.ensures.fresh
    (g.R.Out.Sink.written c.in-Ok.written) (g.R.Out.Sink.written c.write_parts.new.out)
    (λ also. c.in-Ok.ensures.empty (sym c.open_out.ensures.apart.tells ∙ also)) c.in_default.ensures.joined c.in-Err-close_out.ensures.put_or_not
