use Rattle.std.proofs.Common.{◌≡◌, ◌∙◌, ◌⊎◌, true, Err, [], ap, subst, arith}
use Rattle.outside.specs.Fault.{Rose}
use Rattle.outside.proofs.Rooms.{same_but_then}
use Rattle.parts_commands.specs.Joining.{IsOtherPart, IsPartWritten, IsStoppedAt}
use Rattle.parts_commands.proofs.Joinings.{joined_all, joining_next, names_begin, stops_at_first, stops_at_part}
use Rattle.parts_commands.proofs.Joins.{joining_begun}
use Rattle.parts_commands.proofs.joining.write_parts.Goals as goal

pub returns-in-Err-clause-stopped : goal.returns-in-Err-clause-stopped
returns-in-Err-clause-stopped g c =
    let names = c.args.exports.now in
    let first = c.as_str-first.result.now in
    stops_at_first (g.R.Room.seen c.args.room.now) (g.R.Room.seen c.write_first.new.room) names first (g.R.Out.Sink.faults c.args.out.now)
    (g.R.Out.Sink.faults c.write_first.new.out) c.in-Err.why c.stopped_at.result
    (names_begin names first _ c.requires.some (c.as_str-first.ensures ∙ c.index-exports-0.is)) c.write_first.ensures.stays c.stopped_at.ensures
    (λ place is. c.in-Err.ensures.like place (ap Err is)) (λ is. c.in-Err.ensures.input (ap Err is)) (λ is. c.in-Err.ensures.output.failed (ap Err is))

pub loop-name-init : goal.loop-name-init
loop-name-init g c = record {
  stays = c.write_first.ensures.stays;
  later = c.write_first.ensures.output.later;
  joined = λ tells.
      joining_begun (g.R.Room.seen c.args.room.now).file c.as_str-first.result.now c.new-buffers.result.last.items (g.R.Out.Sink.written c.args.out.now)
      (g.R.Out.Sink.written c.write_first.new.out) (c.in_default.ensures.wrote tells) c.new-buffers.ensures;
}

pub returns-in-Err-write_part-clause-stopped : goal.returns-in-Err-write_part-clause-stopped
returns-in-Err-write_part-clause-stopped g c =
    let now = g.R.Room.seen c.loop-name.room in
    let new = g.R.Room.seen c.write_part.new.room in
    let names = c.args.exports.now in
    let first = c.as_str-first.result.now in
    let last = c.loop-name.buffers.last.items in
    stops_at_part (g.R.Room.seen c.args.room.now) now first c.name-item.result names c.loop-name.name-index last (g.R.Out.Sink.written c.args.out.now)
    (g.R.Out.Sink.written c.loop-name.out) c.loop-name.invariant.stays c.loop-name.invariant.joined (omega arith) c.name-item.is new
    (g.R.Out.Sink.faults c.args.out.now) (g.R.Out.Sink.faults c.loop-name.out) (g.R.Out.Sink.faults c.write_part.new.out) c.in-Err-write_part.why
    c.stopped_at-in-Err-write_part.result (names_begin names first _ c.requires.some (c.as_str-first.ensures ∙ c.index-exports-0.is))
    c.write_part.ensures.stays c.loop-name.invariant.later
    (subst (λ n. IsStoppedAt c.in-Err-write_part.why n c.stopped_at-in-Err-write_part.result) c.as_str-in-Err-write_part.ensures c.stopped_at-in-Err-write_part.ensures)
    (λ place is tells. subst (λ n. IsOtherPart now.file first n last place) c.as_str.ensures (c.in-Err-write_part.ensures.other place (ap Err is) tells))
    (λ is. subst (λ n. Rose (now.in_faults first) (new.in_faults first) ⊎ Rose (now.in_faults n) (new.in_faults n)) c.as_str.ensures
    (c.in-Err-write_part.ensures.input (ap Err is)))
    (λ is. c.in-Err-write_part.ensures.output.failed (ap Err is))

pub loop-name-preserved : goal.loop-name-preserved
loop-name-preserved g c =
    let now = g.R.Room.seen c.loop-name.room in
    let first = c.as_str-first.result.now in
    let last = c.loop-name.buffers.last.items in
    let last_now = c.write_part.new.buffers.last.items in
    let out = g.R.Out.Sink.written c.loop-name.out in
    let out_now = g.R.Out.Sink.written c.write_part.new.out in
    record {
      stays = same_but_then _ _ _ [] c.loop-name.invariant.stays c.write_part.ensures.stays;
      later = omega (arith, c.loop-name.invariant.later, c.write_part.ensures.output.later);
      joined = joining_next (g.R.Room.seen c.args.room.now) now first c.name-item.result c.args.exports.now c.loop-name.name-index last
          (g.R.Out.Sink.written c.args.out.now) out c.loop-name.invariant.stays c.loop-name.invariant.joined (omega arith) c.name-item.is last_now out_now
          (subst (λ n. now.tells ≡ true → IsPartWritten now.file first n last last_now out out_now) c.as_str.ensures c.in_default-write_part.ensures.wrote);
    }

pub returns-clause-joined : goal.returns-clause-joined
returns-clause-joined g c =
    let names = c.args.exports.now in
    let first = c.as_str-first.result.now in
    joined_all (g.R.Room.seen c.args.room.now) first names c.loop-name.name-index c.loop-name.buffers.last.items (g.R.Out.Sink.written c.args.out.now)
    (g.R.Out.Sink.written c.loop-name.out) c.loop-name.invariant.joined (omega arith)
    (names_begin names first _ c.requires.some (c.as_str-first.ensures ∙ c.index-exports-0.is))
