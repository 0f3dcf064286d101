use Rattle.std.proofs.Common.{◌≡◌, ◌+◌, ◌∙◌, [], ◌∷◌, ◌++◌, length, take, sym, ap, subst, arith}
use Rattle.std.proofs.lemmas.List.{take_more}
use Rattle.std.specs.Option.{option_map}
use Rattle.outside.specs.Disk.{patch}
use Rattle.commit_journal.specs.declared.format.TheConstants.{OPEN_GATE}
use Rattle.commit_journal.specs.Journal.{gated}
use Rattle.commit_journal.proofs.Appends.{gated_len}
use Rattle.commit_journal.proofs.Chains.{AreWritten, failed_steps, more_written}
use Rattle.commit_journal.proofs.journal.write_open.Goals as goal

pub returns-in_err-write_at-clause-crash : goal.returns-in_err-write_at-clause-crash
returns-in_err-write_at-clause-crash g c =
    let seen = g.D.Disk.seen in
    let loop = c.loop-payload in
    let payloads = c.args.payloads.now in
    let payload = c.payload-item.result in
    let text = c.lay_frame-count.ensures.text ∙ ap (gated OPEN_GATE) c.as_slice.ensures in
    let write = c.write_at.ensures in
    failed_steps c.args.at (take loop.payload-index payloads) payload loop.next (length (take c.lay_frame-count.result c.lay_frame-count.new.buffer)) (seen c.args.disk.now) (seen loop.disk) (seen c.write_at.new.self)
    loop.invariant.written (ap length text ∙ gated_len payload OPEN_GATE) write.time write.syncs write.crash write.cause.later (loop.payload-index + 1) payloads
    (take_more payloads loop.payload-index payload c.loop-payload-test.true ∙ ap (λ p. take loop.payload-index payloads ++ p ∷ []) (sym c.payload-item.is))

pub loop-payload-preserved : goal.loop-payload-preserved
loop-payload-preserved g c =
    let seen = g.D.Disk.seen in
    let loop = c.loop-payload in
    let payloads = c.args.payloads.now in
    let payload = c.payload-item.result in
    let laid = take c.lay_frame-count.result c.lay_frame-count.new.buffer in
    let text : laid ≡ gated OPEN_GATE payload = c.lay_frame-count.ensures.text ∙ ap (gated OPEN_GATE) c.as_slice.ensures in
    let len = ap length text ∙ gated_len payload OPEN_GATE in
    let write = c.write_at.ensures in
    let done = c.in_ok-write_at.ensures in
    let more = more_written c.args.at (take loop.payload-index payloads) payload loop.next (length laid) (seen c.args.disk.now) (seen loop.disk) (seen c.write_at.new.self)
    loop.invariant.written len write.time write.syncs write.crash write.cause.later c.requires.within (g.met.D.Disk.content_len c.args.disk.now)
    (done.content ∙ ap (λ t. option_map (patch loop.next t) (seen loop.disk).content) text) done.len in
    let count = c.lay_frame-count.ensures.count in
    let same_payload = ap length c.as_slice.ensures in
    let next : loop.next + length laid ≡ loop.next + c.lay_frame-count.result = omega (arith, len, count, same_payload) in
    let all = take_more payloads loop.payload-index payload c.loop-payload-test.true ∙ ap (λ p. take loop.payload-index payloads ++ p ∷ []) (sym c.payload-item.is) in
    record {
      room = c.lay_frame-count.auto.buffer ∙ loop.invariant.room;
      written = subst (λ n. AreWritten c.args.at (take (loop.payload-index + 1) payloads) n (seen c.args.disk.now) (seen c.write_at.new.self)) next
          (subst (λ ps. AreWritten c.args.at ps (loop.next + length laid) (seen c.args.disk.now) (seen c.write_at.new.self)) (sym all) more);
    }
