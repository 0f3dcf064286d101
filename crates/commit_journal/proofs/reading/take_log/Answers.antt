use Rattle.std.proofs.Common.{arith}
use Rattle.commit_journal.proofs.Logs.{frames_lost}
use Rattle.commit_journal.proofs.Taken.{all_headed, blank_taken}
use Rattle.commit_journal.proofs.reading.take_log.Goals as goal

pub returns-then-len-le-BLANK_LENGTH-clause-taken : goal.returns-then-len-le-BLANK_LENGTH-clause-taken
returns-then-len-le-BLANK_LENGTH-clause-taken g c version header =
    let len = c.len.ensures in
    let short = c.if-len-le-BLANK_LENGTH.true in
    blank_taken (g.T.FrameTaker.has c.args.taker.now c.args.taker.now) version (g.D.Disk.seen c.args.disk.now) (omega (arith, len, short)) header c.requires.none

pub returns-clause-taken : goal.returns-clause-taken
returns-clause-taken g c =
    let len = c.len.ensures in
    let long = c.if-len-le-BLANK_LENGTH.false in
    all_headed (g.T.FrameTaker.has c.args.taker.now c.take_frames.new.taker) (g.D.Disk.seen c.args.disk.now) c.take_frames.result (omega (arith, len, long)) c.take_frames.ensures.taken

pub returns-clause-lost : goal.returns-clause-lost
returns-clause-lost g c wrong is version header b told =
    let len = c.len.ensures in
    let long = c.if-len-le-BLANK_LENGTH.false in
    let size = g.met.D.Disk.content_len c.args.disk.now b told in
    frames_lost b wrong (omega (arith, len, long, size)) (header.right (omega (arith, len, long)) b told) (c.take_frames.ensures.lost wrong is b told)
