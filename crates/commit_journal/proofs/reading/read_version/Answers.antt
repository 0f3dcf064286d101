use Rattle.std.proofs.Common.{arith}
use Rattle.commit_journal.proofs.Logs.{frames_wrong}
use Rattle.commit_journal.proofs.Taken.{blank_header, read_header}
use Rattle.commit_journal.proofs.reading.read_version.Goals as goal

pub returns-then-len-le-BLANK_LENGTH-clause-header : goal.returns-then-len-le-BLANK_LENGTH-clause-header
returns-then-len-le-BLANK_LENGTH-clause-header g c =
    let len = c.len.ensures in
    let short = c.if-len-le-BLANK_LENGTH.true in
    blank_header (g.D.Disk.seen c.args.disk.now) (omega (arith, len, short))

pub returns-clause-header : goal.returns-clause-header
returns-clause-header g c =
    let len = c.len.ensures in
    let long = c.if-len-le-BLANK_LENGTH.false in
    read_header (g.D.Disk.seen c.args.disk.now) c.read_header.result c.read_header.ensures.right c.read_header.ensures.version (omega (arith, len, long))

pub returns-clause-wrong : goal.returns-clause-wrong
returns-clause-wrong g c wrong is b told =
    let len = c.len.ensures in
    let long = c.if-len-le-BLANK_LENGTH.false in
    let size = g.met.D.Disk.content_len c.args.disk.now b told in
    frames_wrong b wrong (omega (arith, len, long, size)) (c.read_header.ensures.wrong wrong is b told)
