use Rattle.std.proofs.Common.{arith}
use Rattle.commit_journal.proofs.Recoveries.{on_ok_three, blank_in_order, journal_in_order, blank_settled, journal_settled, blank_kept, journal_kept}
use Rattle.commit_journal.proofs.settling.bring_into_order.Goals as goal

pub returns-then-len-le-BLANK_LENGTH-clause-recovered : goal.returns-then-len-le-BLANK_LENGTH-clause-recovered
returns-then-len-le-BLANK_LENGTH-clause-recovered g c =
    let short = c.if-len-le-BLANK_LENGTH.true in
    let len = c.len.ensures in
    let written = c.write_empty.ensures in
    on_ok_three c.write_empty.result (λ content size durable frames version read.
    blank_in_order frames c.args.place version _ _ read (omega (arith, short, len)) (g.met.D.Disk.content_len c.args.disk.now) content size durable) written.content written.len written.durable

pub returns-then-len-le-BLANK_LENGTH-clause-crash : goal.returns-then-len-le-BLANK_LENGTH-clause-crash
returns-then-len-le-BLANK_LENGTH-clause-crash g c frames version read log told =
    let short = c.if-len-le-BLANK_LENGTH.true in
    let len = c.len.ensures in
    let size = g.met.D.Disk.content_len c.args.disk.now log told in
    blank_kept _ _ log c.requires.only told (omega (arith, short, len, size)) c.write_empty.ensures.crash

pub returns-clause-recovered : goal.returns-clause-recovered
returns-clause-recovered g c =
    let long = c.if-len-le-BLANK_LENGTH.false in
    let len = c.len.ensures in
    let cut = c.cut_behind.ensures in
    on_ok_three c.cut_behind.result (λ content size durable frames version read.
    journal_in_order frames c.args.place version _ _ read (omega (arith, long, len)) (g.met.D.Disk.content_len c.args.disk.now) content size durable) cut.content cut.len cut.durable

pub returns-clause-crash : goal.returns-clause-crash
returns-clause-crash g c frames version read log told =
    let long = c.if-len-le-BLANK_LENGTH.false in
    let len = c.len.ensures in
    let size = g.met.D.Disk.content_len c.args.disk.now log told in
    journal_kept frames c.args.place version _ _ log c.requires.only told (omega (arith, long, len, size)) (read.long (omega (arith, long, len)) log told) c.cut_behind.ensures.crash

pub returns-then-len-le-BLANK_LENGTH-clause-settled : goal.returns-then-len-le-BLANK_LENGTH-clause-settled
returns-then-len-le-BLANK_LENGTH-clause-settled g c =
    let short = c.if-len-le-BLANK_LENGTH.true in
    let len = c.len.ensures in
    let written = c.write_empty.ensures in
    on_ok_three c.write_empty.result (λ content size durable version read.
    blank_settled c.args.place version _ _ read (omega (arith, short, len)) (g.met.D.Disk.content_len c.args.disk.now) content size durable) written.content written.len written.durable

pub returns-clause-settled : goal.returns-clause-settled
returns-clause-settled g c =
    let long = c.if-len-le-BLANK_LENGTH.false in
    let len = c.len.ensures in
    let cut = c.cut_behind.ensures in
    on_ok_three c.cut_behind.result (λ content size durable version read.
    journal_settled c.args.place version _ _ read (omega (arith, long, len)) (g.met.D.Disk.content_len c.args.disk.now) content size durable) cut.content cut.len cut.durable
