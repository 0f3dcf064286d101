use Rattle.std.proofs.Common.{◌-◌, arith}
use Rattle.commit_journal.proofs.Heads.{head_there}
use Rattle.commit_journal.proofs.reading.read_head.Goals as goal

pub returns-clause-head : goal.returns-clause-head
returns-clause-head g c b told =
    let len = g.met.D.Disk.content_len c.args.disk.now b told in
    let left_is = c.len.ensures in
    let min_is = c.min.ensures in
    let head = c.in_ok-head.ensures in
    head_there c.args.place (c.len.result - c.args.place) c.in_ok-head.head b c.head_of.result (omega arith) (omega arith) head.size (rw (← min_is) (head.bytes b told)) c.head_of.ensures
