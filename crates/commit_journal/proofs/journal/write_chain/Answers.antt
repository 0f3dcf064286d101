use Rattle.std.proofs.Common.{arith}
use Rattle.commit_journal.proofs.Chains.{chain_len, chain_content, chain_begun, chain_steps}
use Rattle.commit_journal.proofs.journal.write_chain.Goals as goal

pub returns-in_err-next-clause-crash : goal.returns-in_err-next-clause-crash
returns-in_err-next-clause-crash g c =
    let seen = g.D.Disk.seen in
    chain_begun c.args.at c.args.front.now c.args.last.now (seen c.args.disk.now) (seen c.write_open.new.disk) c.write_open.ensures.crash

pub returns-in_err-write_frame-clause-crash : goal.returns-in_err-write_frame-clause-crash
returns-in_err-write_frame-clause-crash g c =
    let seen = g.D.Disk.seen in
    chain_steps c.args.at c.in_ok-next.next c.args.front.now c.args.last.now (seen c.args.disk.now) (seen c.write_open.new.disk) (seen c.write_frame.new.disk)
    c.in_ok-next.ensures.next c.write_open.ensures.crash c.write_frame.ensures.crash

pub returns-clause-gate : goal.returns-clause-gate
returns-clause-gate g c =
    let next = c.in_ok-next.ensures.next in
    let all = chain_len c.args.front.now c.args.last.now in
    omega (arith, next, all)

pub returns-clause-content : goal.returns-clause-content
returns-clause-content g c =
    let seen = g.D.Disk.seen in
    chain_content c.args.at c.in_ok-next.next c.args.front.now c.args.last.now (seen c.args.disk.now) (seen c.write_open.new.disk) (seen c.write_frame.new.disk) c.requires.within
    (g.met.D.Disk.content_len c.args.disk.now) c.in_ok-next.ensures.next c.in_ok-next.ensures.content c.in_ok-write_frame.ensures.content

pub returns-clause-len : goal.returns-clause-len
returns-clause-len g c =
    let next = c.in_ok-next.ensures.next in
    let open_len = c.in_ok-next.ensures.len in
    let len = c.in_ok-write_frame.ensures.len in
    let all = chain_len c.args.front.now c.args.last.now in
    omega (arith, next, open_len, len, all)

pub returns-clause-crash : goal.returns-clause-crash
returns-clause-crash g c =
    let seen = g.D.Disk.seen in
    chain_steps c.args.at c.in_ok-next.next c.args.front.now c.args.last.now (seen c.args.disk.now) (seen c.write_open.new.disk) (seen c.write_frame.new.disk)
    c.in_ok-next.ensures.next c.write_open.ensures.crash c.write_frame.ensures.crash
