use Rattle.std.proofs.Common.{arith}
use Rattle.entry_history.proofs.ReadPayloads.{short_run, short_loader, short_len, joined, short_library, head_here}
use Rattle.entry_history.proofs.payload.read_head.Goals as goal

pub returns-in_err-run-clause-none : goal.returns-in_err-run-clause-none
returns-in_err-run-clause-none c = rw c.from_residual.ensures (short_run c.args.payload.now c.in_err-run.ensures.none)

pub returns-in_err-loader-clause-none : goal.returns-in_err-loader-clause-none
returns-in_err-loader-clause-none c =
    rw c.from_residual-in_err-loader.ensures (short_loader c.args.payload.now c.in_ok-run.behind.now c.in_ok-run.run' c.in_ok-run.ensures.found c.in_err-loader.ensures.none)

pub returns-in_err-len-clause-none : goal.returns-in_err-len-clause-none
returns-in_err-len-clause-none c =
    rw c.from_residual-in_err-len.ensures
    (short_len c.args.payload.now c.in_ok-run.behind.now c.in_ok-loader.behind.now c.in_ok-run.run' c.in_ok-loader.loader c.in_ok-run.ensures.found
    c.in_ok-loader.ensures.found c.in_err-len.ensures.cases)

pub returns-in_err-library-clause-none : goal.returns-in_err-library-clause-none
returns-in_err-library-clause-none c =
    let split = joined c.args.payload.now c.in_ok-run.behind.now c.in_ok-loader.behind.now c.in_ok-len.behind.now c.in_ok-run.run' c.in_ok-loader.loader c.in_ok-len.len.now
    c.in_ok-run.ensures.found c.in_ok-loader.ensures.found c.in_ok-len.ensures.cases.0 in
    rw c.from_residual-in_err-library.ensures
    (short_library c.args.payload.now c.in_ok-len.behind.now c.in_ok-run.run' c.in_ok-loader.loader c.in_ok-len.len.now split c.in_ok-run.ensures.fits
    c.in_ok-loader.ensures.fits (omega (arith, c.in_err-library.ensures.cases)))

pub returns-in_err-count-clause-none : goal.returns-in_err-count-clause-none
returns-in_err-count-clause-none c =
    let split = joined c.args.payload.now c.in_ok-run.behind.now c.in_ok-loader.behind.now c.in_ok-len.behind.now c.in_ok-run.run' c.in_ok-loader.loader c.in_ok-len.len.now
    c.in_ok-run.ensures.found c.in_ok-loader.ensures.found c.in_ok-len.ensures.cases.0 in
    rw c.from_residual-in_err-count.ensures
    (short_library c.args.payload.now c.in_ok-len.behind.now c.in_ok-run.run' c.in_ok-loader.loader c.in_ok-len.len.now split c.in_ok-run.ensures.fits
    c.in_ok-loader.ensures.fits (omega (arith, c.in_ok-library.ensures.cases.4, c.in_err-count.ensures.cases)))

pub returns-clause-head : goal.returns-clause-head
returns-clause-head c =
    let split = joined c.args.payload.now c.in_ok-run.behind.now c.in_ok-loader.behind.now c.in_ok-len.behind.now c.in_ok-run.run' c.in_ok-loader.loader c.in_ok-len.len.now
    c.in_ok-run.ensures.found c.in_ok-loader.ensures.found c.in_ok-len.ensures.cases.0 in
    let parts = c.in_ok-library.ensures.cases in
    head_here c.args.payload.now c.in_ok-len.behind.now c.in_ok-library.library.now c.in_ok-library.behind.now c.in_ok-count.entries.now c.in_ok-run.run' c.in_ok-loader.loader
    c.in_ok-len.len.now c.in_ok-count.count.now split c.in_ok-run.ensures.fits c.in_ok-loader.ensures.fits parts.1 parts.2 parts.3 c.in_ok-count.ensures.cases.0
