use Rattle.std.proofs.Common.{ap, ◌∙◌}
use Rattle.std.proofs.lemmas.Result.{err_from_is_err_and}
use Rattle.marc_types.specs.declared.entry.Entry.{Entry}
use Rattle.entry_history.proofs.ReadEntries.{not_begun, begun, not_written}
use Rattle.entry_history.proofs.entry.read_entry.Goals as goal

pub returns-in_err-item-clause-bad : goal.returns-in_err-item-clause-bad
returns-in_err-item-clause-bad c =
    let p = err_from_is_err_and c.from_residual.result c.from_residual.ensures.1 in
    rw (p.1, p.2) (not_written c.args.run c.args.loader c.args.library.now c.args.bytes.now c.in-Some.written.now c.in-Some.ordinal _ c.in-Some.ensures.head c.in_err-item.ensures.bad)

pub returns-in_default-strip_prefix-clause-bad : goal.returns-in_default-strip_prefix-clause-bad
returns-in_default-strip_prefix-clause-bad c =
    let made = c.in_ok-item.item in
    let part = c.as_slice.ensures.value ∙ c.in_ok-part.ensures in
    let differs = rw part at c.in_default-strip_prefix.ensures.cases in
    not_begun c.args.run c.args.loader c.args.library.now c.args.bytes.now c.in-Some.written.now c.in-Some.ordinal made c.in-Some.ensures.head
    c.in_ok-item.ensures.read (ap (λ (e : Entry). e.ordinal) c.in_ok-item.ensures.entry) differs

pub returns-clause-read : goal.returns-clause-read
returns-clause-read c =
    let made = c.in_ok-item.item in
    let part = c.as_slice.ensures.value ∙ c.in_ok-part.ensures in
    let same = rw part at c.in-Some-strip_prefix.ensures.cases in
    let e = c.set_run.ensures in
    rw e
    (begun c.args.run c.args.loader c.args.library.now c.args.bytes.now c.in-Some.written.now c.in-Some-strip_prefix.rest.now c.in-Some.ordinal made c.in-Some.ensures.head
    c.requires.library c.in_ok-item.ensures.ordinal c.ranges.loader.fits c.ranges.run.fits c.in_ok-item.ensures.read c.in_ok-item.ensures.taken c.in_ok-item.ensures.entry same.0 same.1)
