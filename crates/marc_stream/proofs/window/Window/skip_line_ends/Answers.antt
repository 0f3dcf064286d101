use Rattle.std.proofs.Common.{◌≡◌, [], ◌<◌, length, drop, subst, sym, ◌∙◌, ap, arith, length-drop}
use Rattle.std.proofs.lemmas.List.{nil_from_length}
use Rattle.marc_stream.specs.Window.{BeginsItem}
use Rattle.marc_stream.proofs.Windows.{on_err, blocked, skip_ends, skip_ends_on, ends_found, ends_not_found, ends_no_record, grows_none}
use Rattle.marc_stream.proofs.window.Window.skip_line_ends.Goals as goal

pub returns-then-len-gt0-clause-skips : goal.returns-then-len-gt0-clause-skips
returns-then-len-gt0-clause-skips g c =
    let skipped = skip_ends _ _ _ _ _ c.line_ends.invariant c.bytes.ensures c.line_ends-count.ensures.skipped c.take.ensures.moves in
    let more : c.line_ends-count.result < length c.bytes.result.now =
    omega (arith, ap length c.bytes.ensures, ap length c.take.ensures.buffered, length-drop c.line_ends-count.result c.line_ends.self.buffered) in
    let same : drop c.line_ends-count.result c.bytes.result.now ≡ c.take.new.self.buffered =
    ap (drop c.line_ends-count.result) c.bytes.ensures ∙ sym c.take.ensures.buffered in
    ends_found _ _ skipped (subst BeginsItem same (c.line_ends-count.ensures.begins more))

pub returns-in_err-fill-clause-blocked : goal.returns-in_err-fill-clause-blocked
returns-in_err-fill-clause-blocked g c =
    let skipped = skip_ends _ _ _ _ _ c.line_ends.invariant c.bytes.ensures c.line_ends-count.ensures.skipped c.take.ensures.moves in
    let empty : c.take.new.self.buffered ≡ [] = nil_from_length _ (omega arith) in
    on_err _ (blocked _ _ _ skipped.taken skipped.moves (ends_no_record _ _ skipped empty) c.fill.ensures.moves c.in_err-fill.ensures.err
    c.in_err-fill.ensures.cause.failed)

pub returns-then-branch-eq0-clause-skips : goal.returns-then-branch-eq0-clause-skips
returns-then-branch-eq0-clause-skips g c =
    let skipped = skip_ends _ _ _ _ _ c.line_ends.invariant c.bytes.ensures c.line_ends-count.ensures.skipped c.take.ensures.moves in
    let empty : c.take.new.self.buffered ≡ [] = nil_from_length _ (omega arith) in
    let none = grows_none _ _ _ c.in_ok-fill.ensures.grows c.if-branch-eq0.true ∙ empty in
    ends_not_found _ _ (skip_ends_on _ _ _ skipped c.fill.ensures.moves) none (c.in_ok-fill.ensures.end c.if-branch-eq0.true)

pub line_ends-preserved : goal.line_ends-preserved
line_ends-preserved g c =
    let skipped = skip_ends _ _ _ _ _ c.line_ends.invariant c.bytes.ensures c.line_ends-count.ensures.skipped c.take.ensures.moves in
    skip_ends_on _ _ _ skipped c.fill.ensures.moves
