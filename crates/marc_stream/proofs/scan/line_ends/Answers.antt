use Rattle.std.proofs.Common.{◌≡◌, true, sym, ◌∙◌}
use Rattle.std.proofs.lemmas.List.Elements.{All-more}
use Rattle.marc_stream.specs.Pieces.{is_line_end}
use Rattle.marc_stream.proofs.scan.line_ends.Goals as goal

pub loop-i-preserved : goal.loop-i-preserved
loop-i-preserved c =
    All-more (λ b. is_line_end b ≡ true) c.args.bytes.now c.loop-i.i 0 c.loop-i-test.true c.loop-i.invariant (sym c.is_line_end.ensures ∙ c.if-not-is_line_end.false)
