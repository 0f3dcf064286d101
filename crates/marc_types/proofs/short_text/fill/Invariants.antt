use Rattle.std.proofs.Common.{◌≡◌, ◌≤◌, take}
use Rattle.marc_types.specs.Texts.{without_blanks}
use Rattle.marc_types.proofs.short_text.fill.Given as goal

abbrev pub invariant-loop-byte : goal.invariant-loop-byte
invariant-loop-byte l =
    (l.len ≤ l.byte-index) × (take l.len l.room ≡ without_blanks (take l.byte-index l.bytes))
