use Rattle.std.proofs.Common.{rules, ◌≡◌, ◌∙◌, true, false, ap, length, sym}
use Rattle.restoring.proofs.Alike.{alike_is, alike_long, row_bytes_are}
use Rattle.restoring.proofs.comparing.has_record.Goals as goal

pub has_ties-requires : goal.has_ties-requires
has_ties-requires c =
    let bytes = sym c.as_bytes.ensures ∙ c.are_equal.ensures.0 c.if-are_equal.true ∙ c.as_bytes-2.ensures in
    ap length c.as_slice.ensures ∙ alike_long c.args.kept.now c.args.row.now c.fits.ensures bytes

pub returns-then-are_equal : goal.returns-then-are_equal
returns-then-are_equal c =
    let bytes = sym c.as_bytes.ensures ∙ c.are_equal.ensures.0 c.if-are_equal.true ∙ c.as_bytes-2.ensures in
    alike_is c.args.kept.now c.args.row.now c.as_slice.result.now c.has_ties.result c.as_slice.ensures c.fits.ensures bytes c.has_ties.ensures

pub returns-else-are_equal : goal.returns-else-are_equal
returns-else-are_equal c = (
  (λ yes. search rules),
  (λ same. c.are_equal.ensures.1 (c.as_bytes.ensures ∙ row_bytes_are c.args.kept.now c.args.row.now same ∙ sym c.as_bytes-2.ensures)),
)
