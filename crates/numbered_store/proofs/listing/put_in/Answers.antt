use Rattle.std.proofs.Common.{◌∙◌, ap, map}
use Rattle.numbered_store.specs.Kept.{shown_row}
use Rattle.numbered_store.specs.Rows.{with_slot}
use Rattle.numbered_store.proofs.Listed.{shown_insert}
use Rattle.numbered_store.proofs.listing.put_in.Goals as goal

pub returns : goal.returns
returns c =
    ap (map shown_row) c.in_ok-insert.ensures.entries
    ∙ shown_insert c.in-Some.key c.in-Some-slot.kept c.args.rows.now.entries
    ∙ (λ i. with_slot (c.in-Some.ensures i) (c.in-Some-slot.ensures i) (map shown_row c.args.rows.now.entries))
