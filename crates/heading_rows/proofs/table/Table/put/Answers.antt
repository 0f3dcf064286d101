use Rattle.std.proofs.Common.{◌∙◌, sym, subst}
use Rattle.catalogue_rules.specs.Settle.{arrival_of}
use Rattle.heading_rows.specs.Listing.{IsKeyed}
use Rattle.heading_rows.proofs.Tables.{kept_keyed}
use Rattle.heading_rows.proofs.table.Table.put.Goals as goal

pub keep-requires : goal.keep-requires
keep-requires c =
    let heading = c.behind-heading in
    let row = c.in-Kept.row in
    let own : IsKeyed heading.inside.whole.value.key row = kept_keyed (arrival_of heading.inside.whole.value) row (sym c.in-Kept.is ∙ heading.invariant.1) in
    record { keyed = subst (λ k. IsKeyed k row) (sym heading.invariant.0) own }
