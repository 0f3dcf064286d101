use Rattle.std.proofs.Common.{◌∙◌, sym, ap, subst, cond, not, ◌&&◌, ◌||◌, Some}
use Rattle.std.specs.Map.{lookup}
use Rattle.std.specs.Option.{option_flatten}
use Rattle.marc_types.specs.Order.{same_key}
use Rattle.heading_rows.specs.Listing.{IsKeyed, is_row}
use Rattle.heading_rows.proofs.Members.{rows_kept}
use Rattle.heading_rows.proofs.listing.Listing.keep.Goals as goal

pub invariant_of-self-in-Ok : goal.invariant_of-self-in-Ok
invariant_of-self-in-Ok c =
    let before = c.self.inside.authorities.entries in
    let own = c.in_ok-own.own in
    let row = c.args.row.now in
    let former = c.flatten.result in
    rows_kept before _ c.self.inside.rows.keys _ own row former c.self.invariant c.in-Ok.ensures.ordered
    (λ k. c.in-Ok.ensures.updates.0 k ∙ ap (λ r. cond (same_key own k) (Some r) (lookup (same_key k) before)) c.in_ok-twin.ensures)
    (c.flatten.ensures ∙ ap option_flatten c.in-Ok.ensures.old)
    (subst (λ k. IsKeyed k row) (sym c.in_ok-own.ensures) c.requires.keyed)
    (λ q. c.drop_former.ensures q ∙ ap (λ b. is_row row q || (not (is_row former q) && b)) (c.in_ok-added.ensures.rows q))
