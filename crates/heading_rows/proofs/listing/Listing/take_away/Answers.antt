use Rattle.std.proofs.Common.{◌∙◌, ap}
use Rattle.std.specs.Option.{option_flatten}
use Rattle.heading_rows.proofs.Members.{rows_gone}
use Rattle.heading_rows.proofs.listing.Listing.take_away.Goals as goal

pub invariant_of-self : goal.invariant_of-self
invariant_of-self c =
    rows_gone c.self.inside.authorities.entries _ c.self.inside.rows.keys _ c.in_ok-own.own c.flatten-former.result c.self.invariant c.remove.ensures.ordered
    c.remove.ensures.updates.0 (c.flatten-former.ensures ∙ ap option_flatten c.remove.ensures.value) c.drop_row.ensures
