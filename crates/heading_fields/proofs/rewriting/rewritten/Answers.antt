use Rattle.std.proofs.Common.{◌∙◌}
use Rattle.heading_fields.proofs.Lists.{laid_out}
use Rattle.heading_fields.proofs.rewriting.rewritten.Goals as goal

pub returns : goal.returns
returns c =
    laid_out c.args.whole c.args.kind c.args.key.now c.args.heading.now c.args.subfields.now _ _ _ _ _ _ _ _ c.from_vec.result
    c.split_region.ensures.region c.split_region.ensures.behind c.split_part.ensures.before c.split_part.ensures.onward
    c.in_ok-out.ensures.items c.in_ok-append_unnumbered.ensures c.in_ok-append_heading.ensures c.in_ok-append_outside.ensures
    (c.from_vec.ensures ∙ c.in_ok-append_unnumbered-2.ensures)
