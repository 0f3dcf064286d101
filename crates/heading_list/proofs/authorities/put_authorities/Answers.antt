use Rattle.std.proofs.Common.{map, ap, sym}
use Rattle.std.specs.List.{flat_map}
use Rattle.heading_list.specs.Rows.{rows_of_authority}
use Rattle.heading_list.proofs.Firsts.{takes_none, takes_then, takes_these}
use Rattle.heading_list.proofs.authorities.put_authorities.Goals as goal
use Rattle.numbered_store.specs.Kept.{shown_row}

pub loop-key-preserved : goal.loop-key-preserved
loop-key-preserved c end takes =
    c.loop-key.invariant end
    (takes_these _ _ _ _ (sym (ap (λ rows. flat_map rows_of_authority (map shown_row rows)) c.in-Some.ensures.steps))
    (takes_then _ _ _ _ _ c.in_ok-put_authority.ensures takes))

pub returns : goal.returns
returns c =
    c.loop-key.invariant _
    (takes_these _ _ _ _ (sym (ap (λ rows. flat_map rows_of_authority (map shown_row rows)) c.in-None.ensures.steps.0)) (takes_none _))
