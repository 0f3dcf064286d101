use Rattle.std.proofs.Common.{arith}
use Rattle.holdings_command.proofs.OnShelves.{shelving_none, shelving_holding, shelving_refused, few_refused, shelved_all}
use Rattle.holdings_command.proofs.shelving.shelve_items.Goals as goal

pub items-init : goal.items-init
items-init g c = shelving_none _ _ _ c.new-shelf.ensures c.new-refused.ensures.items c.requires.going

pub items-preserved-in-Ok : goal.items-preserved-in-Ok
items-preserved-in-Ok g c =
    shelving_holding _ _ _ _ _ _ c.in-Holding.ordinal _ c.in-Holding.item c.requires.first c.items.invariant c.in-Holding.ensures.same c.in-Holding.ensures.gives
    c.in-Ok.ensures.ok

pub items-preserved : goal.items-preserved
items-preserved g c =
    shelving_refused _ _ _ _ _ _ _ c.in-Refused.item c.requires.first c.items.invariant c.in-Refused.ensures.same c.in-Refused.ensures.gives
    c.in-Ok-push.ensures.items

pub overflow_sub-accepted : goal.overflow_sub-accepted
overflow_sub-accepted g c =
    let few = few_refused _ _ _ _ _ c.items.invariant in
    omega (arith, few, c.len.ensures)

pub returns-in-End-clause-shelved : goal.returns-in-End-clause-shelved
returns-in-End-clause-shelved g c told =
    shelved_all _ _ _ _ c.items.count c.items.invariant c.in-End.ensures.gives (omega (arith, c.len.ensures)) told
