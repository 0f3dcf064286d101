use Rattle.std.proofs.lemmas.Result.{on_ok_weaker}
use Rattle.catalogue_rules.specs.State.{linkable_authorities}
use Rattle.field_settling.specs.Held.{heading_as}
use Rattle.commit_stages.specs.Carrying.{carry_heading}
use Rattle.commit_stages.proofs.Headed.{heading_lent, no_heading_lent}
use Rattle.commit_stages.proofs.Notes.{noting_begins}
use Rattle.commit_stages.proofs.Turning.{ahead_itself}
use Rattle.commit_stages.proofs.CarriedField.{carried_noted, carried_visits, carried_whole, carry_all_noted, carry_begins, carry_ends, found_of, none_found, none_listed}
use Rattle.commit_stages.proofs.carrying.carry_from.Goals as goal

-- ---- no seat is linked

pub returns-then-is_empty-clause-ok : goal.returns-then-is_empty-clause-ok
returns-then-is_empty-clause-ok g c =
    let h = c.requires.heading in
    carried_whole c.args.key.now h.heading _ h.is_of c.args.store.now c.args.store.now
    (carry_ends c.args.key.now h.heading c.args.seats.now c.args.store.now c.args.steps.now h.is_of 0 c.args.store.now c.args.steps.now
    (none_listed c.args.seats.now _ c.is_empty.ensures c.if-is_empty.true)
    (carry_begins c.args.key.now h.heading c.args.seats.now c.args.store.now c.args.steps.now h.is_of c.requires.middle) c.requires.lists c.requires.middle)

pub returns-then-is_empty-clause-noted : goal.returns-then-is_empty-clause-noted
returns-then-is_empty-clause-noted g c =
    let h = c.requires.heading in
    carried_noted c.args.key.now h.heading _ h.is_of c.args.store.now c.args.noted.now c.args.noted.now
    (carry_all_noted c.args.key.now h.heading c.args.seats.now c.args.store.now c.args.steps.now h.is_of 0 c.args.store.now c.args.steps.now
    (none_listed c.args.seats.now _ c.is_empty.ensures c.if-is_empty.true)
    (carry_begins c.args.key.now h.heading c.args.seats.now c.args.store.now c.args.steps.now h.is_of c.requires.middle) c.requires.lists c.args.noted.now c.args.noted.now
    c.each_key_has_one_number.ensures (noting_begins (carry_heading c.args.key.now h.heading) c.args.store.now c.args.noted.now))

pub returns-then-is_empty-clause-ahead : goal.returns-then-is_empty-clause-ahead
returns-then-is_empty-clause-ahead g c = ahead_itself c.args.store.now

-- ---- the heading is carried

pub returns-in_err-own-clause-ahead : goal.returns-in_err-own-clause-ahead
returns-in_err-own-clause-ahead g c = ahead_itself c.args.store.now

pub carry_to-requires-clause-heading : goal.carry_to-requires-clause-heading
carry_to-requires-clause-heading g c =
    let h = c.requires.heading in found_of c.args.key.now _ _ (heading_as c.lent-heading.result) h.heading (heading_lent _ _ c.in-Some.own _ c.in_ok-own.ensures c.in-Some.is c.lent-heading.ensures) h.under h.is_of

pub returns-in-Some-clause-ok : goal.returns-in-Some-clause-ok
returns-in-Some-clause-ok g c =
    let h = c.requires.heading in
    let is = found_of c.args.key.now (linkable_authorities c.args.store.now.state) _ (heading_as c.lent-heading.result) h.heading
    (heading_lent _ _ c.in-Some.own _ c.in_ok-own.ensures c.in-Some.is c.lent-heading.ensures) h.under h.is_of in
    on_ok_weaker c.carry_to.result (carried_whole c.args.key.now (heading_as c.lent-heading.result) _ is c.args.store.now c.carry_to.new.store) c.carry_to.ensures.ok

pub returns-in-Some-clause-noted : goal.returns-in-Some-clause-noted
returns-in-Some-clause-noted g c =
    let h = c.requires.heading in
    let is = found_of c.args.key.now (linkable_authorities c.args.store.now.state) _ (heading_as c.lent-heading.result) h.heading
    (heading_lent _ _ c.in-Some.own _ c.in_ok-own.ensures c.in-Some.is c.lent-heading.ensures) h.under h.is_of in
    on_ok_weaker c.carry_to.result (carried_noted c.args.key.now (heading_as c.lent-heading.result) _ is c.args.store.now c.args.noted.now c.carry_to.new.noted) c.carry_to.ensures.noted

pub returns-in-Some-clause-visits : goal.returns-in-Some-clause-visits
returns-in-Some-clause-visits g c =
    let h = c.requires.heading in
    let is = found_of c.args.key.now (linkable_authorities c.args.store.now.state) _ (heading_as c.lent-heading.result) h.heading
    (heading_lent _ _ c.in-Some.own _ c.in_ok-own.ensures c.in-Some.is c.lent-heading.ensures) h.under h.is_of in
    carried_visits c.args.key.now (heading_as c.lent-heading.result) _ is c.args.store.now.state c.args.steps.now c.carry_to.new.steps c.carry_to.ensures.visits

-- ---- there is a heading

pub returns-in-None-clause-ok : goal.returns-in-None-clause-ok
returns-in-None-clause-ok g c = none_found _ _ c.requires.heading.heading (no_heading_lent _ _ c.in_ok-own.ensures c.in-None.is) c.requires.heading.under

pub returns-in-None-clause-noted : goal.returns-in-None-clause-noted
returns-in-None-clause-noted g c = none_found _ _ c.requires.heading.heading (no_heading_lent _ _ c.in_ok-own.ensures c.in-None.is) c.requires.heading.under

pub returns-in-None-clause-ahead : goal.returns-in-None-clause-ahead
returns-in-None-clause-ahead g c = ahead_itself c.args.store.now
