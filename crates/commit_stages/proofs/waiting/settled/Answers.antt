use Rattle.std.proofs.Common.{sym}
use Rattle.catalogue_rules.specs.Settle.{settle_field}
use Rattle.catalogue_rules.specs.State.{linkable_authorities}
use Rattle.commit_stages.specs.Fields.{field_as}
use Rattle.commit_stages.proofs.Finding.{found_there, none_there, turn_least}
use Rattle.commit_stages.proofs.Notes.{notes_made, notes_nothing}
use Rattle.commit_stages.proofs.SettledFields.{choice_made, field_there, in_order, turn_costs, unlinked_there}
use Rattle.commit_stages.proofs.waiting.settled.Goals as goal

pub visit_field-requires : goal.visit_field-requires
visit_field-requires g c = c.requires.to_do.known

pub returns-in_err-found-clause-visits : goal.returns-in_err-found-clause-visits
returns-in_err-found-clause-visits g c =
    turn_least (linkable_authorities c.args.store.now.state) c.args.seat c.args.store.now c.args.steps.now c.visit_field.new.steps c.requires.to_do c.visit_field.ensures.step

pub settle_unlinked-requires-clause-ordered : goal.settle_unlinked-requires-clause-ordered
settle_unlinked-requires-clause-ordered g c = in_order c.args.store.now.state c.requires.middle

pub settle_unlinked-requires-clause-known : goal.settle_unlinked-requires-clause-known
settle_unlinked-requires-clause-known g c = c.requires.to_do.known

pub settle_unlinked-requires-clause-stands : goal.settle_unlinked-requires-clause-stands
settle_unlinked-requires-clause-stands g c = sym (found_there _ _ c.in-Some.found _ c.in_ok-found.ensures.field c.in-Some.is c.lent-at.ensures)

pub settle_unlinked-requires-clause-unlinked : goal.settle_unlinked-requires-clause-unlinked
settle_unlinked-requires-clause-unlinked g c =
    unlinked_there c.args.seat c.args.store.now (field_as c.lent-at.result) c.requires.to_do (sym (found_there _ _ c.in-Some.found _ c.in_ok-found.ensures.field c.in-Some.is c.lent-at.ensures))

pub returns-in_err-made-in-Some-clause-visits : goal.returns-in_err-made-in-Some-clause-visits
returns-in_err-made-in-Some-clause-visits g c =
    turn_costs c.args.seat c.args.store.now (linkable_authorities c.args.store.now.state) (field_as c.lent-at.result) c.args.steps.now c.visit_field.new.steps c.settle_unlinked.new.steps
    (sym (found_there _ _ c.in-Some.found _ c.in_ok-found.ensures.field c.in-Some.is c.lent-at.ensures)) c.visit_field.ensures.step c.settle_unlinked.ensures.visits

pub returns-in_err-note_change-in-Some-clause-visits : goal.returns-in_err-note_change-in-Some-clause-visits
returns-in_err-note_change-in-Some-clause-visits g c =
    turn_costs c.args.seat c.args.store.now (linkable_authorities c.args.store.now.state) (field_as c.lent-at.result) c.args.steps.now c.visit_field.new.steps c.settle_unlinked.new.steps
    (sym (found_there _ _ c.in-Some.found _ c.in_ok-found.ensures.field c.in-Some.is c.lent-at.ensures)) c.visit_field.ensures.step c.settle_unlinked.ensures.visits

pub returns-in_ok-note_change-in-Some-clause-made : goal.returns-in_ok-note_change-in-Some-clause-made
returns-in_ok-note_change-in-Some-clause-made g c =
    choice_made c.args.store.now c.args.seat (field_as c.lent-at.result) c.requires.middle c.requires.to_do.known (sym (found_there _ _ c.in-Some.found _ c.in_ok-found.ensures.field c.in-Some.is c.lent-at.ensures))
    (unlinked_there c.args.seat c.args.store.now (field_as c.lent-at.result) c.requires.to_do (sym (found_there _ _ c.in-Some.found _ c.in_ok-found.ensures.field c.in-Some.is c.lent-at.ensures))) c.visit_field.ensures.proper c.in_ok-made-in-Some.made
    c.in_ok-made-in-Some.ensures.settled

pub returns-in_ok-note_change-in-Some-clause-noted : goal.returns-in_ok-note_change-in-Some-clause-noted
returns-in_ok-note_change-in-Some-clause-noted g c =
    notes_made (settle_field (linkable_authorities c.args.store.now.state)) c.args.seat c.args.store.now (field_as c.lent-at.result) c.in_ok-made-in-Some.made
    c.args.noted.now c.note_change.new.noted c.in_ok-note_change-in-Some.ensures (found_there _ _ c.in-Some.found _ c.in_ok-found.ensures.field c.in-Some.is c.lent-at.ensures)
    (choice_made c.args.store.now c.args.seat (field_as c.lent-at.result) c.requires.middle c.requires.to_do.known (sym (found_there _ _ c.in-Some.found _ c.in_ok-found.ensures.field c.in-Some.is c.lent-at.ensures))
    (unlinked_there c.args.seat c.args.store.now (field_as c.lent-at.result) c.requires.to_do (sym (found_there _ _ c.in-Some.found _ c.in_ok-found.ensures.field c.in-Some.is c.lent-at.ensures))) c.visit_field.ensures.proper c.in_ok-made-in-Some.made
    c.in_ok-made-in-Some.ensures.settled)

pub returns-in_ok-note_change-in-Some-clause-visits : goal.returns-in_ok-note_change-in-Some-clause-visits
returns-in_ok-note_change-in-Some-clause-visits g c =
    turn_costs c.args.seat c.args.store.now (linkable_authorities c.args.store.now.state) (field_as c.lent-at.result) c.args.steps.now c.visit_field.new.steps c.settle_unlinked.new.steps
    (sym (found_there _ _ c.in-Some.found _ c.in_ok-found.ensures.field c.in-Some.is c.lent-at.ensures)) c.visit_field.ensures.step c.settle_unlinked.ensures.visits

pub returns-in-None-clause-noted : goal.returns-in-None-clause-noted
returns-in-None-clause-noted g c =
    notes_nothing (settle_field (linkable_authorities c.args.store.now.state)) c.args.seat c.args.store.now c.args.noted.now (none_there _ _ c.in_ok-found.ensures.field c.in-None.is)

pub returns-in-None-clause-made : goal.returns-in-None-clause-made
returns-in-None-clause-made g c = field_there c.args.seat c.args.store.now _ c.requires.to_do (none_there _ _ c.in_ok-found.ensures.field c.in-None.is)

pub returns-in-None-clause-visits : goal.returns-in-None-clause-visits
returns-in-None-clause-visits g c = field_there c.args.seat c.args.store.now _ c.requires.to_do (none_there _ _ c.in_ok-found.ensures.field c.in-None.is)
