use Rattle.catalogue_rules.specs.State.{linkable_authorities}
use Rattle.linking_laws.specs.Tables.{dropped_at}
use Rattle.commit_stages.specs.Fields.{field_as}
use Rattle.commit_stages.specs.Dropping.{drop_ending, dropping_of, ending_visits, successor_to}
use Rattle.commit_stages.proofs.Finding.{found_there, none_there}
use Rattle.commit_stages.proofs.Dropped.{dropped_made, nowhere, there_within, to_do_there, turn_in_order}
use Rattle.commit_stages.proofs.DroppedField.{drop_least}
use Rattle.commit_stages.proofs.Notes.{notes_made}
use Rattle.commit_stages.proofs.dropping.dropped.Goals as goal

pub visit_field-requires : goal.visit_field-requires
visit_field-requires g c = c.requires.to_do.known

pub returns-in_err-found-clause-visits : goal.returns-in_err-found-clause-visits
returns-in_err-found-clause-visits g c =
    drop_least c.args.links.only_base (linkable_authorities c.args.store.now.state) c.args.links.key.now (successor_to c.args.links) c.args.seat c.args.store.now c.args.steps.now c.visit_field.new.steps
    c.requires.to_do c.visit_field.ensures.step

pub dropped_from-requires-clause-order : goal.dropped_from-requires-clause-order
dropped_from-requires-clause-order g c = turn_in_order (dropping_of c.args.links) c.args.links.key.now c.args.seat c.args.store.now c.requires.turn

pub dropped_from-requires-clause-to_do : goal.dropped_from-requires-clause-to_do
dropped_from-requires-clause-to_do g c =
    to_do_there (dropped_at c.args.links.key.now (successor_to c.args.links)) c.args.seat c.args.store.now (field_as c.lent-at.result) c.requires.to_do (found_there _ _ c.in-Some.found _ c.in_ok-found.ensures.field c.in-Some.is c.lent-at.ensures)

pub returns-in_err-made-in-Some-clause-visits : goal.returns-in_err-made-in-Some-clause-visits
returns-in_err-made-in-Some-clause-visits g c =
    there_within (ending_visits c.args.links (linkable_authorities c.args.store.now.state)) c.args.seat c.args.store.now (field_as c.lent-at.result) c.args.steps.now c.visit_field.new.steps c.dropped_from.new.steps
    (found_there _ _ c.in-Some.found _ c.in_ok-found.ensures.field c.in-Some.is c.lent-at.ensures) c.visit_field.ensures.step c.dropped_from.ensures.visits

pub returns-in_err-note_change-in-Some-clause-visits : goal.returns-in_err-note_change-in-Some-clause-visits
returns-in_err-note_change-in-Some-clause-visits g c =
    there_within (ending_visits c.args.links (linkable_authorities c.args.store.now.state)) c.args.seat c.args.store.now (field_as c.lent-at.result) c.args.steps.now c.visit_field.new.steps c.dropped_from.new.steps
    (found_there _ _ c.in-Some.found _ c.in_ok-found.ensures.field c.in-Some.is c.lent-at.ensures) c.visit_field.ensures.step c.dropped_from.ensures.visits

pub returns-in_ok-note_change-in-Some-clause-made : goal.returns-in_ok-note_change-in-Some-clause-made
returns-in_ok-note_change-in-Some-clause-made g c =
    dropped_made (dropping_of c.args.links) c.args.links.key.now (successor_to c.args.links) c.args.store.now c.args.seat (field_as c.lent-at.result)
    c.requires.to_do c.requires.turn c.visit_field.ensures.proper (found_there _ _ c.in-Some.found _ c.in_ok-found.ensures.field c.in-Some.is c.lent-at.ensures) c.in_ok-made-in-Some.made c.in_ok-made-in-Some.ensures.made

pub returns-in_ok-note_change-in-Some-clause-noted : goal.returns-in_ok-note_change-in-Some-clause-noted
returns-in_ok-note_change-in-Some-clause-noted g c =
    notes_made (drop_ending c.args.links (linkable_authorities c.args.store.now.state)) c.args.seat c.args.store.now (field_as c.lent-at.result) c.in_ok-made-in-Some.made
    c.args.noted.now c.note_change.new.noted c.in_ok-note_change-in-Some.ensures (found_there _ _ c.in-Some.found _ c.in_ok-found.ensures.field c.in-Some.is c.lent-at.ensures)
    (dropped_made (dropping_of c.args.links) c.args.links.key.now (successor_to c.args.links) c.args.store.now c.args.seat (field_as c.lent-at.result)
    c.requires.to_do c.requires.turn c.visit_field.ensures.proper (found_there _ _ c.in-Some.found _ c.in_ok-found.ensures.field c.in-Some.is c.lent-at.ensures) c.in_ok-made-in-Some.made c.in_ok-made-in-Some.ensures.made)

pub returns-in_ok-note_change-in-Some-clause-visits : goal.returns-in_ok-note_change-in-Some-clause-visits
returns-in_ok-note_change-in-Some-clause-visits g c =
    there_within (ending_visits c.args.links (linkable_authorities c.args.store.now.state)) c.args.seat c.args.store.now (field_as c.lent-at.result) c.args.steps.now c.visit_field.new.steps c.dropped_from.new.steps
    (found_there _ _ c.in-Some.found _ c.in_ok-found.ensures.field c.in-Some.is c.lent-at.ensures) c.visit_field.ensures.step c.dropped_from.ensures.visits

pub returns-in-None-clause-noted : goal.returns-in-None-clause-noted
returns-in-None-clause-noted g c =
    nowhere (dropped_at c.args.links.key.now (successor_to c.args.links)) c.args.seat c.args.store.now c.requires.to_do (none_there _ _ c.in_ok-found.ensures.field c.in-None.is)

pub returns-in-None-clause-made : goal.returns-in-None-clause-made
returns-in-None-clause-made g c =
    nowhere (dropped_at c.args.links.key.now (successor_to c.args.links)) c.args.seat c.args.store.now c.requires.to_do (none_there _ _ c.in_ok-found.ensures.field c.in-None.is)

pub returns-in-None-clause-visits : goal.returns-in-None-clause-visits
returns-in-None-clause-visits g c =
    nowhere (dropped_at c.args.links.key.now (successor_to c.args.links)) c.args.seat c.args.store.now c.requires.to_do (none_there _ _ c.in_ok-found.ensures.field c.in-None.is)
