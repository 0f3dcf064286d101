use Rattle.std.proofs.Common.{Option, Some}
use Rattle.std.proofs.lemmas.Result.{IfOk-weaker, on_ok_weaker}
use Rattle.field_settling.specs.Held.{heading_as, held_as}
use Rattle.field_settling.specs.declared.held.Held.{Held}
use Rattle.commit_stages.specs.Fields.{field_as}
use Rattle.commit_stages.specs.Carrying.{carry_heading}
use Rattle.commit_stages.proofs.CarriedField.{carried_made, none_made}
use Rattle.commit_stages.proofs.Finding.{found_there, none_there}
use Rattle.commit_stages.proofs.Notes.{notes_made, notes_nothing, other_made}
use Rattle.commit_stages.proofs.carrying.carried.Goals as goal

pub returns-in-None-clause-made : goal.returns-in-None-clause-made
returns-in-None-clause-made g c =
    none_made (carry_heading c.args.key.now (heading_as c.args.heading)) c.args.seat c.args.store.now (none_there _ _ c.in_ok-found.ensures.field c.in-None.is)

pub returns-in_ok-held-in-Some-clause-made : goal.returns-in_ok-held-in-Some-clause-made
returns-in_ok-held-in-Some-clause-made g c =
    IfOk-weaker c.note_another.result _ _
    (λ (made : Option Held) other. other_made (carry_heading c.args.key.now (heading_as c.args.heading)) c.args.seat c.args.store.now (field_as c.lent-at.result) c.in_ok-held-in-Some.held made other
    (found_there _ _ c.in-Some.found _ c.in_ok-found.ensures.field c.in-Some.is c.lent-at.ensures)
    (carried_made c.args.key.now (heading_as c.args.heading) c.args.seat c.args.store.now (field_as c.lent-at.result) (held_as c.in_ok-held-in-Some.held)
    c.requires.to_do c.requires.heading c.requires.middle c.visit_field.ensures.proper (found_there _ _ c.in-Some.found _ c.in_ok-found.ensures.field c.in-Some.is c.lent-at.ensures)
    c.in_ok-held-in-Some.ensures)) c.note_another.ensures.made

pub returns-in_ok-held-in-Some-clause-noted : goal.returns-in_ok-held-in-Some-clause-noted
returns-in_ok-held-in-Some-clause-noted g c =
    on_ok_weaker c.note_another.result
    (λ noted. notes_made (carry_heading c.args.key.now (heading_as c.args.heading)) c.args.seat c.args.store.now (field_as c.lent-at.result) (Some c.in_ok-held-in-Some.held)
    c.args.noted.now c.note_another.new.noted noted (found_there _ _ c.in-Some.found _ c.in_ok-found.ensures.field c.in-Some.is c.lent-at.ensures)
    (carried_made c.args.key.now (heading_as c.args.heading) c.args.seat c.args.store.now (field_as c.lent-at.result) (held_as c.in_ok-held-in-Some.held)
    c.requires.to_do c.requires.heading c.requires.middle c.visit_field.ensures.proper (found_there _ _ c.in-Some.found _ c.in_ok-found.ensures.field c.in-Some.is c.lent-at.ensures)
    c.in_ok-held-in-Some.ensures)) c.note_another.ensures.noted

pub returns-in-None-clause-noted : goal.returns-in-None-clause-noted
returns-in-None-clause-noted g c =
    notes_nothing (carry_heading c.args.key.now (heading_as c.args.heading)) c.args.seat c.args.store.now c.args.noted.now (none_there _ _ c.in_ok-found.ensures.field c.in-None.is)

pub visit_field-requires : goal.visit_field-requires
visit_field-requires g c = c.requires.to_do.known
