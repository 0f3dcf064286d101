use Rattle.std.proofs.Common.{◌∙◌, ap, subst, List}
use Rattle.entry_record.proofs.Admitted.{admitted_fits}
use Rattle.catalogue_rules.specs.State.{linkable_authorities}
use Rattle.catalogue_tables.specs.Lent.{shown_forms}
use Rattle.numbering.specs.declared.seat.Seat.{Seat}
use Rattle.commit_stages.specs.Noted.{NotesChanges}
use Rattle.commit_stages.specs.Stages.{drop_of}
use Rattle.commit_stages.proofs.Course.{begun, begun_within, carried, carried_brought, carried_within, dropped, dropped_own, dropped_within, ending_can, forms_begun, settled, settled_state, settled_within}
use Rattle.commit_stages.proofs.Turning.{ahead_five, ahead_four, ahead_then, ahead_three}
use Rattle.commit_stages.proofs.Whole.{key_now, key_of_class, number_now, number_of_class, numbers_so, valid_now}
use Rattle.commit_stages.proofs.authority.commit_known.Goals as goal

pub place-requires-clause-fit : goal.place-requires-clause-fit
place-requires-clause-fit g c = admitted_fits c.args.item.now c.requires.commit.admitted

pub drop_ended-requires-clause-number : goal.drop_ended-requires-clause-number
drop_ended-requires-clause-number g c = number_now c.args.store.now c.args.item.now c.requires.commit c.args.number c.requires.number c.place.new.self c.place.ensures.ahead

pub drop_ended-requires-clause-key : goal.drop_ended-requires-clause-key
drop_ended-requires-clause-key g c = key_now c.args.store.now c.args.item.now c.requires.commit c.args.number c.requires.number c.place.new.self c.place.ensures.ahead

pub drop_ended-requires-clause-can : goal.drop_ended-requires-clause-can
drop_ended-requires-clause-can g c =
    let b = begun c.args.store.now c.args.item.now c.requires.commit c.args.number c.requires.number c.args.known.now _ c.requires.known c.as_ref.ensures.value c.links_that_end-ending.result c.links_that_end-ending.ensures c.place.new.self c.place.ensures.ahead c.in_ok-own.ensures.ok in
    ending_can b

pub returns-in_err-drop_ended-clause-visits : goal.returns-in_err-drop_ended-clause-visits
returns-in_err-drop_ended-clause-visits g c =
    let b = begun c.args.store.now c.args.item.now c.requires.commit c.args.number c.requires.number c.args.known.now _ c.requires.known c.as_ref.ensures.value c.links_that_end-ending.result c.links_that_end-ending.ensures c.place.new.self c.place.ensures.ahead c.in_ok-own.ensures.ok in
    begun_within b c.args.steps.now c.drop_ended.new.steps c.drop_ended.ensures.visits

pub carry_heading-requires-clause-number : goal.carry_heading-requires-clause-number
carry_heading-requires-clause-number g c = number_now c.args.store.now c.args.item.now c.requires.commit c.args.number c.requires.number c.drop_ended.new.store (ahead_then c.args.store.now c.place.new.self c.drop_ended.new.store c.place.ensures.ahead c.drop_ended.ensures.ahead)

pub carry_heading-requires-clause-key : goal.carry_heading-requires-clause-key
carry_heading-requires-clause-key g c = key_now c.args.store.now c.args.item.now c.requires.commit c.args.number c.requires.number c.drop_ended.new.store (ahead_then c.args.store.now c.place.new.self c.drop_ended.new.store c.place.ensures.ahead c.drop_ended.ensures.ahead)

pub carry_heading-requires-clause-own : goal.carry_heading-requires-clause-own
carry_heading-requires-clause-own g c =
    let b = begun c.args.store.now c.args.item.now c.requires.commit c.args.number c.requires.number c.args.known.now _ c.requires.known c.as_ref.ensures.value c.links_that_end-ending.result c.links_that_end-ending.ensures c.place.new.self c.place.ensures.ahead c.in_ok-own.ensures.ok in
    dropped_own b c.drop_ended.new.store c.in_ok-drop_ended.ensures.ok

pub returns-in_err-carry_heading-clause-visits : goal.returns-in_err-carry_heading-clause-visits
returns-in_err-carry_heading-clause-visits g c =
    let b = begun c.args.store.now c.args.item.now c.requires.commit c.args.number c.requires.number c.args.known.now _ c.requires.known c.as_ref.ensures.value c.links_that_end-ending.result c.links_that_end-ending.ensures c.place.new.self c.place.ensures.ahead c.in_ok-own.ensures.ok in
    dropped_within b c.drop_ended.new.store c.in_ok-drop_ended.ensures.ok c.args.steps.now c.drop_ended.new.steps c.carry_heading.new.steps c.drop_ended.ensures.visits c.carry_heading.ensures.visits

pub settle_brought-requires-clause-number : goal.settle_brought-requires-clause-number
settle_brought-requires-clause-number g c = number_of_class c.args.store.now c.args.item.now c.requires.commit c.args.number c.requires.number c.carry_heading.new.store (ahead_three c.args.store.now c.place.new.self c.drop_ended.new.store c.carry_heading.new.store c.place.ensures.ahead c.drop_ended.ensures.ahead c.carry_heading.ensures.ahead)

pub settle_brought-requires-clause-key : goal.settle_brought-requires-clause-key
settle_brought-requires-clause-key g c = key_of_class c.args.store.now c.args.item.now c.requires.commit c.args.number c.requires.number c.carry_heading.new.store (ahead_three c.args.store.now c.place.new.self c.drop_ended.new.store c.carry_heading.new.store c.place.ensures.ahead c.drop_ended.ensures.ahead c.carry_heading.ensures.ahead)

pub settle_brought-requires-clause-came : goal.settle_brought-requires-clause-came
settle_brought-requires-clause-came g c =
    let b = begun c.args.store.now c.args.item.now c.requires.commit c.args.number c.requires.number c.args.known.now _ c.requires.known c.as_ref.ensures.value c.links_that_end-ending.result c.links_that_end-ending.ensures c.place.new.self c.place.ensures.ahead c.in_ok-own.ensures.ok in
    carried_brought b c.drop_ended.new.store c.in_ok-drop_ended.ensures.ok c.carry_heading.new.store c.in_ok-carry_heading.ensures.ok

pub returns-in_err-counts-clause-visits : goal.returns-in_err-counts-clause-visits
returns-in_err-counts-clause-visits g c =
    let b = begun c.args.store.now c.args.item.now c.requires.commit c.args.number c.requires.number c.args.known.now _ c.requires.known c.as_ref.ensures.value c.links_that_end-ending.result c.links_that_end-ending.ensures c.place.new.self c.place.ensures.ahead c.in_ok-own.ensures.ok in
    carried_within b c.drop_ended.new.store c.in_ok-drop_ended.ensures.ok c.carry_heading.new.store c.in_ok-carry_heading.ensures.ok c.args.steps.now c.drop_ended.new.steps c.carry_heading.new.steps c.settle_brought.new.steps c.drop_ended.ensures.visits c.carry_heading.ensures.visits c.settle_brought.ensures.visits

pub returns-in_err-forms-clause-ahead : goal.returns-in_err-forms-clause-ahead
returns-in_err-forms-clause-ahead g c = ahead_four c.args.store.now c.place.new.self c.drop_ended.new.store c.carry_heading.new.store c.settle_brought.new.store c.place.ensures.ahead c.drop_ended.ensures.ahead c.carry_heading.ensures.ahead c.settle_brought.ensures.ahead

pub returns-in_err-forms-clause-visits : goal.returns-in_err-forms-clause-visits
returns-in_err-forms-clause-visits g c =
    let b = begun c.args.store.now c.args.item.now c.requires.commit c.args.number c.requires.number c.args.known.now _ c.requires.known c.as_ref.ensures.value c.links_that_end-ending.result c.links_that_end-ending.ensures c.place.new.self c.place.ensures.ahead c.in_ok-own.ensures.ok in
    carried_within b c.drop_ended.new.store c.in_ok-drop_ended.ensures.ok c.carry_heading.new.store c.in_ok-carry_heading.ensures.ok c.args.steps.now c.drop_ended.new.steps c.carry_heading.new.steps c.settle_brought.new.steps c.drop_ended.ensures.visits c.carry_heading.ensures.visits c.settle_brought.ensures.visits

pub settle_touched-requires-clause-number : goal.settle_touched-requires-clause-number
settle_touched-requires-clause-number g c = number_now c.args.store.now c.args.item.now c.requires.commit c.args.number c.requires.number c.settle_brought.new.store (ahead_four c.args.store.now c.place.new.self c.drop_ended.new.store c.carry_heading.new.store c.settle_brought.new.store c.place.ensures.ahead c.drop_ended.ensures.ahead c.carry_heading.ensures.ahead c.settle_brought.ensures.ahead)

pub settle_touched-requires-clause-valid : goal.settle_touched-requires-clause-valid
settle_touched-requires-clause-valid g c = valid_now c.args.store.now c.args.item.now c.requires.commit c.args.number c.requires.number c.settle_brought.new.store (ahead_four c.args.store.now c.place.new.self c.drop_ended.new.store c.carry_heading.new.store c.settle_brought.new.store c.place.ensures.ahead c.drop_ended.ensures.ahead c.carry_heading.ensures.ahead c.settle_brought.ensures.ahead)

pub returns-in_err-settle_touched-clause-ahead : goal.returns-in_err-settle_touched-clause-ahead
returns-in_err-settle_touched-clause-ahead g c = ahead_five c.args.store.now c.place.new.self c.drop_ended.new.store c.carry_heading.new.store c.settle_brought.new.store c.settle_touched.new.store c.place.ensures.ahead c.drop_ended.ensures.ahead c.carry_heading.ensures.ahead c.settle_brought.ensures.ahead c.settle_touched.ensures.ahead

pub returns-in_err-settle_touched-clause-visits : goal.returns-in_err-settle_touched-clause-visits
returns-in_err-settle_touched-clause-visits g c =
    let b = begun c.args.store.now c.args.item.now c.requires.commit c.args.number c.requires.number c.args.known.now _ c.requires.known c.as_ref.ensures.value c.links_that_end-ending.result c.links_that_end-ending.ensures c.place.new.self c.place.ensures.ahead c.in_ok-own.ensures.ok in
    let same = forms_begun b c.known_forms.result.now c.known_forms.ensures c.deref.result.now (ap shown_forms c.deref.ensures.value ∙ c.in_ok-forms.ensures) in
    settled_within b c.drop_ended.new.store c.in_ok-drop_ended.ensures.ok c.carry_heading.new.store c.in_ok-carry_heading.ensures.ok c.settle_brought.new.store c.in_ok-counts.ensures.ok (shown_forms c.deref.result.now) same c.args.steps.now c.drop_ended.new.steps c.carry_heading.new.steps c.settle_brought.new.steps c.settle_touched.new.steps c.drop_ended.ensures.visits c.carry_heading.ensures.visits c.settle_brought.ensures.visits c.settle_touched.ensures.visits

pub returns-in_err-changed_records-clause-ahead : goal.returns-in_err-changed_records-clause-ahead
returns-in_err-changed_records-clause-ahead g c = ahead_five c.args.store.now c.place.new.self c.drop_ended.new.store c.carry_heading.new.store c.settle_brought.new.store c.settle_touched.new.store c.place.ensures.ahead c.drop_ended.ensures.ahead c.carry_heading.ensures.ahead c.settle_brought.ensures.ahead c.settle_touched.ensures.ahead

pub returns-in_err-changed_records-clause-visits : goal.returns-in_err-changed_records-clause-visits
returns-in_err-changed_records-clause-visits g c =
    let b = begun c.args.store.now c.args.item.now c.requires.commit c.args.number c.requires.number c.args.known.now _ c.requires.known c.as_ref.ensures.value c.links_that_end-ending.result c.links_that_end-ending.ensures c.place.new.self c.place.ensures.ahead c.in_ok-own.ensures.ok in
    let same = forms_begun b c.known_forms.result.now c.known_forms.ensures c.deref.result.now (ap shown_forms c.deref.ensures.value ∙ c.in_ok-forms.ensures) in
    settled_within b c.drop_ended.new.store c.in_ok-drop_ended.ensures.ok c.carry_heading.new.store c.in_ok-carry_heading.ensures.ok c.settle_brought.new.store c.in_ok-counts.ensures.ok (shown_forms c.deref.result.now) same c.args.steps.now c.drop_ended.new.steps c.carry_heading.new.steps c.settle_brought.new.steps c.settle_touched.new.steps c.drop_ended.ensures.visits c.carry_heading.ensures.visits c.settle_brought.ensures.visits c.settle_touched.ensures.visits

pub returns-clause-state : goal.returns-clause-state
returns-clause-state g c =
    let b = begun c.args.store.now c.args.item.now c.requires.commit c.args.number c.requires.number c.args.known.now _ c.requires.known c.as_ref.ensures.value c.links_that_end-ending.result c.links_that_end-ending.ensures c.place.new.self c.place.ensures.ahead c.in_ok-own.ensures.ok in
    let same = forms_begun b c.known_forms.result.now c.known_forms.ensures c.deref.result.now (ap shown_forms c.deref.ensures.value ∙ c.in_ok-forms.ensures) in
    settled_state b c.drop_ended.new.store c.in_ok-drop_ended.ensures.ok c.carry_heading.new.store c.in_ok-carry_heading.ensures.ok c.settle_brought.new.store c.in_ok-counts.ensures.ok (shown_forms c.deref.result.now) same c.settle_touched.new.store c.in_ok-settle_touched.ensures.ok

pub returns-clause-changes : goal.returns-clause-changes
returns-clause-changes g c =
    let b = begun c.args.store.now c.args.item.now c.requires.commit c.args.number c.requires.number c.args.known.now _ c.requires.known c.as_ref.ensures.value c.links_that_end-ending.result c.links_that_end-ending.ensures c.place.new.self c.place.ensures.ahead c.in_ok-own.ensures.ok in
    let same = forms_begun b c.known_forms.result.now c.known_forms.ensures c.deref.result.now (ap shown_forms c.deref.ensures.value ∙ c.in_ok-forms.ensures) in
    numbers_so c.args.store.now c.args.item.now c.requires.commit c.args.number c.requires.number c.place.new.self c.drop_ended.new.store c.carry_heading.new.store c.settle_brought.new.store c.settle_touched.new.store
    c.drop_ended.new.noted c.carry_heading.new.noted c.settle_touched.new.noted (shown_forms c.deref.result.now) c.links_that_end-ending.result c.in_ok-counts.counts c.in_ok-changed_records.changed_records
    b.placed (dropped b c.drop_ended.new.store c.in_ok-drop_ended.ensures.ok) (carried b c.drop_ended.new.store c.in_ok-drop_ended.ensures.ok c.carry_heading.new.store c.in_ok-carry_heading.ensures.ok) (settled b c.drop_ended.new.store c.in_ok-drop_ended.ensures.ok c.carry_heading.new.store c.in_ok-carry_heading.ensures.ok c.settle_brought.new.store c.in_ok-counts.ensures.ok) c.drop_ended.ensures.ahead c.carry_heading.ensures.ahead c.settle_brought.ensures.ahead c.settle_touched.ensures.ahead b.ends same
    (subst (λ (seats : List Seat). NotesChanges (drop_of c.links_that_end-ending.result c.args.item.now (linkable_authorities c.place.new.self.state)) c.place.new.self seats c.drop_ended.new.noted) c.requires.none c.in_ok-drop_ended.ensures.noted)
    c.in_ok-carry_heading.ensures.noted c.in_ok-settle_touched.ensures.noted c.in_ok-changed_records.ensures c.each_key_has_one_number.ensures c.each_record_has_a_number.ensures c.in_ok-counts.ensures.counts

pub returns-clause-ahead : goal.returns-clause-ahead
returns-clause-ahead g c = ahead_five c.args.store.now c.place.new.self c.drop_ended.new.store c.carry_heading.new.store c.settle_brought.new.store c.settle_touched.new.store c.place.ensures.ahead c.drop_ended.ensures.ahead c.carry_heading.ensures.ahead c.settle_brought.ensures.ahead c.settle_touched.ensures.ahead

pub returns-clause-visits : goal.returns-clause-visits
returns-clause-visits g c =
    let b = begun c.args.store.now c.args.item.now c.requires.commit c.args.number c.requires.number c.args.known.now _ c.requires.known c.as_ref.ensures.value c.links_that_end-ending.result c.links_that_end-ending.ensures c.place.new.self c.place.ensures.ahead c.in_ok-own.ensures.ok in
    let same = forms_begun b c.known_forms.result.now c.known_forms.ensures c.deref.result.now (ap shown_forms c.deref.ensures.value ∙ c.in_ok-forms.ensures) in
    settled_within b c.drop_ended.new.store c.in_ok-drop_ended.ensures.ok c.carry_heading.new.store c.in_ok-carry_heading.ensures.ok c.settle_brought.new.store c.in_ok-counts.ensures.ok (shown_forms c.deref.result.now) same c.args.steps.now c.drop_ended.new.steps c.carry_heading.new.steps c.settle_brought.new.steps c.settle_touched.new.steps c.drop_ended.ensures.visits c.carry_heading.ensures.visits c.settle_brought.ensures.visits c.settle_touched.ensures.visits
