use Rattle.std.proofs.Common.{◌≡◌, ◌∙◌, sym, ap, subst, Some, None}
use Rattle.std.specs.Option.{option_map}
use Rattle.form_index.specs.Index.{ListingInOrder, TakesOut, row_under, rows_in, slot_at, taken}
use Rattle.numbering.specs.Pages.{is_there}
use Rattle.form_index.proofs.Indexing.{none_taken, row_there, rows_same, shown, slots_at, take_stands, take_takes}
use Rattle.form_index.proofs.index.FormIndex.take.Goals as goal

pub step-requires-clause-ordered : goal.step-requires-clause-ordered
step-requires-clause-ordered c = subst (λ x. ListingInOrder c.args.keys.now x.lists) (sym c.self.view_is) c.requires.ordered

pub returns-in_default-clause-row : goal.returns-in_default-clause-row
returns-in_default-clause-row c =
    let free : slot_at (rows_in c.self.inside.rows) c.args.number ≡ None = sym c.empty_slot.ensures.row ∙ c.in_default.is in
    let found : slot_at (rows_in c.self.inside.rows) c.args.number ≡ row_under c.args.number c.args.self.now = sym (slots_at (rows_in c.self.inside.rows) c.args.number) ∙ ap (row_under c.args.number) c.self.view_is in
    ap (option_map (taken c.args.number)) (sym free ∙ found)

pub returns-in_default-clause-none : goal.returns-in_default-clause-none
returns-in_default-clause-none c =
    let free : slot_at (rows_in c.self.inside.rows) c.args.number ≡ None = sym c.empty_slot.ensures.row ∙ c.in_default.is in
    let rows = rows_same (rows_in c.self.inside.rows) (rows_in c.empty_slot.new.rows) (none_taken c.args.number (rows_in c.self.inside.rows) (rows_in c.empty_slot.new.rows) free c.empty_slot.ensures.slots) in
    (λ i. record { rows = rows i; lists = c.self.inside.lists }) ∙ c.self.view_is

pub returns-in_default-clause-ordered : goal.returns-in_default-clause-ordered
returns-in_default-clause-ordered c = subst (λ x. ListingInOrder c.args.keys.now x.lists) (sym c.self.view_is) c.requires.ordered

pub invariant_of-self-2 : goal.invariant_of-self-2
invariant_of-self-2 c =
    let at : slot_at (rows_in c.self.inside.rows) c.args.number ≡ Some c.in-Some.forms = sym c.empty_slot.ensures.row ∙ c.in-Some.is in
    let ordered = subst (λ x. ListingInOrder c.args.keys.now x.lists) (sym c.self.view_is) c.requires.ordered in
    take_stands c.args.keys.now c.args.number c.in-Some.forms (rows_in c.self.inside.rows) (rows_in c.empty_slot.new.rows) (is_there c.self.inside.rows) (is_there c.empty_slot.new.rows) c.self.inside.lists c.step.new.self c.self.invariant at
    c.empty_slot.ensures.slots ordered c.step.ensures.stepped
    (c.empty_slot.ensures.stays c.args.number (row_there c.self.inside.rows c.args.number c.in-Some.forms at)) c.empty_slot.ensures.stays

pub returns-clause-row : goal.returns-clause-row
returns-clause-row c =
    let at : slot_at (rows_in c.self.inside.rows) c.args.number ≡ Some c.in-Some.forms = sym c.empty_slot.ensures.row ∙ c.in-Some.is in
    let found : slot_at (rows_in c.self.inside.rows) c.args.number ≡ row_under c.args.number c.args.self.now = sym (slots_at (rows_in c.self.inside.rows) c.args.number) ∙ ap (row_under c.args.number) c.self.view_is in
    ap (option_map (taken c.args.number)) (sym at ∙ found)

pub returns-clause-some : goal.returns-clause-some
returns-clause-some c =
    let at : slot_at (rows_in c.self.inside.rows) c.args.number ≡ Some c.in-Some.forms = sym c.empty_slot.ensures.row ∙ c.in-Some.is in
    let ordered = subst (λ x. ListingInOrder c.args.keys.now x.lists) (sym c.self.view_is) c.requires.ordered in
    subst (λ x. TakesOut c.args.keys.now (taken c.args.number c.in-Some.forms) x (shown (rows_in c.empty_slot.new.rows) c.step.new.self)) c.self.view_is
    (take_takes c.args.keys.now c.args.number c.in-Some.forms (rows_in c.self.inside.rows) (rows_in c.empty_slot.new.rows) (is_there c.self.inside.rows) (is_there c.empty_slot.new.rows) c.self.inside.lists c.step.new.self c.self.invariant at
    c.empty_slot.ensures.slots ordered c.step.ensures.stepped)
