use Rattle.std.proofs.Common.{◌≡◌, ◌∙◌, sym, ap, subst, None}
use Rattle.std.specs.Prelude.{true}
use Rattle.form_index.specs.Index.{IsHeld, ListingInOrder, PutsBack, Taken, row_under, rows_in, slot_at, taken}
use Rattle.numbering.specs.Pages.{is_there}
use Rattle.form_index.proofs.Indexing.{held_slot, enter_puts_back, enter_stands, shown, slots_at}
use Rattle.form_index.proofs.index.FormIndex.put_back.Goals as goal

pub step-requires-clause-ordered : goal.step-requires-clause-ordered
step-requires-clause-ordered c = subst (λ x. ListingInOrder c.args.keys.now x.lists) (sym c.self.view_is) c.requires.ordered

pub set_slot-requires : goal.set_slot-requires
set_slot-requires c =
    let held : IsHeld (taken c.row.inside.number c.row.inside.forms) (shown (rows_in c.self.inside.rows) c.self.inside.lists) =
    subst (IsHeld (taken c.row.inside.number c.row.inside.forms)) (sym c.self.view_is) (subst (λ r. IsHeld r c.args.self.now) (sym c.row.view_is) c.requires.held) in
    held_slot c.row.inside.number c.row.inside.forms (rows_in c.self.inside.rows) (is_there c.self.inside.rows) c.self.inside.lists c.self.invariant held

pub invariant_of-self : goal.invariant_of-self
invariant_of-self c =
    let held : IsHeld (taken c.row.inside.number c.row.inside.forms) (shown (rows_in c.self.inside.rows) c.self.inside.lists) =
    subst (IsHeld (taken c.row.inside.number c.row.inside.forms)) (sym c.self.view_is) (subst (λ r. IsHeld r c.args.self.now) (sym c.row.view_is) c.requires.held) in
    let free : slot_at (rows_in c.self.inside.rows) c.row.inside.number ≡ None =
    sym (slots_at (rows_in c.self.inside.rows) c.row.inside.number) ∙ ap (row_under c.row.inside.number) c.self.view_is ∙ ap (λ (r : Taken). row_under r.number c.args.self.now) c.row.view_is ∙ c.requires.free in
    let low : is_there c.self.inside.rows c.row.inside.number ≡ true = held_slot c.row.inside.number c.row.inside.forms (rows_in c.self.inside.rows) (is_there c.self.inside.rows) c.self.inside.lists c.self.invariant held in
    enter_stands c.args.keys.now c.row.inside.number c.row.inside.forms (rows_in c.self.inside.rows) (rows_in c.set_slot.new.rows) c.self.inside.lists c.step.new.self c.self.invariant.fits free
    c.set_slot.ensures.slots c.step.ensures.stepped held (is_there c.self.inside.rows) (is_there c.set_slot.new.rows) c.self.invariant.short c.self.invariant.slots
    (c.set_slot.ensures.stays c.row.inside.number low) c.set_slot.ensures.stays

pub returns-clause-back : goal.returns-clause-back
returns-clause-back c =
    let held : IsHeld (taken c.row.inside.number c.row.inside.forms) (shown (rows_in c.self.inside.rows) c.self.inside.lists) =
    subst (IsHeld (taken c.row.inside.number c.row.inside.forms)) (sym c.self.view_is) (subst (λ r. IsHeld r c.args.self.now) (sym c.row.view_is) c.requires.held) in
    let free : slot_at (rows_in c.self.inside.rows) c.row.inside.number ≡ None =
    sym (slots_at (rows_in c.self.inside.rows) c.row.inside.number) ∙ ap (row_under c.row.inside.number) c.self.view_is ∙ ap (λ (r : Taken). row_under r.number c.args.self.now) c.row.view_is ∙ c.requires.free in
    subst (λ x. PutsBack c.args.keys.now c.args.row x (shown (rows_in c.set_slot.new.rows) c.step.new.self)) c.self.view_is
    (subst (λ r. PutsBack c.args.keys.now r (shown (rows_in c.self.inside.rows) c.self.inside.lists) (shown (rows_in c.set_slot.new.rows) c.step.new.self)) c.row.view_is
    (enter_puts_back c.args.keys.now c.row.inside.number c.row.inside.forms (rows_in c.self.inside.rows) (rows_in c.set_slot.new.rows) c.self.inside.lists c.step.new.self c.self.invariant.fits free
    c.set_slot.ensures.slots c.step.ensures.stepped held))
