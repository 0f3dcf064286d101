use Rattle.std.proofs.Common.{◌≡◌, ◌==◌, ◌∙◌, sym, ap, subst, Some, None}
use Rattle.std.specs.Prelude.{if◌then◌else◌}
use Rattle.form_index.specs.Index.{ListingInOrder, Puts, row_under, rows_in, slot_at, taken}
use Rattle.numbering.specs.Pages.{is_there}
use Rattle.form_index.specs.Stands.{Stands}
use Rattle.form_index.proofs.Indexing.{hold_fits, hold_held, hold_ordered, hold_slots, on_err, put_puts, reached_stands, rows_same, same_slots, enter_stands, shown, slots_at}
use Rattle.form_index.proofs.index.FormIndex.put.Goals as goal

pub invariant_of-self : goal.invariant_of-self
invariant_of-self c =
    reached_stands (rows_in c.self.inside.rows) (rows_in c.reach.new.self) (is_there c.self.inside.rows) (is_there c.reach.new.self) c.self.inside.lists c.self.invariant
    (same_slots c.self.inside.rows c.reach.new.self c.reach.ensures.same) c.reach.ensures.stays

pub invariant_of-self-in_err-hold : goal.invariant_of-self-in_err-hold
invariant_of-self-in_err-hold c =
    subst (Stands (rows_in c.reach.new.self) (is_there c.reach.new.self)) (sym c.in_err-hold.ensures.err)
    (reached_stands (rows_in c.self.inside.rows) (rows_in c.reach.new.self) (is_there c.self.inside.rows) (is_there c.reach.new.self) c.self.inside.lists c.self.invariant
    (same_slots c.self.inside.rows c.reach.new.self c.reach.ensures.same) c.reach.ensures.stays)

pub returns-in_err-reach-clause-ordered : goal.returns-in_err-reach-clause-ordered
returns-in_err-reach-clause-ordered c = subst (λ x. ListingInOrder c.args.keys.now x.lists) (sym c.self.view_is) c.requires.ordered

pub returns-in_err-reach-clause-err : goal.returns-in_err-reach-clause-err
returns-in_err-reach-clause-err c =
    let rows = rows_same (rows_in c.self.inside.rows) (rows_in c.reach.new.self) (same_slots c.self.inside.rows c.reach.new.self c.reach.ensures.same) in
    on_err c.from_residual.result ((λ i. record { rows = rows i; lists = c.self.inside.lists }) ∙ c.self.view_is)

pub returns-in_err-hold-clause-ordered : goal.returns-in_err-hold-clause-ordered
returns-in_err-hold-clause-ordered c =
    subst (ListingInOrder c.args.keys.now) (sym c.in_err-hold.ensures.err) (subst (λ x. ListingInOrder c.args.keys.now x.lists) (sym c.self.view_is) c.requires.ordered)

pub returns-in_err-hold-clause-err : goal.returns-in_err-hold-clause-err
returns-in_err-hold-clause-err c =
    let rows = rows_same (rows_in c.self.inside.rows) (rows_in c.reach.new.self) (same_slots c.self.inside.rows c.reach.new.self c.reach.ensures.same) in
    on_err c.from_residual-in_err-hold.result ((λ i. record { rows = rows i; lists = c.in_err-hold.ensures.err i }) ∙ c.self.view_is)

pub step-requires-clause-ordered : goal.step-requires-clause-ordered
step-requires-clause-ordered c =
    hold_ordered c.args.number c.args.forms (rows_in c.self.inside.rows) (is_there c.self.inside.rows) c.self.inside.lists c.hold.new.self c.self.invariant c.args.keys.now
    (subst (λ x. ListingInOrder c.args.keys.now x.lists) (sym c.self.view_is) c.requires.ordered) c.in_ok-hold.ensures.ok

pub invariant_of-self-2 : goal.invariant_of-self-2
invariant_of-self-2 c =
    let free : slot_at (rows_in c.self.inside.rows) c.args.number ≡ None =
    sym (slots_at (rows_in c.self.inside.rows) c.args.number) ∙ ap (row_under c.args.number) c.self.view_is ∙ c.requires.free in
    let same = same_slots c.self.inside.rows c.reach.new.self c.reach.ensures.same in
    enter_stands c.args.keys.now c.args.number c.args.forms (rows_in c.reach.new.self) (rows_in c.set_slot.new.rows) c.hold.new.self c.step.new.self
    (hold_fits c.args.number c.args.forms (rows_in c.self.inside.rows) (is_there c.self.inside.rows) c.self.inside.lists c.hold.new.self c.self.invariant (rows_in c.reach.new.self) same c.in_ok-hold.ensures.ok)
    (same c.args.number ∙ free) c.set_slot.ensures.slots c.step.ensures.stepped
    (hold_held c.args.number c.args.forms (rows_in c.self.inside.rows) (is_there c.self.inside.rows) c.self.inside.lists c.hold.new.self c.self.invariant c.in_ok-hold.ensures.ok)
    (is_there c.reach.new.self) (is_there c.set_slot.new.rows) c.in_ok-hold.ensures.short
    (hold_slots c.args.number c.args.forms (rows_in c.self.inside.rows) (is_there c.self.inside.rows) c.self.inside.lists c.hold.new.self c.self.invariant (is_there c.reach.new.self)
    c.in_ok-reach.ensures.there c.reach.ensures.stays c.in_ok-hold.ensures.ok)
    (c.set_slot.ensures.stays c.args.number c.in_ok-reach.ensures.there) c.set_slot.ensures.stays

pub returns-clause-ok : goal.returns-clause-ok
returns-clause-ok c =
    let free : slot_at (rows_in c.self.inside.rows) c.args.number ≡ None =
    sym (slots_at (rows_in c.self.inside.rows) c.args.number) ∙ ap (row_under c.args.number) c.self.view_is ∙ c.requires.free in
    subst (λ x. Puts (taken c.args.number c.args.forms) x (shown (rows_in c.set_slot.new.rows) c.step.new.self)) c.self.view_is
    (put_puts c.args.keys.now c.args.number c.args.forms (rows_in c.self.inside.rows) (rows_in c.set_slot.new.rows) (is_there c.self.inside.rows) c.self.inside.lists c.hold.new.self c.step.new.self c.self.invariant free
    (λ m. c.set_slot.ensures.slots m ∙ ap (λ z. if m == c.args.number then Some c.args.forms else z) (same_slots c.self.inside.rows c.reach.new.self c.reach.ensures.same m)) c.in_ok-hold.ensures.ok c.step.ensures.stepped c.in_ok-hold.ensures.short)
