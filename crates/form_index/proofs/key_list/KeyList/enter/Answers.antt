use Rattle.std.proofs.Common.{◌≡◌, ◌==◌, ◌∙◌, sym, ap, subst, position, None, drop, take, slice_get}
use Rattle.form_index.specs.Listed.{entered}
use Rattle.form_index.proofs.Moved.{entered_none, entered_there, goes_in, goes_in_ascends}
use Rattle.form_index.proofs.key_list.KeyList.enter.Goals as goal

pub returns-in_default-clause-entered : goal.returns-in_default-clause-entered
returns-in_default-clause-entered c =
    let absent : position (λ m. m == c.args.number) (drop c.self.inside.live c.self.inside.numbers.items) ≡ None =
    ap (λ l. position (λ m. m == c.args.number) l.held) c.self.view_is ∙ ap (position (λ m. m == c.args.number)) (sym c.held.ensures) ∙ sym c.place_of.ensures ∙ c.in_default.is in
    subst (λ l. l ≡ entered c.args.keys.now c.args.number l) c.self.view_is
    (entered_none c.self.inside.numbers.items c.self.inside.live c.self.invariant c.args.number c.args.keys.now absent)

pub returns-in-Err-clause-entered : goal.returns-in-Err-clause-entered
returns-in-Err-clause-entered c =
    goes_in c.self.inside.numbers.items c.self.inside.live c.self.invariant c.args.number c.args.keys.now c.args.self.now c.self.view_is c.live.result.now c.live.ensures
    c.held.result.now c.held.ensures c.in-Some.from c.in-Err.to c.move_number.new.numbers.items (sym c.place_of.ensures ∙ c.in-Some.is) c.in-Err.ensures.bound c.in-Err.ensures.absent c.move_number.ensures

pub returns-in-Err-clause-ascends : goal.returns-in-Err-clause-ascends
returns-in-Err-clause-ascends c =
    goes_in_ascends c.self.inside.numbers.items c.self.inside.live c.self.invariant c.args.number c.args.keys.now c.args.self.now c.self.view_is c.live.result.now c.live.ensures
    c.held.result.now c.held.ensures c.in-Some.from c.in-Err.to c.move_number.new.numbers.items (sym c.place_of.ensures ∙ c.in-Some.is) c.in-Err.ensures.bound c.in-Err.ensures.absent c.move_number.ensures c.requires.known c.requires.ascends

pub returns-in_default-search-clause-entered : goal.returns-in_default-search-clause-entered
returns-in_default-search-clause-entered c =
    let live : c.live.result.now ≡ take c.self.inside.live c.self.inside.numbers.items = c.live.ensures ∙ ap (λ l. l.live) (sym c.self.view_is) in
    subst (λ l. l ≡ entered c.args.keys.now c.args.number l) c.self.view_is
    (entered_there c.self.inside.numbers.items c.self.inside.live c.self.invariant c.args.number c.args.keys.now c.in_default-search.field-0
    (ap (λ l. slice_get l c.in_default-search.field-0) (sym live) ∙ c.in_default-search.ensures.found))
