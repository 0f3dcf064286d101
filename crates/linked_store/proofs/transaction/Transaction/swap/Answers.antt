use Rattle.std.proofs.Common.{refl}
use Rattle.std.proofs.lemmas.Result.{on_ok_weaker}
use Rattle.catalogue_rules.specs.State.{kept_field}
use Rattle.numbered_store.specs.Kept.{kept_record}
use Rattle.linked_store.proofs.Noted.{goes_none}
use Rattle.linked_store.proofs.Swapping.{field_swapped, number_low, place_low, record_found, stands_there, stays_fit, stays_valid}
use Rattle.linked_store.proofs.transaction.Transaction.swap.Goals as goal

pub unwrap-kept-requires : goal.unwrap-kept-requires
unwrap-kept-requires c = record_found c.look.result _ c.args.seat.field c.look.ensures c.requires.stands

pub with_field-requires-clause-within : goal.with_field-requires-clause-within
with_field-requires-clause-within c =
    place_low c.args.seat c.args.self.now.store _ (stands_there c.look.result c.unwrap-kept.result _ c.unwrap-kept.ensures c.look.ensures) c.requires.stands

pub with_field-requires-clause-valid : goal.with_field-requires-clause-valid
with_field-requires-clause-valid c =
    let stands = stands_there c.look.result c.unwrap-kept.result _ c.unwrap-kept.ensures c.look.ensures in
    stays_valid c.args.seat c.args.self.now.store _ stands c.args.field.now c.requires.suits (place_low c.args.seat c.args.self.now.store _ stands c.requires.stands)

pub with_field-requires-clause-fit : goal.with_field-requires-clause-fit
with_field-requires-clause-fit c =
    let stands = stands_there c.look.result c.unwrap-kept.result _ c.unwrap-kept.ensures c.look.ensures in
    stays_fit c.args.seat c.args.self.now.store _ stands c.args.field.now c.requires.suits (place_low c.args.seat c.args.self.now.store _ stands c.requires.stands)

pub exchange-requires : goal.exchange-requires
exchange-requires c = number_low c.args.seat c.args.self.now.store c.requires.stands

pub returns-in_err-kept-clause-goes : goal.returns-in_err-kept-clause-goes
returns-in_err-kept-clause-goes c = goes_none c.args.self.now _ refl refl refl

pub returns-clause-now : goal.returns-clause-now
returns-clause-now c =
    let stands = stands_there c.look.result c.unwrap-kept.result _ c.unwrap-kept.ensures c.look.ensures in
    on_ok_weaker c.exchange.result
    (field_swapped c.args.self.now c.exchange.new.self c.args.seat (kept_field c.args.field.now c.args.tie) (kept_record c.unwrap-kept.result.now) _ c.in_ok-kept.ensures
    (c.a_field_changes_with_its_record.ensures c.args.seat (kept_field c.args.field.now c.args.tie) (kept_record c.unwrap-kept.result.now) stands))
    c.exchange.ensures.now
