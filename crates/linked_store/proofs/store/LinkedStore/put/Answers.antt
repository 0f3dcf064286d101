use Rattle.std.proofs.Common.{subst, sym}
use Rattle.marc_types.specs.declared.key.Class.{Class}
use Rattle.marc_types.specs.declared.key.Key.{Key}
use Rattle.marc_types.specs.Order.{same_key}
use Rattle.numbering.specs.Numbers.{IsNumberOf}
use Rattle.catalogue_tables.specs.Seam.{keys_in}
use Rattle.linking_laws.specs.Partway.{HasAtMost}
use Rattle.numbered_store.proofs.Shelving.{low_number}
use Rattle.linked_store.specs.Transactions.{contents}
use Rattle.linked_store.specs.Linked.{IsNumber, Linked, key_of}
use Rattle.linked_store.specs.Sound.{keys_of}
use Rattle.linked_store.proofs.Brought.{number_key}
use Rattle.linked_store.proofs.Fielded.{can_on, left_undone}
use Rattle.linked_store.proofs.Fieldless.{free_behind}
use Rattle.linked_store.proofs.Holding.{all_told}
use Rattle.linked_store.proofs.Placed.{known_by_number, left_placed}
use Rattle.linked_store.proofs.store.LinkedStore.put.Goals as goal

pub place-requires-clause-known : goal.place-requires-clause-known
place-requires-clause-known c =
    known_by_number c.args.item.now.class c.self.inside.transaction.store c.args.item.now.key c.args.number
    (subst (λ (x : Linked). IsNumberOf same_key (keys_in c.args.item.now.class x.keys) c.args.item.now.key c.args.number) (sym c.self.view_is) c.requires.number)

pub place-requires-clause-ordered : goal.place-requires-clause-ordered
place-requires-clause-ordered c = c.self.invariant.now.told.ordered

pub fields_under-fields-requires : goal.fields_under-fields-requires
fields_under-fields-requires c =
    subst (λ (k : Class). IsNumber k c.args.number c.args.self.now.keys) (sym c.class.ensures)
    (low_number (keys_in c.args.item.now.class c.args.self.now.keys) c.args.item.now.key c.args.number c.requires.number)

pub place-requires-clause-free : goal.place-requires-clause-free
place-requires-clause-free c =
    let class = c.args.item.now.class in
    let of : IsNumberOf same_key (keys_in class c.args.self.now.keys) c.args.item.now.key c.args.number = c.requires.number in
    let most : HasAtMost class c.args.item.now.key c.fields_under-fields.result c.args.self.now.state =
    subst (λ (k : Key). HasAtMost class k c.fields_under-fields.result c.args.self.now.state) (number_key (keys_in class c.args.self.now.keys) c.args.item.now.key c.args.number of)
    (subst (λ (k : Class). HasAtMost k (key_of k c.args.number c.args.self.now.keys) c.fields_under-fields.result c.args.self.now.state) c.class.ensures
    c.fields_under-fields.ensures) in
    free_behind c.self.inside.transaction.tables (contents c.self.inside.transaction) class c.args.item.now.key c.args.number c.fields_under-fields.result c.self.invariant.distinct
    c.each_form_has_one_number.ensures c.self.invariant.now
    (subst (λ (x : Linked). IsNumberOf same_key (keys_in class x.keys) c.args.item.now.key c.args.number) (sym c.self.view_is) of)
    (subst (λ (x : Linked). HasAtMost class c.args.item.now.key c.fields_under-fields.result x.state) (sym c.self.view_is) most)

pub place-requires-clause-told : goal.place-requires-clause-told
place-requires-clause-told c =
    let class = c.args.item.now.class in
    all_told c.self.inside.transaction.tables (contents c.self.inside.transaction) class c.args.number c.self.invariant.distinct c.each_form_has_one_number.ensures c.self.invariant.now
    (low_number (keys_in class (keys_of (contents c.self.inside.transaction))) c.args.item.now.key c.args.number
    (subst (λ (x : Linked). IsNumberOf same_key (keys_in class x.keys) c.args.item.now.key c.args.number) (sym c.self.view_is) c.requires.number))

pub place-requires-clause-apart : goal.place-requires-clause-apart
place-requires-clause-apart c = c.requires.rows.apart

pub go_back-requires-clause-can : goal.go_back-requires-clause-can
go_back-requires-clause-can c = can_on c.self.inside.transaction c.place.new.self c.place.ensures.goes c.self.invariant.can

pub invariant_of-self : goal.invariant_of-self
invariant_of-self c = (left_undone c.self.inside.transaction c.self.inside.marked c.args.self.now c.self.view_is c.self.invariant c.place.new.self c.go_back.new.transaction c.len-position.result c.len-position.ensures c.place.ensures.goes c.go_back.ensures).sound

pub returns-in-Err-clause-ahead : goal.returns-in-Err-clause-ahead
returns-in-Err-clause-ahead c = (left_undone c.self.inside.transaction c.self.inside.marked c.args.self.now c.self.view_is c.self.invariant c.place.new.self c.go_back.new.transaction c.len-position.result c.len-position.ensures c.place.ensures.goes c.go_back.ensures).ahead

pub returns-in-Err-clause-err : goal.returns-in-Err-clause-err
returns-in-Err-clause-err c = (left_undone c.self.inside.transaction c.self.inside.marked c.args.self.now c.self.view_is c.self.invariant c.place.new.self c.go_back.new.transaction c.len-position.result c.len-position.ensures c.place.ensures.goes c.go_back.ensures).state_is

pub invariant_of-self-in_default : goal.invariant_of-self-in_default
invariant_of-self-in_default c = (left_placed c.self.inside.transaction c.place.new.self c.self.inside.marked c.args.self.now c.self.view_is c.self.invariant c.args.number c.args.item.now c.args.rows.items c.requires.number c.requires.rows c.in_default.ensures.now c.place.ensures.goes).sound

pub returns-clause-ok : goal.returns-clause-ok
returns-clause-ok c = (left_placed c.self.inside.transaction c.place.new.self c.self.inside.marked c.args.self.now c.self.view_is c.self.invariant c.args.number c.args.item.now c.args.rows.items c.requires.number c.requires.rows c.in_default.ensures.now c.place.ensures.goes).state_is

pub returns-clause-ahead : goal.returns-clause-ahead
returns-clause-ahead c = (left_placed c.self.inside.transaction c.place.new.self c.self.inside.marked c.args.self.now c.self.view_is c.self.invariant c.args.number c.args.item.now c.args.rows.items c.requires.number c.requires.rows c.in_default.ensures.now c.place.ensures.goes).ahead
