use Rattle.std.proofs.Common.{subst, sym}
use Rattle.catalogue_rules.specs.State.{kept_field}
use Rattle.catalogue_tables.specs.Seam.{HasKey}
use Rattle.linked_store.specs.Transactions.{contents}
use Rattle.linked_store.specs.Linked.{Linked, SuitsSeat}
use Rattle.linked_store.proofs.Fielded.{can_on, left_turned, left_undone, stands_number, suits_number}
use Rattle.linked_store.proofs.Holding.{as_told}
use Rattle.linked_store.proofs.store.LinkedStore.relink_field.Goals as goal

pub relink_field-requires-clause-stands : goal.relink_field-requires-clause-stands
relink_field-requires-clause-stands c =
    stands_number c.args.seat (kept_field c.args.field c.args.tie) c.self.inside.transaction c.self.inside.marked
    (subst (λ (x : Linked). SuitsSeat c.args.seat (kept_field c.args.field c.args.tie) x) (sym c.self.view_is) c.requires.suits)

pub relink_field-requires-clause-suits : goal.relink_field-requires-clause-suits
relink_field-requires-clause-suits c =
    suits_number c.args.seat (kept_field c.args.field c.args.tie) c.self.inside.transaction c.self.inside.marked
    (subst (λ (x : Linked). SuitsSeat c.args.seat (kept_field c.args.field c.args.tie) x) (sym c.self.view_is) c.requires.suits)

pub relink_field-requires-clause-told : goal.relink_field-requires-clause-told
relink_field-requires-clause-told c =
    as_told c.self.inside.transaction.tables (contents c.self.inside.transaction) c.self.invariant.distinct c.each_form_has_one_number.ensures c.self.invariant.now c.args.seat
    (subst (λ (x : Linked). HasKey x.keys c.args.seat) (sym c.self.view_is) c.requires.suits.known)

pub go_back-requires-clause-can : goal.go_back-requires-clause-can
go_back-requires-clause-can c = can_on c.self.inside.transaction c.relink_field.new.self c.relink_field.ensures.goes c.self.invariant.can

pub invariant_of-self : goal.invariant_of-self
invariant_of-self c = (left_undone c.self.inside.transaction c.self.inside.marked c.args.self.now c.self.view_is c.self.invariant c.relink_field.new.self c.go_back.new.transaction c.len-position.result c.len-position.ensures c.relink_field.ensures.goes c.go_back.ensures).sound

pub returns-in-Err-clause-ahead : goal.returns-in-Err-clause-ahead
returns-in-Err-clause-ahead c = (left_undone c.self.inside.transaction c.self.inside.marked c.args.self.now c.self.view_is c.self.invariant c.relink_field.new.self c.go_back.new.transaction c.len-position.result c.len-position.ensures c.relink_field.ensures.goes c.go_back.ensures).ahead

pub returns-in-Err-clause-err : goal.returns-in-Err-clause-err
returns-in-Err-clause-err c = (left_undone c.self.inside.transaction c.self.inside.marked c.args.self.now c.self.view_is c.self.invariant c.relink_field.new.self c.go_back.new.transaction c.len-position.result c.len-position.ensures c.relink_field.ensures.goes c.go_back.ensures).state_is

pub invariant_of-self-in_default : goal.invariant_of-self-in_default
invariant_of-self-in_default c = (left_turned c.self.inside.transaction c.self.inside.marked c.args.self.now c.self.view_is c.self.invariant c.args.seat (kept_field c.args.field c.args.tie) c.args.link c.args.row c.relink_field.new.self c.requires.suits c.requires.link c.requires.row c.relink_field.ensures.goes c.in_default.ensures.now).sound

pub returns-clause-ok : goal.returns-clause-ok
returns-clause-ok c = (left_turned c.self.inside.transaction c.self.inside.marked c.args.self.now c.self.view_is c.self.invariant c.args.seat (kept_field c.args.field c.args.tie) c.args.link c.args.row c.relink_field.new.self c.requires.suits c.requires.link c.requires.row c.relink_field.ensures.goes c.in_default.ensures.now).state_is

pub returns-clause-ahead : goal.returns-clause-ahead
returns-clause-ahead c = (left_turned c.self.inside.transaction c.self.inside.marked c.args.self.now c.self.view_is c.self.invariant c.args.seat (kept_field c.args.field c.args.tie) c.args.link c.args.row c.relink_field.new.self c.requires.suits c.requires.link c.requires.row c.relink_field.ensures.goes c.in_default.ensures.now).ahead
