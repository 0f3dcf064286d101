use Rattle.std.proofs.Common.{subst, sym}
use Rattle.catalogue_rules.specs.Valid.{IsValid}
use Rattle.kept_rows.specs.Rows.{state_of_rows}
use Rattle.restoring.proofs.Sounding.{fed_in_order, stands_so, unfit_for_memory, unresting}
use Rattle.restoring.proofs.engine.of_sound.Goals as goal

pub each_field_rests-requires-clause-ordered : goal.each_field_rests-requires-clause-ordered
each_field_rests-requires-clause-ordered c =
    fed_in_order c.args.rows.items c.in_ok-store.store.state c.in_ok-store.ensures (λ class. c.rows_in_order_ascend.ensures class c.args.rows.items c.requires.ordered)
    c.requires.sound

pub returns-in_err-each_field_rests-clause-unfit : goal.returns-in_err-each_field_rests-clause-unfit
returns-in_err-each_field_rests-clause-unfit c =
    unfit_for_memory (state_of_rows c.args.rows.items) c.from_residual-in_err-each_field_rests.result c.from_residual-in_err-each_field_rests.ensures.1

pub returns-then-not-branch-clause-unfit : goal.returns-then-not-branch-clause-unfit
returns-then-not-branch-clause-unfit c =
    unresting c.args.rows.items c.in_ok-store.store.state c.in_ok-store.ensures c.in_ok-each_field_rests.field-0 c.if-not-branch.true c.in_ok-each_field_rests.ensures
    (c.a_state_stands_where_its_rows_are_sound.ensures (state_of_rows c.args.rows.items)).0

pub from_store-requires : goal.from_store-requires
from_store-requires c =
    subst IsValid (sym c.in_ok-store.ensures)
    (stands_so c.args.rows.items c.in_ok-store.store.state c.in_ok-store.ensures (λ class. c.rows_in_order_ascend.ensures class c.args.rows.items c.requires.ordered)
    c.requires.sound (c.in_ok-each_field_rests.ensures.0 c.if-not-branch.false)
    (c.a_state_stands_where_its_rows_are_sound.ensures (state_of_rows c.args.rows.items)).1).valid

pub returns-clause-standing : goal.returns-clause-standing
returns-clause-standing c =
    stands_so c.args.rows.items c.in_ok-store.store.state c.in_ok-store.ensures (λ class. c.rows_in_order_ascend.ensures class c.args.rows.items c.requires.ordered)
    c.requires.sound (c.in_ok-each_field_rests.ensures.0 c.if-not-branch.false)
    (c.a_state_stands_where_its_rows_are_sound.ensures (state_of_rows c.args.rows.items)).1
