use Rattle.std.proofs.Common.{arith}
use Rattle.linked_store.proofs.Noted.{goes_then}
use Rattle.linked_store.proofs.Seated.{cleared, cleared_more, clearing}
use Rattle.linked_store.proofs.transaction.Transaction.clear.Goals as goal

pub loop-field-init : goal.loop-field-init
loop-field-init c = clearing c.args.class c.args.number c.args.self.now

pub loop-field-preserved : goal.loop-field-preserved
loop-field-preserved c =
    cleared_more c.args.class c.args.number c.loop-field.field c.args.self.now c.loop-field.self c.take_rows.new.self c.loop-field.invariant c.in_ok-take_rows.ensures.now
    c.take_rows.ensures.store c.take_rows.ensures.goes

pub returns-in_err-take_rows-clause-goes : goal.returns-in_err-take_rows-clause-goes
returns-in_err-take_rows-clause-goes c = goes_then c.args.self.now c.loop-field.self c.take_rows.new.self c.loop-field.invariant.goes c.take_rows.ensures.goes

pub returns-clause-now : goal.returns-clause-now
returns-clause-now c =
    cleared c.args.class c.args.number c.args.fields c.loop-field.field c.args.self.now c.loop-field.self c.requires.free (omega (arith, c.loop-field-test.false)) c.loop-field.invariant
