use Rattle.std.proofs.Common.{List, subst}
use Rattle.linked_store.specs.declared.seating.FieldRow.{FieldRow}
use Rattle.linked_store.proofs.Noted.{goes_then}
use Rattle.linked_store.proofs.Seated.{IsSeating, seated_more, seating, waits_not}
use Rattle.linked_store.proofs.transaction.Transaction.seat_rows.Goals as goal

pub loop-one-init : goal.loop-one-init
loop-one-init c = seating c.args.class c.args.number c.args.rows.items c.args.self.now c.requires.free

pub put_lent-requires : goal.put_lent-requires
put_lent-requires c =
    waits_not c.args.class c.args.number c.args.rows.items c.pop.new.self.items c.in-Some.one c.args.self.now c.loop-one.self
    c.requires.apart
    (subst (λ (l : List FieldRow). IsSeating c.args.class c.args.number c.args.rows.items l c.args.self.now c.loop-one.self) c.in-Some.ensures.items c.loop-one.invariant)

pub loop-one-preserved : goal.loop-one-preserved
loop-one-preserved c =
    seated_more c.args.class c.args.number c.args.rows.items c.pop.new.self.items c.in-Some.one c.args.self.now c.loop-one.self
    c.requires.apart
    (subst (λ (l : List FieldRow). IsSeating c.args.class c.args.number c.args.rows.items l c.args.self.now c.loop-one.self) c.in-Some.ensures.items c.loop-one.invariant)
    c.put_lent.new.self c.in_ok-put_lent.ensures.now c.put_lent.ensures.store c.put_lent.ensures.goes

pub returns-in_err-put_lent-clause-goes : goal.returns-in_err-put_lent-clause-goes
returns-in_err-put_lent-clause-goes c = goes_then c.args.self.now c.loop-one.self c.put_lent.new.self c.loop-one.invariant.goes c.put_lent.ensures.goes
