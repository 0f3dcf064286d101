use Rattle.std.proofs.Common.{◌≡◌, subst}
use Rattle.std.specs.Option.{option_map}
use Rattle.marc_types.specs.declared.key.Class.{Class}
use Rattle.linked_store.specs.Contents.{ToRecord, apply}
use Rattle.linked_store.specs.Transactions.{contents}
use Rattle.linked_store.specs.Placing.{IsReseated}
use Rattle.linked_store.proofs.Noted.{goes_then}
use Rattle.linked_store.proofs.Seated.{placed_on, reseated}
use Rattle.linked_store.proofs.transaction.Transaction.place.Goals as goal
use Rattle.numbered_store.specs.Kept.{kept_record}

pub returns-in_err-seat_rows-clause-goes : goal.returns-in_err-seat_rows-clause-goes
returns-in_err-seat_rows-clause-goes c = goes_then c.args.self.now c.clear.new.self c.seat_rows.new.self c.clear.ensures.goes c.seat_rows.ensures.goes

pub returns-in_err-exchange-clause-goes : goal.returns-in_err-exchange-clause-goes
returns-in_err-exchange-clause-goes c =
    goes_then c.args.self.now c.seat_rows.new.self c.exchange.new.self
    (goes_then c.args.self.now c.clear.new.self c.seat_rows.new.self c.clear.ensures.goes c.seat_rows.ensures.goes) c.exchange.ensures.goes

pub returns-clause-now : goal.returns-clause-now
returns-clause-now c =
    placed_on c.follow_entry.result c.args.number c.args.item.now c.args.rows.items (option_map kept_record c.args.kept) c.args.self.now c.seat_rows.new.self c.exchange.new.self
    c.follow_entry.new.self
    (subst (λ (k : Class). IsReseated k c.args.number c.args.rows.items c.args.self.now c.seat_rows.new.self) c.class-class.ensures
    (reseated c.class-class.result c.args.number c.args.rows.items c.args.self.now c.clear.new.self c.seat_rows.new.self c.in_ok-clear.ensures.now c.in_ok-seat_rows.ensures.now))
    (subst (λ (k : Class). contents c.exchange.new.self ≡ apply (ToRecord k c.args.number (option_map kept_record c.args.kept)) (contents c.seat_rows.new.self)) c.class-class.ensures
    c.in_ok-exchange.ensures.now)
    c.exchange.ensures.tables c.requires.kept c.follow_entry.ensures.store c.follow_entry.ensures.goes.rows c.follow_entry.ensures.now c.follow_entry.ensures.seats

pub returns-clause-goes : goal.returns-clause-goes
returns-clause-goes c =
    goes_then c.args.self.now c.exchange.new.self c.follow_entry.new.self
    (goes_then c.args.self.now c.seat_rows.new.self c.exchange.new.self
    (goes_then c.args.self.now c.clear.new.self c.seat_rows.new.self c.clear.ensures.goes c.seat_rows.ensures.goes) c.exchange.ensures.goes) c.follow_entry.ensures.goes
