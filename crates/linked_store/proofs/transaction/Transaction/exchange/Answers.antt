use Rattle.std.proofs.Common.{refl}
use Rattle.std.specs.Option.{option_map}
use Rattle.numbered_store.specs.Kept.{kept_record}
use Rattle.linked_store.proofs.Noted.{goes_none, goes_exchanged, number_stays, steps_noted}
use Rattle.linked_store.proofs.transaction.Transaction.exchange.Goals as goal

pub returns-in_err-reserve-clause-goes : goal.returns-in_err-reserve-clause-goes
returns-in_err-reserve-clause-goes c = goes_none c.args.self.now _ refl refl c.reserve.ensures.items

pub returns-clause-goes : goal.returns-clause-goes
returns-clause-goes c =
    goes_exchanged c.args.self.now _ c.args.class c.args.number (option_map kept_record c.exchange-before.result)
    (steps_noted c.args.self.now.log.items c.push_reserved.new.self.items c.reserve.new.self.items _ c.reserve.ensures.items c.push_reserved.ensures.items)
    refl c.exchange-before.ensures.back
    (number_stays c.args.class c.args.number _ c.args.self.now.store c.exchange-before.new.self c.exchange-before.ensures.now c.requires)
