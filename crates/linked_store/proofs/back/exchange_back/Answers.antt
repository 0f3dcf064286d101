use Rattle.std.proofs.Common.{refl, ap}
use Rattle.std.specs.Option.{option_map}
use Rattle.numbered_store.specs.Kept.{kept_record}
use Rattle.numbered_store.specs.Numbered.{Numbered}
use Rattle.linked_store.specs.Contents.{ToRecord}
use Rattle.linked_store.specs.Transactions.{contents_of}
use Rattle.linked_store.proofs.Noted.{back_stored}
use Rattle.linked_store.proofs.back.exchange_back.Goals as goal

pub returns : goal.returns
returns c =
    back_stored c.args.transaction.now _ (ToRecord c.args.class c.args.number (option_map kept_record c.args.before)) refl refl
    (ap (λ (s : Numbered). contents_of s c.args.transaction.now.tables) c.exchange-after.ensures.now)
