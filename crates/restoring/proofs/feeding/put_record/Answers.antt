use Rattle.catalogue_tables.specs.Seam.{keys_in}
use Rattle.linked_store.proofs.Brought.{number_key, number_kept}
use Rattle.restoring.proofs.Lasts.{placed_last}
use Rattle.restoring.proofs.feeding.put_record.Goals as goal

pub returns-clause-key : goal.returns-clause-key
returns-clause-key c =
    number_key (keys_in c.args.class c.place.new.self.keys) c.args.key c.in_ok-number.number
    (number_kept c.args.class c.number.new.self.keys c.place.new.self.keys c.args.key c.in_ok-number.number c.in_ok-place.ensures.ahead.keys.keep c.in_ok-number.ensures.number)

pub returns-clause-state : goal.returns-clause-state
returns-clause-state c =
    placed_last c.args.class c.args.key c.args.rec.now c.in_ok-to_record.field-0 c.in_ok-rec.item c.args.store.now.state c.number.new.self.state c.place.new.self.state
    c.in_ok-number.ensures.unchanged.state c.in_ok-to_record.ensures c.in_ok-rec.ensures.rest c.in_ok-place.ensures.ok c.requires.last c.requires.living
