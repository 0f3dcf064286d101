use Rattle.numbered_store.specs.Kept.{kept_record}
use Rattle.commit_stages.proofs.OwnRecords.{own_known, own_there}
use Rattle.commit_stages.proofs.Reading.{count_read, none_counted}
use Rattle.commit_stages.proofs.own.places_in.Goals as goal

pub look_at_own-requires : goal.look_at_own-requires
look_at_own-requires c = own_known c.args.own c.args.class c.args.number c.requires.own c.args.store.now.keys c.requires.number

pub returns-in-Some : goal.returns-in-Some
returns-in-Some c =
    count_read (kept_record c.in-Some.kept.now) _ _ (own_there c.args.own c.args.class c.args.number c.requires.own c.args.store.now _ c.in-Some.ensures) c.field_count.ensures

pub returns-in-None : goal.returns-in-None
returns-in-None c = none_counted _ (own_there c.args.own c.args.class c.args.number c.requires.own c.args.store.now _ c.in-None.ensures)
