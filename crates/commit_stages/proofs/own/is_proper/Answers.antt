use Rattle.linked_store.specs.Linked.{key_of}
use Rattle.commit_stages.proofs.own.is_proper.Goals as goal

pub returns : goal.returns
returns c = c.each_record_is_proper.ensures c.args.class (key_of c.args.class c.args.number c.args.store.now.keys)
