use Rattle.std.proofs.Common.{rules, sym, subst}
use Rattle.loader_workers.specs.Counts.{CanCount, HasCounted}
use Rattle.loader_workers.proofs.Fewer.{room_for, counted_more}
use Rattle.loader_workers.proofs.Turned.{front_committed, none_committed}
use Rattle.loader_workers.proofs.turning.commit.Goals as goal

pub returns-then-is_empty-clause-front : goal.returns-then-is_empty-clause-front
returns-then-is_empty-clause-front g c origin commits = none_committed origin _ _ _ (search rules)

pub add-requires : goal.add-requires
add-requires g c = record {
  room = subst (CanCount c.args.counts.now) (sym c.as_slice.ensures)
      (room_for _ _ _ _ _ _ c.requires.catalogue.answers c.turn-receipts.ensures c.requires.counted);
}

pub returns-clause-front : goal.returns-clause-front
returns-clause-front g c origin commits =
    front_committed _ origin _ _ _ _ _ _ _ commits c.requires.pass.seen c.turn-receipts.ensures
    (subst (HasCounted c.args.counts.now c.add.new.self) c.as_slice.ensures c.add.ensures) c.end_of_commit.ensures

pub returns-clause-counted : goal.returns-clause-counted
returns-clause-counted g c =
    counted_more _ _ _ _ _ _ _ c.requires.catalogue.answers c.turn-receipts.ensures c.requires.counted
    (subst (HasCounted c.args.counts.now c.add.new.self) c.as_slice.ensures c.add.ensures)
