use Rattle.std.proofs.Common.{take}
use Rattle.catalogue_rules.specs.State.{linkable_authorities}
use Rattle.commit_stages.specs.Counted.{AreCountsOf}
use Rattle.commit_stages.specs.OwnFields.{fields_in}
use Rattle.commit_stages.proofs.InTurn.{IsInTurn}
use Rattle.commit_stages.proofs.own.settle_own.Given as goal

abbrev pub invariant-loop-place : goal.invariant-loop-place
invariant-loop-place g l =
    IsInTurn (linkable_authorities l.fn.store.state) l.class l.number (fields_in l.class l.number l.fn.store) l.place l.fn.store l.store l.fn.steps l.steps
    × AreCountsOf (linkable_authorities l.fn.store.state) l.class (take l.place (fields_in l.class l.number l.fn.store)) l.counts
