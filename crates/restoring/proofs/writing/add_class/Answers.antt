use Rattle.std.proofs.Common.{ap, map}
use Rattle.catalogue_rules.specs.State.{rows_of}
use Rattle.numbered_store.specs.Kept.{shown_row}
use Rattle.restoring.proofs.Drafting.{adding_next, first_can}
use Rattle.restoring.proofs.writing.add_class.Goals as goal

pub add-requires : goal.add-requires
add-requires c = (first_can _ _ _ (ap (map shown_row) c.in-Some.ensures.steps) c.loop-key.invariant.can).0

pub loop-key-preserved : goal.loop-key-preserved
loop-key-preserved c =
    let steps = ap (map shown_row) c.in-Some.ensures.steps in
    record {
      adding = λ rows draft.
          adding_next rows c.args.class _ _ (rows_of c.args.class c.args.engine.now.state) _ _ _ _ _ (c.loop-key.invariant.adding rows draft) steps c.in_ok-add.ensures;
      can = (first_can _ _ _ steps c.loop-key.invariant.can).1;
    }
