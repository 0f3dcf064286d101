use Rattle.std.proofs.Common.{ap, map, ◌∙◌}
use Rattle.catalogue_rules.specs.State.{linkable_authorities, rows_of}
use Rattle.linking_laws.proofs.Counts.{looked}
use Rattle.numbered_store.specs.Kept.{shown_row}
use Rattle.restoring.proofs.Scanned.{RowRests, begun, next_there, passed, stopped}
use Rattle.restoring.proofs.scan.class_rests.Goals as goal

pub loop-key-init : goal.loop-key-init
loop-key-init c =
    begun (RowRests (linkable_authorities c.args.store.now.state) c.args.class) (rows_of c.args.class c.args.store.now.state) _
    (ap (map shown_row) c.into_iter-key-iterator.ensures.into_iter_gives.0 ∙ c.in_ok-rows.ensures) (looked (rows_of c.args.class c.args.store.now.state) c.requires.ascends)

pub row_rests-requires-clause-stands : goal.row_rests-requires-clause-stands
row_rests-requires-clause-stands c =
    next_there (RowRests (linkable_authorities c.args.store.now.state) c.args.class) (rows_of c.args.class c.args.store.now.state) _ _ _
    (ap (map shown_row) c.in-Some.ensures.steps) c.loop-key.invariant

pub returns-then-not-branch : goal.returns-then-not-branch
returns-then-not-branch c =
    stopped (RowRests (linkable_authorities c.args.store.now.state) c.args.class) (rows_of c.args.class c.args.store.now.state) _ _ _
    (ap (map shown_row) c.in-Some.ensures.steps) c.loop-key.invariant c.in_ok-row_rests.field-0 c.if-not-branch.true c.in_ok-row_rests.ensures

pub loop-key-preserved : goal.loop-key-preserved
loop-key-preserved c =
    passed (RowRests (linkable_authorities c.args.store.now.state) c.args.class) (rows_of c.args.class c.args.store.now.state) _ _ _
    (ap (map shown_row) c.in-Some.ensures.steps) c.loop-key.invariant (c.in_ok-row_rests.ensures.0 c.if-not-branch.false)
