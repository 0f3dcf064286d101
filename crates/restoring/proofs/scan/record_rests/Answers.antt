use Rattle.std.proofs.Common.{arith}
use Rattle.catalogue_rules.specs.State.{linkable_authorities}
use Rattle.kept_rows.specs.Standing.{DoesRest}
use Rattle.numbered_store.specs.Kept.{kept_record}
use Rattle.restoring.proofs.Scanned.{all_up_to, one_more, one_off}
use Rattle.restoring.proofs.scan.record_rests.Goals as goal

pub loop-place-init : goal.loop-place-init
loop-place-init c = λ i low. absurd (omega (arith, low))

pub returns-then-not-branch : goal.returns-then-not-branch
returns-then-not-branch c =
    one_off (DoesRest (linkable_authorities c.args.store.now.state) c.args.class) (kept_record c.args.kept.now) c.loop-place.place c.in_ok-place_rests.field-0
    c.if-not-branch.true c.in_ok-place_rests.ensures

pub loop-place-preserved : goal.loop-place-preserved
loop-place-preserved c =
    one_more (DoesRest (linkable_authorities c.args.store.now.state) c.args.class) (kept_record c.args.kept.now) c.loop-place.place c.loop-place.invariant
    (c.in_ok-place_rests.ensures.0 c.if-not-branch.false)

pub returns : goal.returns
returns c =
    all_up_to (DoesRest (linkable_authorities c.args.store.now.state) c.args.class) (kept_record c.args.kept.now) c.loop-place.place
    (omega (arith, c.loop-place-test.false, c.field_count-places.ensures)) c.loop-place.invariant
