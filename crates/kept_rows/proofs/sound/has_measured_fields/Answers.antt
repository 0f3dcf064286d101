use Rattle.std.proofs.Common.{◌∙◌, sym, arith}
use Rattle.kept_rows.specs.Rows.{row_of}
use Rattle.kept_rows.proofs.Places.{length-tied, one_more, not_told, too_long, all_told}
use Rattle.kept_rows.proofs.sound.has_measured_fields.Goals as goal

pub returns-in_default : goal.returns-in_default
returns-in_default c =
    let count = length-tied c.args.row.now.rec.fields c.args.row.now.ties c.args.row.now.tied in
    not_told c.args.row.now.class (row_of c.args.row.now).1.fields c.loop-place.place c.loop-place.len
    (omega (arith, count, c.loop-place-test.true, c.field_count-place-end.ensures)) (sym c.in_default.is ∙ c.in_ok-reach.ensures) c.loop-place.invariant

pub returns-then-reach-gt-MOST_FIELD_LEN : goal.returns-then-reach-gt-MOST_FIELD_LEN
returns-then-reach-gt-MOST_FIELD_LEN c =
    let count = length-tied c.args.row.now.rec.fields c.args.row.now.ties c.args.row.now.tied in
    too_long c.args.row.now.class (row_of c.args.row.now).1.fields c.loop-place.place c.loop-place.len c.in-Some.reach
    (omega (arith, count, c.loop-place-test.true, c.field_count-place-end.ensures)) (sym c.in-Some.is ∙ c.in_ok-reach.ensures)
    c.if-reach-gt-MOST_FIELD_LEN.true c.loop-place.invariant

pub loop-place-preserved : goal.loop-place-preserved
loop-place-preserved c =
    let count = length-tied c.args.row.now.rec.fields c.args.row.now.ties c.args.row.now.tied in
    one_more c.args.row.now.class (row_of c.args.row.now).1.fields c.loop-place.place c.loop-place.len c.in-Some.reach
    (omega (arith, count, c.loop-place-test.true, c.field_count-place-end.ensures)) (sym c.in-Some.is ∙ c.in_ok-reach.ensures)
    c.if-reach-gt-MOST_FIELD_LEN.false c.loop-place.invariant

pub returns : goal.returns
returns c =
    let count = length-tied c.args.row.now.rec.fields c.args.row.now.ties c.args.row.now.tied in
    all_told c.args.row.now.class (row_of c.args.row.now).1.fields c.loop-place.place c.loop-place.len
    (omega (arith, count, c.loop-place-test.false, c.field_count-place-end.ensures)) c.loop-place.invariant
