use Rattle.std.proofs.Common.{◌∙◌, sym, arith}
use Rattle.kept_rows.proofs.Shorts.{more_short, unsound_there, all_short}
use Rattle.kept_rows.proofs.short.has_short_fields.Goals as goal

pub returns-then-not-branch : goal.returns-then-not-branch
returns-then-not-branch c =
    unsound_there c.args.row.now.class c.args.row.now.rec.fields c.args.row.now.ties c.loop-place.place c.args.row.now.tied
    (omega (arith, c.loop-place-test.true, c.field_count-place-end.ensures)) (sym c.in_ok-is_sound_at.ensures ∙ c.if-not-branch.true) c.loop-place.invariant

pub loop-place-preserved : goal.loop-place-preserved
loop-place-preserved c =
    more_short c.args.row.now.class c.args.row.now.rec.fields c.args.row.now.ties c.loop-place.place c.requires c.args.row.now.tied
    (omega (arith, c.loop-place-test.true, c.field_count-place-end.ensures)) (sym c.in_ok-is_sound_at.ensures ∙ c.if-not-branch.false) c.loop-place.invariant

pub returns : goal.returns
returns c =
    all_short c.args.row.now.class c.args.row.now.rec.fields c.args.row.now.ties c.loop-place.place c.requires c.args.row.now.tied
    (omega (arith, c.loop-place-test.false, c.field_count-place-end.ensures)) c.loop-place.invariant
