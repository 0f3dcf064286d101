use Rattle.std.proofs.Common.{◌∙◌, true, false, sym, ap, get_or}
use Rattle.kept_rows.proofs.Shorts.{unawaiting}
use Rattle.kept_rows.proofs.short.is_sound_at.Goals as goal

pub returns-then-tie : goal.returns-then-tie
returns-then-tie c =
    unawaiting c.args.row.now.class c.args.row.now.rec.fields c.args.row.now.ties c.args.place c.index-as_slice-place.result true c.takes_subdivisions_at.result c.requires
    c.args.row.now.tied (c.index-as_slice-place.is ∙ ap (λ l. get_or l c.args.place c.index-as_slice-place.result) c.as_slice.ensures)
    (sym c.is_some.ensures ∙ c.if-is_some.false) c.if-tie.true (λ yes. c.takes_subdivisions_at.ensures)

pub returns : goal.returns
returns c =
    unawaiting c.args.row.now.class c.args.row.now.rec.fields c.args.row.now.ties c.args.place c.index-as_slice-place.result false true c.requires
    c.args.row.now.tied (c.index-as_slice-place.is ∙ ap (λ l. get_or l c.args.place c.index-as_slice-place.result) c.as_slice.ensures)
    (sym c.is_some.ensures ∙ c.if-is_some.false) c.if-tie.false (λ yes f e. cc)
