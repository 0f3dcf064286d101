use Rattle.std.proofs.Common.{◌∙◌, sym, ap, arith, get_or}
use Rattle.iso2709_record.proofs.Lengths.{record_bounds}
use Rattle.kept_rows.proofs.Places.{small_there, told_there, told_none}
use Rattle.kept_rows.proofs.sound.read_reach.Goals as goal

pub sound_reach-requires : goal.sound_reach-requires
sound_reach-requires c =
    small_there c.args.row.now.rec.fields c.args.place c.in-Some.field (record_bounds c.args.row.now.rec.leader c.args.row.now.rec.fields c.args.row.now.rec.valid).1
    (sym c.in_ok-field.ensures ∙ c.in-Some.is)

pub returns-in-Some : goal.returns-in-Some
returns-in-Some c =
    rw (told_there c.args.row.now.class c.args.row.now.rec.fields c.args.row.now.ties c.args.place c.in-Some.field c.index-as_slice-place.result
    (sym c.in_ok-field.ensures ∙ c.in-Some.is) (omega (arith, c.requires.within, c.args.row.now.tied))
    (c.index-as_slice-place.is ∙ ap (λ l. get_or l c.args.place c.index-as_slice-place.result) c.as_slice.ensures)) c.sound_reach.ensures

pub returns-in-None : goal.returns-in-None
returns-in-None c = told_none c.args.row.now.class c.args.row.now.rec.fields c.args.row.now.ties c.args.place (sym c.in_ok-field.ensures ∙ c.in-None.is)
