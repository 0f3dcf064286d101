use Rattle.std.proofs.Common.{◌∙◌, sym}
use Rattle.kept_rows.specs.Rows.{row_of}
use Rattle.kept_rows.specs.Standing.{IsSoundRow}
use Rattle.kept_rows.proofs.Told.{fields_decide, if_told}
use Rattle.kept_rows.proofs.sound.is_sound.Goals as goal

pub returns : goal.returns
returns c =
    let row = row_of c.args.row.now in
    if_told c.has_sound_fields.result _ (IsSoundRow c.args.row.now.class row)
    (fields_decide c.args.row.now.class row (rw (← c.leader.ensures) (sym c.suits_class.ensures ∙ c.if-not-suits_class.false)) (sym c.is_proper.ensures ∙ c.if-not-is_proper.false)) c.has_sound_fields.ensures
