use Rattle.std.proofs.Common.{◌∙◌, sym}
use Rattle.restoring.proofs.Tying.{is_some_at, suits}
use Rattle.restoring.proofs.feeding.put_tie.Goals as goal

pub unwrap-field-requires : goal.unwrap-field-requires
unwrap-field-requires c = is_some_at c.args.rec.now.fields c.args.seat.field c.in_ok-field_at.field-0 c.in_ok-field_at.ensures c.requires.within

pub exchange_field-requires : goal.exchange_field-requires
exchange_field-requires c =
    let at = sym c.in_ok-field_at.ensures ∙ c.unwrap-field.ensures in
    suits c.args.seat c.args.rec.now.leader c.args.rec.now.fields c.unwrap-field.result c.args.tie c.args.store.now c.requires.known c.requires.there
    c.args.rec.now.valid c.fits.ensures at (c.requires.whole c.unwrap-field.result at)
