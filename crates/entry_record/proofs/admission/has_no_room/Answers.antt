use Rattle.entry_record.proofs.Growing.{grown_here, room_more, room_found, room_end}
use Rattle.entry_record.proofs.admission.has_no_room.Goals as goal

pub returns-then-grown-gt-MOST_FIELD_LEN : goal.returns-then-grown-gt-MOST_FIELD_LEN
returns-then-grown-gt-MOST_FIELD_LEN c =
    room_found c.args.class c.args.fields.now c.loop-place.place c.index-fields-place.result c.loop-place.len c.grown_len-grown.result
    c.loop-place-test.true c.index-fields-place.is
    (grown_here c.args.class c.args.fields.now c.args.headings.now c.loop-place.place c.index-fields-place.result
    c.index-headings-place.result c.grown_len-grown.result c.loop-place-test.true c.requires.forms c.index-fields-place.is
    c.index-headings-place.is c.grown_len-grown.ensures)
    c.if-grown-gt-MOST_FIELD_LEN.true c.loop-place.invariant

pub loop-place-preserved : goal.loop-place-preserved
loop-place-preserved c =
    room_more c.args.class c.args.fields.now c.loop-place.place c.index-fields-place.result c.loop-place.len c.grown_len-grown.result
    c.loop-place-test.true c.index-fields-place.is
    (grown_here c.args.class c.args.fields.now c.args.headings.now c.loop-place.place c.index-fields-place.result
    c.index-headings-place.result c.grown_len-grown.result c.loop-place-test.true c.requires.forms c.index-fields-place.is
    c.index-headings-place.is c.grown_len-grown.ensures)
    c.if-grown-gt-MOST_FIELD_LEN.false c.loop-place.invariant

pub returns : goal.returns
returns c = room_end c.args.class c.args.fields.now c.loop-place.place c.loop-place.len c.loop-place-test.false c.loop-place.invariant
