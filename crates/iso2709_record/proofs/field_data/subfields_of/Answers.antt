use Rattle.iso2709_record.proofs.Cuts.{cut_off_texts, cut_more}
use Rattle.iso2709_record.proofs.field_data.subfields_of.Goals as goal

pub from_utf8_unchecked-text-requires : goal.from_utf8_unchecked-text-requires
from_utf8_unchecked-text-requires c =
    (cut_off_texts _ _ _ c.in-Some.cut c.loop-cut.invariant c.in-Some.ensures.parts c.in-Some.ensures.first).first

pub loop-cut-preserved : goal.loop-cut-preserved
loop-cut-preserved c =
    rw (c.in_ok-push.ensures.items, c.in_ok-from_str.ensures, c.from_utf8_unchecked-text.ensures)
    (cut_more _ _ _ c.in-Some.cut c.loop-cut.invariant c.in-Some.ensures.parts c.in-Some.ensures.first)
