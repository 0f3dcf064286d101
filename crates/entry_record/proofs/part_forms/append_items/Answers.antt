use Rattle.std.proofs.Common.{sym}
use Rattle.std.proofs.lemmas.List.{append-nil}
use Rattle.heading_fields.specs.Parts.{is_part}
use Rattle.naco_form.specs.Form.{items_of}
use Rattle.entry_record.proofs.PartItems.{part_items_step}
use Rattle.entry_record.proofs.part_forms.append_items.Goals as goal

pub loop-subfield-init : goal.loop-subfield-init
unfolding items_of
loop-subfield-init c = sym (append-nil _)

pub loop-subfield-preserved : goal.loop-subfield-preserved
loop-subfield-preserved c =
    part_items_step (is_part c.args.whole c.args.kind) c.args.region.now c.loop-subfield.subfield-index c.args.items.now.items c.loop-subfield.items.items
    c.append_of_part.new.items.items c.subfield-item.result c.loop-subfield-test.true c.subfield-item.is c.loop-subfield.invariant c.in_ok-append_of_part.ensures
