use Rattle.std.proofs.Common.{[]}
use Rattle.heading_list.proofs.Firsts.{takes_none, takes_then, takes_these}
use Rattle.heading_list.proofs.Tracings.{no_tracings, tracings_more}
use Rattle.heading_list.proofs.authorities.put_tracings.Goals as goal

pub loop-field-init : goal.loop-field-init
loop-field-init c = takes_these c.args.first.now c.args.first.now [] _ (no_tracings c.args.key.now c.args.kind) (takes_none c.args.first.now)

pub loop-field-preserved : goal.loop-field-preserved
loop-field-preserved c =
    takes_these c.args.first.now c.put_tracing.new.first _ _
    (tracings_more c.args.key.now c.args.kind c.args.fields.now c.loop-field.field-index c.field-item.result c.loop-field-test.true c.field-item.is)
    (takes_then c.args.first.now c.loop-field.first c.put_tracing.new.first _ _ c.loop-field.invariant c.in_ok-put_tracing.ensures)
