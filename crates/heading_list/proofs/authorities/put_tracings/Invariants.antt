use Rattle.std.proofs.Common.{take}
use Rattle.heading_list.specs.Collecting.{Takes}
use Rattle.heading_list.specs.Rows.{tracing_rows}
use Rattle.heading_list.proofs.authorities.put_tracings.Given as goal

abbrev pub invariant-loop-field : goal.invariant-loop-field
invariant-loop-field l = Takes l.fn.first l.first (tracing_rows l.key l.kind (take l.field-index l.fields))
