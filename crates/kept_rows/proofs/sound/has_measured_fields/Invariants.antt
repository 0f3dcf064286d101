use Rattle.kept_rows.specs.Rows.{row_of}
use Rattle.kept_rows.proofs.Places.{IsSoundTo}
use Rattle.kept_rows.proofs.sound.has_measured_fields.Given as goal

abbrev pub invariant-loop-place : goal.invariant-loop-place
invariant-loop-place l = IsSoundTo l.row.class (row_of l.row).1.fields l.place l.len
