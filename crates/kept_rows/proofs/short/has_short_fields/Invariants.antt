use Rattle.std.proofs.Common.{◌≡◌, drop}
use Rattle.std.specs.List.{list_all}
use Rattle.kept_rows.specs.Rows.{row_of}
use Rattle.kept_rows.specs.Tests.{is_lasting}
use Rattle.kept_rows.proofs.short.has_short_fields.Given as goal

-- what is left decides
abbrev pub invariant-loop-place : goal.invariant-loop-place
invariant-loop-place l = list_all (is_lasting l.row.class) (drop l.place (row_of l.row).1.fields) ≡ list_all (is_lasting l.row.class) (row_of l.row).1.fields
