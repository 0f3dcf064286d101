use Rattle.std.proofs.Common.{◌≡◌, ◌≤◌, drop}
use Rattle.std.specs.Prelude.{◌&&◌}
use Rattle.std.specs.List.{list_any}
use Rattle.marc_types.specs.Valid.{fields_size}
use Rattle.entry_record.specs.Authority.{is_see_from}
use Rattle.entry_record.specs.Admission.{is_too_long}
use Rattle.entry_record.proofs.admission.has_long_see_from.Given as goal

abbrev pub invariant-loop-field : goal.invariant-loop-field
invariant-loop-field l =
    (list_any (λ f. is_see_from f && is_too_long f) l.fields ≡ list_any (λ f. is_see_from f && is_too_long f) (drop l.field-index l.fields))
    × (fields_size (drop l.field-index l.fields) ≤ 1000000)
