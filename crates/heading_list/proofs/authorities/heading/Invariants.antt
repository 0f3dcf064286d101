use Rattle.std.proofs.Common.{◌≡◌, drop}
use Rattle.entry_record.specs.Authority.{heading_of}
use Rattle.heading_list.proofs.authorities.heading.Given as goal

abbrev pub invariant-loop-field : goal.invariant-loop-field
invariant-loop-field l = heading_of l.fields ≡ heading_of (drop l.field-index l.fields)
