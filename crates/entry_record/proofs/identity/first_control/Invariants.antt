use Rattle.std.proofs.Common.{◌≡◌, drop}
use Rattle.entry_record.specs.Identity.{first_control}
use Rattle.entry_record.proofs.identity.first_control.Given as goal

abbrev pub invariant-loop-field : goal.invariant-loop-field
invariant-loop-field l = first_control l.last l.fields ≡ first_control l.last (drop l.field-index l.fields)
