use Rattle.std.proofs.Common.{◌≡◌, ◌<◌, ◌^◌, take}
use Rattle.iso2709_record.specs.Layout.{number}
use Rattle.iso2709_record.proofs.decimal.number.Given as goal

abbrev pub invariant-loop-digit : goal.invariant-loop-digit
invariant-loop-digit l = (l.number ≡ number (take l.digit-index l.digits)) × (l.number < 10 ^ l.digit-index)
