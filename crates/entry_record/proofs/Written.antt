-- A record that is taken has room in its written form.
use Rattle.std.proofs.Common.{◌≡◌, ◌≤◌, true, List}
use Rattle.marc_types.specs.declared.field.Field.{Field}
use Rattle.iso2709_record.specs.Written.{record_length, fits}
use Rattle.iso2709_record.proofs.Lengths.{fits_parts}

pub fitting_length : (fields : List Field) → fits fields ≡ true → record_length fields ≤ 99999
fitting_length fields h = (fits_parts fields h).0
