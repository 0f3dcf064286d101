-- Why a record has no key: its number is looked at first, and then its code.
use Rattle.std.specs.Prelude.{ℕ, not, List, [], Option, Some, None, unwrap_or, if◌then◌else◌}
use Rattle.heading_fields.specs.Numbers.{without_blanks}
use Rattle.marc_types.specs.Valid.{is_code, is_number}
use Rattle.marc_types.specs.declared.field.Field.{Field}
use Rattle.marc_types.specs.declared.refusal.Refusal.{Refusal}
use Rattle.marc_types.specs.declared.refusal.Refusal.TheVariants.{NoNumber, BadCode}
use Rattle.entry_record.specs.Identity.{first_control, control_number_of, code_of}

-- the first 003 without its blanks, or nothing
abbrev pub own_code_of : List Field → List ℕ
own_code_of fields = without_blanks (unwrap_or (first_control 51 fields) [])

-- the record has no number, or no code
abbrev pub key_refusal : List ℕ → List Field → Option Refusal
key_refusal library fields =
    if not (is_number (control_number_of fields)) then Some NoNumber
    else if not (is_code (code_of library fields)) then Some BadCode
    else None
