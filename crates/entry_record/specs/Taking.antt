-- The parts of admission, and what it comes to.
use Rattle.std.specs.Prelude.{◌≡◌, ℕ, ◌&&◌, List, map, Option, Some, None, if◌then◌else◌}
use Rattle.std.specs.Option.{is_none}
use Rattle.marc_types.specs.declared.field.Field.{Field}
use Rattle.marc_types.specs.declared.field.Leader.{Leader}
use Rattle.marc_types.specs.declared.refusal.Refusal.{Refusal}
use Rattle.marc_types.specs.declared.refusal.Refusal.TheVariants.{NoHeading, HeadingTooLong}
use Rattle.entry_record.specs.Identity.{class_of, key_of}
use Rattle.entry_record.specs.Authority.{heading_of}
use Rattle.entry_record.specs.Admission.{is_living_authority, has_long_heading, admission_refusal}
use Rattle.entry_record.specs.Headings.{heading_forms}
use Rattle.entry_record.specs.declared.admission.Examined.{Examined}

-- the record is an authority and stays one, and has no heading, or one that is too long
abbrev pub heading_refusal : Leader → List Field → Option Refusal
heading_refusal l fields =
    if is_living_authority l && is_none (heading_of fields) then Some NoHeading
    else if is_living_authority l && has_long_heading fields then Some HeadingTooLong
    else None

-- a record that nothing refuses, its key, and the forms of its heading fields
pub record IsExamined (library : List ℕ) (l : Leader) (fields : List Field) (e : Examined) : Type 0 where
  pub taken : admission_refusal library l fields ≡ None
  pub key_is : e.key ≡ key_of library fields
  pub headings_are : e.headings ≡ map (heading_forms (class_of l)) fields
