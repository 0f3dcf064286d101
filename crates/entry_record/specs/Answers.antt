-- What a call that may refuse a record answers.
use Rattle.std.specs.Prelude.{◌≡◌, Option, Some}
use Rattle.marc_types.specs.declared.refusal.Refusal.{Refusal}
use Rattle.marc_types.specs.declared.refusal.RecordFault.{RecordFault}
use Rattle.marc_types.specs.declared.refusal.RecordFault.TheVariants.{Refused, NoMemory}

-- the reason that is due, or want of memory
abbrev pub IsRefusalOf : Option Refusal → RecordFault → Type 0
IsRefusalOf due (Refused refusal) = due ≡ Some refusal
IsRefusalOf due NoMemory = Unit {0}
