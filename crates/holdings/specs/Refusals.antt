-- Why a record isn't taken as a holding, and what a call that may refuse it answers.
use Rattle.std.specs.Prelude.{◌≡◌, ℕ, Option, Some}
use Rattle.marc_types.specs.Refusals.{number_of}
use Rattle.marc_types.specs.declared.refusal.RecordFault.{RecordFault}
use Rattle.marc_types.specs.declared.refusal.RecordFault.TheVariants as record_fault
use Rattle.holdings.specs.declared.refusal.HoldingRefusal.{HoldingRefusal}
use Rattle.holdings.specs.declared.refusal.HoldingRefusal.TheVariants.{OfRecord, NoTarget}
use Rattle.holdings.specs.declared.refusal.HoldingFault.{HoldingFault}
use Rattle.holdings.specs.declared.refusal.HoldingFault.TheVariants.{Refused, NoMemory}

-- the number of a refusal in printed lines
abbrev pub number_of_refusal : HoldingRefusal → ℕ
number_of_refusal (OfRecord refusal) = number_of refusal
number_of_refusal NoTarget = 17

-- the same fault, of a holding
abbrev pub fault_of_record : RecordFault → HoldingFault
fault_of_record (record_fault.Refused refusal) = Refused (OfRecord refusal)
fault_of_record record_fault.NoMemory = NoMemory

-- the reason that is due, or want of memory
abbrev pub IsRefusalOf : Option HoldingRefusal → HoldingFault → Type 0
IsRefusalOf due (Refused refusal) = due ≡ Some refusal
IsRefusalOf due NoMemory = Unit {0}
