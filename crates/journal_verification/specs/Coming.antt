-- The bytes of an input as they come.
use Rattle.std.specs.Prelude.{◌≡◌, ℕ, ◌+◌, ◌<◌, ◌≤◌, List, ◌++◌, length, Option, Some, Result, IsErrOf}
use Rattle.outside.specs.Fault.{Rose}
use Rattle.journal_verification.specs.declared.fault.ReadFault.{ReadFault}
use Rattle.journal_verification.specs.declared.fault.ReadFault.TheVariants as read
use Rattle.journal_verification.specs.declared.fault.VerifyFault.{VerifyFault}
use Rattle.journal_verification.specs.declared.fault.VerifyFault.TheVariants as verify

-- these bytes are still to come: those that were read, and those that the input has left
pub record Comes (window : List ℕ) (left : Option (List ℕ)) (bytes : List ℕ) : Type 0 where
  pub rest : List ℕ
  pub told : left ≡ Some rest
  pub is : bytes ≡ window ++ rest

-- a read gave some bytes: more are in the window, and the input has fewer to give
pub record HasMore (old new : List ℕ) (bound bound_now : ℕ) : Type 0 where
  pub longer : length old < length new
  pub fewer : bound_now < bound

-- a read gave none: what is in the window is all that was to come
pub record HasNoMore (old new : List ℕ) (left : Option (List ℕ)) : Type 0 where
  pub same : new ≡ old
  pub all : (bytes : List ℕ) → Comes old left bytes → bytes ≡ old

-- behind those bytes from a place on these are still to come, from another place on
pub record ComesOn (from : ℕ) (bytes : List ℕ) (place : ℕ) (window : List ℕ) (left : Option (List ℕ)) : Type 0 where
  pub now : List ℕ
  pub comes : Comes window left now
  pub size : place + length now ≡ from + length bytes

-- a fault of the input comes only where its count of faults rose
pub record HasReadCause {T : Type 0} (before now : ℕ) (result : Result T ReadFault) : Type 0 where
  pub later : before ≤ now
  pub failed : IsErrOf result read.InputFault → Rose before now

-- the count of faults didn't fall, and rose where the input was at fault
pub record HasVerifyCause {T : Type 0} (before now : ℕ) (result : Result T VerifyFault) : Type 0 where
  pub later : before ≤ now
  pub failed : IsErrOf result verify.InputFault → Rose before now

-- a fault of reading, as one of verifying
abbrev pub verify_fault : ReadFault → VerifyFault
verify_fault read.InputFault = verify.InputFault
verify_fault read.NoMemory = verify.NoMemory
