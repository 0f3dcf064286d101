-- Counts of faults, which stop at the greatest number of a u64, and answers that have their cause in a count.
use Rattle.std.specs.Prelude.{ℕ, ◌+◌, ◌-◌, ◌^◌, ◌≤◌, min, List, [], ◌∷◌, Result, Ok, Err, OnErr, IsErrOf}
use Rattle.outside.specs.declared.fault.WriteFault.{WriteFault}
use Rattle.outside.specs.declared.fault.WriteFault.TheVariants.{OutputFault}

-- where a count stops
abbrev pub greatest_count : ℕ
greatest_count = 2 ^ 64 - 1

-- the count rose, or stands at its greatest number
abbrev pub Rose : ℕ → ℕ → Type 0
Rose before now = min (before + 1) greatest_count ≤ now

-- two counts, one added to the other
abbrev pub count_sum : ℕ → ℕ → ℕ
count_sum a b = min (a + b) greatest_count

-- a count with one more fault, where the call failed
abbrev pub counted : {T E : Type 0} → Result T E → ℕ → ℕ
counted (Ok value) count = count
counted (Err error) count = count_sum count 1

-- the counts of several names together
abbrev pub count_total : (List ℕ → ℕ) → List (List ℕ) → ℕ
count_total count [] = 0
count_total count (name ∷ names) = count_sum (count name) (count_total count names)

-- a count never falls, and the call failed only where it rose
pub record HasCause {T E : Type 0} (before now : ℕ) (result : Result T E) : Type 0 where
  pub later : before ≤ now
  pub failed : OnErr result (Rose before now)

-- a count never falls, and the output failed only where it rose; want of memory needs no cause
pub record HasWriteCause {T : Type 0} (before now : ℕ) (result : Result T WriteFault) : Type 0 where
  pub later : before ≤ now
  pub failed : IsErrOf result OutputFault → Rose before now
