-- The fallible calls on an object in memory.
use Rattle.std.specs.Prelude.{ℕ, ◌==◌, List, Bool, if◌then◌else◌}
use Rattle.std.specs.List.{list_any}
use Rattle.outside.specs.Fault.{count_sum}

-- the numbers of the calls that are to fail, how many were made, and how many failed
pub record CallsState : Type 0 where
  pub fails : List ℕ
  pub made : ℕ
  pub faults : ℕ

-- no call was made yet
abbrev pub fresh_calls : List ℕ → CallsState
fresh_calls fails = record { fails = fails; made = 0; faults = 0 }

-- whether the next call is to fail: the calls are counted from 0
abbrev pub is_next_listed : CallsState → Bool
is_next_listed calls = list_any (λ listed. listed == calls.made) calls.fails

-- one more call was made, and maybe failed
abbrev pub after_call : CallsState → Bool → CallsState
after_call calls failed = record {
  fails = calls.fails;
  made = count_sum calls.made 1;
  faults = if failed then count_sum calls.faults 1 else calls.faults;
}
