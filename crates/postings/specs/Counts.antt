-- How often a thing is counted under a name. Names are numbers.
use Rattle.std.specs.Prelude.{◌≡◌, ℕ, ◌+◌, ◌-◌, Bool, List, if◌then◌else◌}
use Rattle.std.specs.List.{count_by}
use Rattle.numbering.specs.declared.pages.Pages.{Pages}
use Rattle.numbering.specs.Pages.{row_or}
use Rattle.postings.specs.Group.{times_in}
use Rattle.postings.specs.declared.group.Group.{Group}
use Rattle.postings.specs.declared.group.Group.TheVariants.{Empty}

-- how often the thing is counted under the name
abbrev pub times : {P : Type 0} (same : P → P → Bool) → Pages (Group P) → ℕ → P → ℕ
times same groups name thing = times_in same (row_or Empty groups name) thing

module _ {N P : Type 0} (same_name : N → N → Bool) (same : P → P → Bool) where
  -- how often a list of names brings the thing under the name
  abbrev pub brought : List N → P → N → P → ℕ
  brought names one name thing = if same one thing then count_by (λ n. same_name n name) names else 0

  -- how often one name and one thing count
  abbrev pub once : N → P → N → P → ℕ
  once one_name one name thing = if same one thing then (if same_name one_name name then 1 else 0) else 0

module _ {N P : Type 0} where
  -- each thing is counted under each name as often as before, or more often by this, or less often by this
  abbrev pub TimesSame : (old new : N → P → ℕ) → Type 0
  TimesSame old new = (name : N) (thing : P) → new name thing ≡ old name thing

  -- each more often by this
  abbrev pub TimesMore : (more old new : N → P → ℕ) → Type 0
  TimesMore more old new = (name : N) (thing : P) → new name thing ≡ old name thing + more name thing

  -- each less often by this
  abbrev pub TimesLess : (less old new : N → P → ℕ) → Type 0
  TimesLess less old new = (name : N) (thing : P) → new name thing ≡ old name thing - less name thing
