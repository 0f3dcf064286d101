-- How often a thing stands in a group.
use Rattle.std.specs.Prelude.{ℕ, Bool, List, unwrap_or, if◌then◌else◌}
use Rattle.std.specs.List.{count_by}
use Rattle.std.specs.BTreeMap.{BTreeMap}
use Rattle.std.specs.Map.{lookup}
use Rattle.postings.specs.declared.group.Group.{Group}
use Rattle.postings.specs.declared.group.Group.TheVariants.{Empty, One, Few, Many}

module _ {P : Type 0} (same : P → P → Bool) where
  -- how often the list has the thing
  abbrev pub times_among : List P → P → ℕ
  times_among things thing = count_by (λ one. same one thing) things

  -- how often the thing is counted
  abbrev pub times_counted : BTreeMap P ℕ → P → ℕ
  times_counted counts thing = unwrap_or (lookup (same thing) counts.entries) 0

  -- how often the group has the thing
  abbrev pub times_in : Group P → P → ℕ
  times_in Empty thing = 0
  times_in (One one) thing = if same one thing then 1 else 0
  times_in (Few things) thing = times_among things.items thing
  times_in (Many counts) thing = times_counted counts.value thing
