-- Which records an output keeps. The rule is this project's own.
use Rattle.std.specs.Prelude.{ℕ, Bool, List, bytes_eq, Option, Some, None}
use Rattle.marc_types.specs.declared.key.Key.{Key}
use Rattle.catalogue_rules.specs.Output.{all_keys}

-- the keys that an export keeps: all, or those with a code
abbrev pub kept_keys : Option (List ℕ) → Key → Bool
kept_keys None = all_keys
kept_keys (Some code) = λ key. bytes_eq key.code code
