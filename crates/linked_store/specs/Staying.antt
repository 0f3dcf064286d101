-- Fields that are linked to the same key.
use Rattle.std.specs.Prelude.{Bool, false, Option}
use Rattle.std.specs.Option.{option_map_or}
use Rattle.marc_types.specs.declared.entry.Tie.{Tie}
use Rattle.marc_types.specs.Order.{same_key}
use Rattle.catalogue_rules.specs.State.{KeptField}

-- both ties are links, to the same key
abbrev pub same_link : Tie → Tie → Bool
same_link own tie = option_map_or (λ key. option_map_or (same_key key) tie.key false) own.key false

-- there is a field, and it is linked to the key to which the tie links another
abbrev pub is_linked_alike : Tie → Option KeptField → Bool
is_linked_alike tie field = option_map_or (λ h. same_link h.tie tie) field false
