-- Counts of the fields that are linked to some keys.
use Rattle.std.specs.Prelude.{◌≡◌, ℕ, ◌+◌, Bool, false, Option}
use Rattle.std.specs.Map.{lookup}
use Rattle.std.specs.Option.{option_map, option_map_or}
use Rattle.marc_types.specs.Order.{same_key}
use Rattle.marc_types.specs.declared.key.Key.{Key}
use Rattle.marc_types.specs.declared.entry.Tie.{Tie}
use Rattle.heading_list.specs.declared.links.Links.{Links}

-- the count of a key, where it is counted
abbrev pub count_of : Links → Key → Option ℕ
count_of links key = lookup (same_key key) links.counts.entries

-- each count rose by so many
abbrev pub CountsRose : Links → Links → (Key → ℕ) → Type 0
CountsRose old new more = (key : Key) → count_of new key ≡ option_map (λ n. n + more key) (count_of old key)

-- the tie is to the key
abbrev pub is_tied_to : Key → Tie → Bool
is_tied_to key tie = option_map_or (same_key key) tie.key false
