-- Counts of headings and links in maps, and which headings have a line.
use Rattle.std.specs.Prelude.{◌≡◌, ℕ, Bool, true, false, List, bytes_eq, Option, Some, None, unwrap_or}
use Rattle.std.specs.BTreeMap.{BTreeMap, get}
use Rattle.std.specs.HashMap.{HashMap}
use Rattle.std.specs.HashMap as hashed
use Rattle.std.specs.Option.{option_map_or}
use Rattle.marc_types.specs.declared.entry.Tie.{Tie}
use Rattle.marc_types.specs.declared.key.Key.{Key}
use Rattle.marc_types.specs.Order.{key_cmp, same_key}
use Rattle.catalogue_rules.specs.State.{State}
use Rattle.heading_worklist.specs.Lines.{links_to}
use Rattle.heading_worklist.specs.Counts.{StatedForm, Compared, Counted, stated, same_stated, count_stated}

-- how often a state and form are counted
abbrev pub stated_times : {S : Type 0} → HashMap StatedForm ℕ S → StatedForm → ℕ
stated_times counts a = unwrap_or (hashed.get same_stated counts a) 0

-- how often links to the authority under a key are counted
abbrev pub linked_times : BTreeMap Key ℕ → Key → ℕ
linked_times counts key = unwrap_or (get key_cmp counts key) 0

-- the tie is a link to the authority under the key
abbrev pub is_tied_to : Key → Tie → Bool
is_tied_to key tie = option_map_or (same_key key) tie.key false

-- the map counts the links of a state
abbrev pub AreLinks : State → BTreeMap Key ℕ → Type 0
AreLinks s counts = (key : Key) → linked_times counts key ≡ links_to s key

-- the map counts the headings, by their full forms or their base forms
abbrev pub AreTimes : {S : Type 0} → Bool → List Compared → HashMap StatedForm ℕ S → Type 0
AreTimes whole all counts = (a : StatedForm) → stated_times counts a ≡ count_stated whole all a

-- a heading as maps count it
abbrev pub counted_by : {S : Type 0} → HashMap StatedForm ℕ S → HashMap StatedForm ℕ S → Compared → Counted
counted_by full base x = record { heading = x; count = stated_times full (stated true x); base_count = stated_times base (stated false x) }

-- all keys, or those with a code
abbrev pub kept_in : Option (List ℕ) → Key → Bool
kept_in None key = true
kept_in (Some code) key = bytes_eq key.code code
