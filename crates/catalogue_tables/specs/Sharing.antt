-- The authorities that share an authority's established form, and those under whose established form it is found, by their keys.
-- The rules are this project's own.
use Rattle.std.specs.Prelude.{◌≡◌, ℕ, Bool, false, ◌&&◌, not, List, [], map, filter, find, option_and_then}
use Rattle.std.specs.Borrow.{Bor}
use Rattle.std.specs.List.{list_any}
use Rattle.std.specs.Option.{option_map_or}
use Rattle.marc_types.specs.declared.key.Key.{Key}
use Rattle.marc_types.specs.Order.{same_key}
use Rattle.form_index.specs.Index.{Indexed, IsInOrder, row_under}
use Rattle.form_index.specs.Order.{Ascends, has}
use Rattle.form_index.specs.declared.among.Among.TheVariants.{All}
use Rattle.form_index.specs.declared.candidates.Candidates.{Candidates}
use Rattle.form_index.specs.declared.candidates.Candidates.TheVariants.{Established, SeeFrom, Nobody}
use Rattle.entry_record.specs.Authority.{Linkable}
use Rattle.catalogue_rules.specs.Choice.{has_key, is_see_from_form, keys_of_linkable}
use Rattle.catalogue_rules.specs.Output.{keys_sharing_form_of}
use Rattle.catalogue_tables.specs.Choosing.{number_known}
use Rattle.catalogue_tables.specs.Rows.{is_headed}

-- keys as they are lent
abbrev pub shown_keys : List (Bor Key) → List Key
shown_keys keys = map (λ key. key.now) keys

-- the keys of all authorities whose heading has the form of a key's authority; none where the key has no authority
abbrev pub keys_sharing : Key → List Linkable → List Key
keys_sharing key all = option_map_or (λ c. keys_sharing_form_of c all) (find (has_key key) all) []

-- one authority is found under the heading of another
abbrev pub is_found_under : Linkable → Linkable → Bool
is_found_under c other = not (same_key c.key other.key) && is_see_from_form other.established c

-- the keys of the others under whose heading a key's authority is found; none where the key has no authority
abbrev pub keys_crossing : Key → List Linkable → List Key
keys_crossing key all = option_map_or (λ c. keys_of_linkable (filter (is_found_under c) all)) (find (has_key key) all) []

-- those with the form as their heading
abbrev pub established_in : Candidates → List ℕ
established_in (Established numbers) = numbers.now
established_in (SeeFrom numbers) = []
established_in Nobody = []

-- the numbers of the rows with the form as their heading, in the order of any keys by which the index is in order
pub record AreHeaded (form : ℕ) (x : Indexed) (numbers : List ℕ) : Type 0 where
  pub members : (n : ℕ) → has n numbers ≡ option_map_or (is_headed All form) (row_under n x) false
  pub ordered : (keys : List Key) → IsInOrder keys x → Ascends keys numbers

-- the authority under a key has the form as its heading, by the index
abbrev pub is_headed_by : List Key → Indexed → Key → ℕ → Bool
is_headed_by keys x key form = option_map_or (is_headed All form) (option_and_then (λ number. row_under number x) (number_known keys key)) false

-- the key's authority has one of these forms as its established form
abbrev pub is_headed_by_any : List Key → Indexed → List ℕ → Key → Bool
is_headed_by_any keys x forms key = list_any (is_headed_by keys x key) forms
