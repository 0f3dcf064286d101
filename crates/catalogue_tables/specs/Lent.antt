-- Keys by their numbers, and forms as they are lent.
use Rattle.std.specs.Prelude.{ℕ, ◌<◌, List, length, map, filter_map, slice_get}
use Rattle.std.specs.List.{AllByRecursion}
use Rattle.marc_types.specs.declared.key.Key.{Key}
use Rattle.marc_types.specs.declared.form.Form.{Form}
use Rattle.std.specs.Borrow.{Bor}
use Rattle.form_index.specs.Order.{key_at}

-- each number is a key's
abbrev pub AreGiven : List Key → List ℕ → Type 0
AreGiven keys numbers = AllByRecursion (λ n. n < length keys) numbers

-- the keys that have these numbers
abbrev pub keys_of : List Key → List ℕ → List Key
keys_of keys numbers = map (key_at keys) numbers

-- the same, where a number that is no key's has none
abbrev pub keys_at : List Key → List ℕ → List Key
keys_at keys numbers = filter_map (slice_get keys) numbers

-- forms as they are lent
abbrev pub shown_forms : List (Bor Form) → List Form
shown_forms forms = map (λ form. form.now) forms
