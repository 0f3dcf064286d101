-- The keys that a field names, noted one after the other.
use Rattle.std.specs.Prelude.{◌≡◌, ◌||◌, Bool, true, List}
use Rattle.std.specs.List.{list_any}
use Rattle.marc_types.specs.Order.{same_key}
use Rattle.marc_types.specs.declared.key.Key.{Key}
use Rattle.entry_record.specs.Authority.{is_valid_key}

-- the keys that stood there, and those that pass a test
abbrev pub NotesKeys : (Key → Bool) → List Key → List Key → Type 0
NotesKeys test old new = (key : Key) → list_any (same_key key) new ≡ (list_any (same_key key) old || test key)

-- the same of proper keys
abbrev pub NotesProperKeys : (Key → Bool) → List Key → List Key → Type 0
NotesProperKeys test old new = (key : Key) → is_valid_key key ≡ true → list_any (same_key key) new ≡ (list_any (same_key key) old || test key)
