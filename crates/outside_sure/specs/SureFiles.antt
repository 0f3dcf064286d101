-- What a sure room keeps under each name.
use Rattle.std.specs.Prelude.{◌≡◌, ◌≢◌, ℕ, ◌<◌, List, length, Option, Some, None, Bool}
use Rattle.std.specs.List.{find, position_or_len}
use Rattle.std.specs.Str.{bytes_eq}
use Rattle.std.specs.String.{string_bytes}
use Rattle.outside_sure.specs.declared.kept.Kept.{Kept}
use Rattle.outside_sure.specs.declared.sure_files.SureFile.{SureFile}

module _ {room : ℕ} where
  -- whether the entry has that name
  abbrev pub is_called : List ℕ → SureFile room → Bool
  is_called name file = bytes_eq (string_bytes file.name) name

  -- what the entry keeps
  abbrev pub kept_by : Option (SureFile room) → Option (Kept room)
  kept_by None = None
  kept_by (Some file) = Some file.kept

  -- what a list of entries keeps under a name
  unfoldable pub kept_in : List (SureFile room) → List ℕ → Option (Kept room)
  kept_in files name = kept_by (find (is_called name) files)

  -- the first entry of that name stands at that place
  pub record IsAt (files : List (SureFile room)) (name : List ℕ) (place : ℕ) : Type 0 where
    pub first : place ≡ position_or_len (is_called name) files
    pub within : place < length files

  -- no entry has that name
  pub record IsUncalled (files : List (SureFile room)) (name : List ℕ) : Type 0 where
    pub none : position_or_len (is_called name) files ≡ length files

  -- this is kept under the name now, and what is kept under any other stays
  pub record ChangesKept (old new : List (SureFile room)) (name : List ℕ) (kept : Option (Kept room)) : Type 0 where
    pub here : kept_in new name ≡ kept
    pub others : (n : List ℕ) → n ≢ name → kept_in new n ≡ kept_in old n

  -- what is kept at that place is changed so, whatever its name is, and what is kept under any other name stays
  abbrev pub ChangesKeptAt : List (SureFile room) → List (SureFile room) → ℕ → (Option (Kept room) → Option (Kept room)) → Type 0
  ChangesKeptAt old new place change = (name : List ℕ) → IsAt old name place → ChangesKept old new name (change (kept_in old name))
