-- Record control numbers in `$0`. Source: MARC 21, control subfield $0: the MARC organization code in parentheses,
-- followed by the number.
use Rattle.std.specs.Prelude.{ℕ, ◌==◌, Bool, ◌&&◌, not, List, ◌∷◌, ◌++◌, filter, bytes_eq}
use Rattle.std.specs.List.{list_all}
use Rattle.marc_types.specs.declared.field.Subfield.{Subfield}
use Rattle.marc_types.specs.declared.key.Key.{Key}

-- a text without its blanks
abbrev pub without_blanks : List ℕ → List ℕ
without_blanks bytes = filter (λ b. not (b == 0x20)) bytes

-- the text of a key: the code in parentheses, and the number
unfoldable pub key_text : Key → List ℕ
key_text key = 0x28 ∷ key.code ++ 0x29 ∷ key.number

-- a `$0` names a key where its text without blanks is the key's text
unfoldable pub is_naming : Key → Subfield → Bool
is_naming key s = (s.code == 48) && bytes_eq (without_blanks s.text) (key_text key)

-- the subfields without each `$0` that names the key
abbrev pub unnumbered : Key → List Subfield → List Subfield
unnumbered key subs = filter (λ s. not (is_naming key s)) subs

-- the `$0` of a key
abbrev pub number_of : Key → Subfield
number_of key = record { code = 48; text = key_text key }

-- neither the code nor the number has a blank, as in the keys of records
unfoldable pub is_blankless : Key → Bool
is_blankless key = list_all (λ b. not (b == 0x20)) key.code && list_all (λ b. not (b == 0x20)) key.number
