-- The comparison text of a text: this project's profile of the NACO Authority File Comparison Rules (Program for Cooperative
-- Cataloging). Seven steps, each on the whole text, a list of code points.
use Rattle.std.specs.Prelude.{ℕ, Bool, true, false, ◌==◌, ◌&&◌, not, List, [], ◌∷◌, filter, flat_map, reverse, chars, encode_utf8_all, if◌then◌else◌}
use Rattle.unicode.specs.GeneralCategory.{general_category, general_category_eq}
use Rattle.unicode.specs.declared.properties.GeneralCategory.TheVariants.{NonspacingMark}
use Rattle.caseless.specs.Caseless.{default_case_fold}
use Rattle.unicode_normalization.specs.Forms.{nfd}
use Rattle.naco_form.specs.Table.{blank, comma, table_entry}

-- a nonspacing mark: general category Mn (The Unicode Standard, section 4.5)
abbrev pub is_mark : ℕ → Bool
is_mark c = general_category_eq (general_category c) NonspacingMark

-- step three: nonspacing marks are deleted
unfoldable pub without_marks : List ℕ → List ℕ
without_marks = filter (λ c. not (is_mark c))

-- step four: the table, character by character
unfoldable pub by_table : List ℕ → List ℕ
by_table = flat_map table_entry

-- the code whose first comma stays, `a`
abbrev pub keeps_first_comma : ℕ → Bool
keeps_first_comma code = code == 0x61

-- step five: each comma becomes a blank, but for the first one where it is kept
unfoldable pub commas : Bool → List ℕ → List ℕ
commas keep [] = []
commas keep (c ∷ cs) =
    if c == comma then (if keep then comma else blank) ∷ commas false cs else c ∷ commas keep cs

-- blanks at the front go
unfoldable pub trim_front : List ℕ → List ℕ
trim_front [] = []
trim_front (c ∷ cs) = if c == blank then trim_front cs else c ∷ cs

-- blanks at the end go
unfoldable pub trim_end : List ℕ → List ℕ
trim_end cs = reverse (trim_front (reverse cs))

-- a blank, or nothing, comes first
abbrev pub begins_blank : List ℕ → Bool
begins_blank [] = true
begins_blank (c ∷ cs) = c == blank

-- of each run of blanks the last one stays, and none at the end
unfoldable pub single_blanks : List ℕ → List ℕ
single_blanks [] = []
single_blanks (c ∷ cs) = if c == blank && begins_blank cs then single_blanks cs else c ∷ single_blanks cs

-- step six: each run of blanks becomes one blank, and blanks at the front and the end go
unfoldable pub squeezed : List ℕ → List ℕ
squeezed cs = single_blanks (trim_front cs)

-- a comma that comes first goes
abbrev pub drop_first_comma : List ℕ → List ℕ
drop_first_comma [] = []
drop_first_comma (c ∷ cs) = if c == comma then cs else c ∷ cs

-- step seven: where the last character is now a comma it goes, and blanks at the end go
unfoldable pub without_last_comma : List ℕ → List ℕ
without_last_comma cs = trim_end (reverse (drop_first_comma (reverse cs)))

-- steps five to seven
unfoldable pub tidied : ℕ → List ℕ → List ℕ
tidied code cs = without_last_comma (squeezed (commas (keeps_first_comma code) cs))

-- the comparison text of the characters of a subfield with this code: folded, decomposed, without marks, by the table, tidied
unfoldable pub comparison_text : ℕ → List ℕ → List ℕ
comparison_text code cs = tidied code (by_table (without_marks (nfd (default_case_fold cs))))

-- the same of a text and in a text, both as the bytes of their UTF-8
unfoldable pub comparison_bytes : ℕ → List ℕ → List ℕ
comparison_bytes code bytes = encode_utf8_all (comparison_text code (chars bytes))
