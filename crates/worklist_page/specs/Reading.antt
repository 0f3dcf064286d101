-- What a reader finds in a page. Source: HTML Living Standard (tags, character references), of which this is the part that pages here use.
use Rattle.std.specs.Prelude.{ℕ, ◌==◌, List, [], ◌∷◌, ◌++◌, Option, Some, None, bytes_eq, codes, if◌then◌else◌}
use Rattle.std.specs.List.{flat_map}
use Rattle.worklist_page.specs.Texts.{is_control, replacement}

-- what stands between each `<` and the next `>`; in a tag what was read of it is there
unfoldable pub tags_from : Option (List ℕ) → List ℕ → List (List ℕ)
tags_from None [] = []
tags_from (Some read) [] = []
tags_from None (b ∷ bytes) = if b == 0x3C then tags_from (Some []) bytes else tags_from None bytes
tags_from (Some read) (b ∷ bytes) = if b == 0x3E then read ∷ tags_from None bytes else tags_from (Some (read ++ b ∷ [])) bytes

-- the tags of a page
abbrev pub tags_in : List ℕ → List (List ℕ)
tags_in bytes = tags_from None bytes

-- the character that a reference names; the page has no others
abbrev pub referred : List ℕ → List ℕ
referred name =
    if bytes_eq name (codes "amp") then 0x26 ∷ []
    else if bytes_eq name (codes "lt") then 0x3C ∷ []
    else if bytes_eq name (codes "gt") then 0x3E ∷ []
    else if bytes_eq name (codes "quot") then 0x22 ∷ []
    else if bytes_eq name (codes "#39") then 0x27 ∷ []
    else []

-- a text with its references replaced: each begins with `&` and ends with `;`, and what was read of one is there
unfoldable pub text_from : Option (List ℕ) → List ℕ → List ℕ
text_from None [] = []
text_from (Some read) [] = []
text_from None (b ∷ bytes) = if b == 0x26 then text_from (Some []) bytes else b ∷ text_from None bytes
text_from (Some read) (b ∷ bytes) = if b == 0x3B then referred read ++ text_from None bytes else text_from (Some (read ++ b ∷ [])) bytes

-- the text that a reader finds
abbrev pub text_in : List ℕ → List ℕ
text_in bytes = text_from None bytes

-- a byte as it is shown
abbrev pub shown_byte : ℕ → List ℕ
shown_byte b = if is_control b then replacement else b ∷ []

-- a text as it is shown: its control characters are replaced
abbrev pub shown_text : List ℕ → List ℕ
shown_text text = flat_map shown_byte text
