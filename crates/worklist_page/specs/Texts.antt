-- Texts within a page. Source: HTML Living Standard (character references). That a control character is shown as U+FFFD is this
-- project's own.
use Rattle.std.specs.Prelude.{ℕ, ◌==◌, Bool, ◌||◌, nat_le, List, [], ◌∷◌, codes, if◌then◌else◌}
use Rattle.std.specs.List.{flat_map}

-- a control character of ASCII
abbrev pub is_control : ℕ → Bool
is_control b = nat_le b 0x1F || (b == 0x7F)

-- the replacement character U+FFFD, in UTF-8
abbrev pub replacement : List ℕ
replacement = 0xEF ∷ 0xBF ∷ 0xBD ∷ []

-- a byte of a text, as a page has it
abbrev pub html_byte : ℕ → List ℕ
html_byte b =
    if b == 0x26 then codes "&amp;"
    else if b == 0x3C then codes "&lt;"
    else if b == 0x3E then codes "&gt;"
    else if b == 0x22 then codes "&quot;"
    else if b == 0x27 then codes "&#39;"
    else if is_control b then replacement
    else b ∷ []

-- a text, as a page has it
abbrev pub html_text : List ℕ → List ℕ
html_text text = flat_map html_byte text

-- a byte that could begin or end a tag or a value: `<`, `>`, `"` or `'`
abbrev pub is_markup : ℕ → Bool
is_markup b = (b == 0x3C) || (b == 0x3E) || (b == 0x22) || (b == 0x27)
