-- The table of characters: this project's profile of the NACO Authority File Comparison Rules (Program for Cooperative
-- Cataloging), their treatment of special letters, of punctuation and of marks. It is read after folding and decomposition,
-- so it names small letters alone.
use Rattle.std.specs.Prelude.{ℕ, Bool, ◌==◌, ◌||◌, ◌&&◌, not, nat_lt, nat_le, List, [], ◌∷◌, codes, if◌then◌else◌}

-- the blank
abbrev pub blank : ℕ
blank = 0x20

-- the comma
abbrev pub comma : ℕ
comma = 0x2C

-- the apostrophe, the square brackets, and the letters of transliterations that look like quotes (02BB, 02BC, 02B9, 02BA)
abbrev pub is_left_out : ℕ → Bool
is_left_out c = c == 0x27 || c == 0x5B || c == 0x5D || c == 0x2BB || c == 0x2BC || c == 0x2B9 || c == 0x2BA

-- `#`, `&`, `+`, `@`, and the comma, of which a later step decides
abbrev pub is_kept_sign : ℕ → Bool
is_kept_sign c = c == 0x23 || c == 0x26 || c == 0x2B || c == 0x40 || c == comma

-- a digit or a letter of ASCII
abbrev pub is_alphanumeric : ℕ → Bool
is_alphanumeric c = (nat_le 0x30 c && nat_le c 0x39) || (nat_le 0x41 c && nat_le c 0x5A) || (nat_le 0x61 c && nat_le c 0x7A)

-- the characters below A0 that are no letter and no digit: ASCII's signs and blank, and the control characters
abbrev pub is_sign : ℕ → Bool
is_sign c = nat_lt c 0xA0 && not (is_alphanumeric c)

-- what one character becomes; every character that isn't named here stays, `♭` and `♯` among them
unfoldable pub table_entry : ℕ → List ℕ
table_entry c =
    if c == 0xE6 then codes "ae" else ( -- æ
    if c == 0x153 then codes "oe" else ( -- œ
    if c == 0xF8 then codes "o" else ( -- ø
    if c == 0x142 then codes "l" else ( -- ł
    if c == 0x111 then codes "d" else ( -- đ
    if c == 0xF0 then codes "d" else ( -- ð
    if c == 0xFE then codes "th" else ( -- þ
    if c == 0x131 then codes "i" else ( -- ı
    if c == 0x2113 then codes "l" else ( -- ℓ
    if is_left_out c then [] else (
    if is_kept_sign c then c ∷ [] else (
    if is_sign c then blank ∷ [] else c ∷ [])))))))))))
