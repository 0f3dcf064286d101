-- International Standard Book Numbers. Source: ISO 2108, in the form of ten characters and in that of thirteen digits. What a
-- cataloguer may add behind a blank, and hyphens, are no part of the number.
use Rattle.std.specs.Prelude.{ℕ, ◌+◌, ◌-◌, ◌*◌, ◌%◌, ◌==◌, Bool, ◌&&◌, ◌||◌, not, List, [], ◌∷◌, ◌++◌, length, take, take_while, filter, slice_index, nat_eq, codes, Option, Some, None, if◌then◌else◌}
use Rattle.std.specs.List.{list_all, starts_with}
use Rattle.marc_types.specs.Valid.{is_digit}

-- what stands before the first blank, without hyphens
abbrev pub printed_number : List ℕ → List ℕ
printed_number text = filter (λ b. not (b == 45)) (take_while (λ b. not (b == 32)) text)

-- `X` or `x`, which counts ten
abbrev pub is_x : ℕ → Bool
is_x b = (b == 88) || (b == 120)

-- the value of a character: that of a digit, and 10 of X
abbrev pub value_of : ℕ → ℕ
value_of b = if is_x b then 10 else b - 48

-- the sum of the characters' values, each times its weight
abbrev pub weighted : List ℕ → List ℕ → ℕ
weighted [] text = 0
weighted (w ∷ weights) [] = 0
weighted (w ∷ weights) (b ∷ text) = w * value_of b + weighted weights text

-- the last of ten characters is a digit or X
abbrev pub is_check : ℕ → Bool
is_check b = is_digit b || is_x b

-- the older form: nine digits and a check character, whose sum by the weights 10 to 1 is a multiple of 11
unfoldable pub is_isbn_ten : List ℕ → Bool
is_isbn_ten text =
    (length text == 10) && list_all is_digit (take 9 text) && is_check (slice_index text 9)
    && (weighted (10 ∷ 9 ∷ 8 ∷ 7 ∷ 6 ∷ 5 ∷ 4 ∷ 3 ∷ 2 ∷ 1 ∷ []) text % 11 == 0)

-- the weights of thirteen digits, 1 and 3 in turn
abbrev pub in_turn : List ℕ
in_turn = 1 ∷ 3 ∷ 1 ∷ 3 ∷ 1 ∷ 3 ∷ 1 ∷ 3 ∷ 1 ∷ 3 ∷ 1 ∷ 3 ∷ 1 ∷ []

-- the prefixes of books
abbrev pub has_prefix : List ℕ → Bool
has_prefix text = starts_with nat_eq text (codes "978") || starts_with nat_eq text (codes "979")

-- today's form: thirteen digits that begin with 978 or 979, whose sum by the weights 1 and 3 is a multiple of 10
unfoldable pub is_isbn_thirteen : List ℕ → Bool
is_isbn_thirteen text =
    (length text == 13) && list_all is_digit text && has_prefix text
    && (weighted in_turn text % 10 == 0)

-- the digit that makes the sum of thirteen a multiple of 10
unfoldable pub check_digit : List ℕ → ℕ
check_digit digits = 48 + (10 - weighted in_turn digits % 10) % 10

-- a number of the older form in today's: 978, the nine digits, and their check digit
unfoldable pub thirteen_of : List ℕ → List ℕ
thirteen_of ten = let digits = codes "978" ++ take 9 ten in digits ++ check_digit digits ∷ []

-- the ISBN of thirteen digits that ten or thirteen characters give, where they do
abbrev pub isbn_of_printed : List ℕ → Option (List ℕ)
isbn_of_printed text =
    if is_isbn_ten text then Some (thirteen_of text) else (if is_isbn_thirteen text then Some text else None)

-- the number of a text, as thirteen digits
abbrev pub isbn_of : List ℕ → Option (List ℕ)
isbn_of text = isbn_of_printed (printed_number text)
