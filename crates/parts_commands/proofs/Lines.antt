-- The line that tells numbers, and how it is read again.
use Rattle.std.proofs.Common.{◌≡◌, ◌≢◌, ℕ, ◌+◌, ◌-◌, ◌<◌, ◌^◌, Bool, true, false, true≢false, ◌&&◌, cond, nat_le, List, [], ◌∷◌, ◌++◌, length, take, drop, Result, Ok, Err, refl, sym, ap, ◌∙◌, subst, arith, append_assoc, leb-true, rules, tests, length-append, take_all, take_at, drop_at}
use Rattle.std.specs.Prelude.{All, codes, IsUtf8}
use Rattle.std.specs.List.{list_all, prefix_len}
use Rattle.std.specs.Fmt.{decimal}
use Rattle.std.specs.Result.{OkIff}
use Rattle.std.specs.Str.Parse.{ParsesUnsigned, digits_value}
use Rattle.std.proofs.lemmas.Str.Parse.{IsNumeralModel, IsDigitsTest, numerals_by_value, parse_digits}
use Rattle.std.proofs.lemmas.Str.{IsUtf8-from_ascii}
use Rattle.std.proofs.lemmas.Fmt.{digits_decimal, digits_value-decimal, IsAscii-decimal, decimal_nonempty}
use Rattle.std.proofs.lemmas.List.Elements.{All-append, All-nil, All-cons}
use Rattle.marc_types.specs.Valid.{is_digit}
use Rattle.catalogue_parts.specs.declared.totals.Totals.{Totals}
use Rattle.catalogue_parts.specs.Joined.{line_of_totals}
use Rattle.parts_commands.specs.Reports.{AreSmall}

all_digits_test : IsDigitsTest (λ ds. list_all is_digit ds ≡ true)
all_digits_test = search (rules, tests)

pub all_digits : IsNumeralModel (λ ds. list_all is_digit ds ≡ true) (digits_value 10)
all_digits = numerals_by_value _ all_digits_test

are_digits : (n : ℕ) → n < 2 ^ 64 → list_all is_digit (decimal n) ≡ true
are_digits n small = digits_decimal all_digits n small

-- ---- a number in front of other bytes

no_digit : (b : ℕ) → b < 48 → is_digit b ≡ false
no_digit b low = by (nat_le 48 b) refl
  where
    by : (t : Bool) → nat_le 48 b ≡ t → (t && nat_le b 57) ≡ false
    by true e = absurd (omega (arith, low, leb-true 48 b e))
    by false e = refl

digits_len : (ds rest : List ℕ) (next : ℕ) → list_all is_digit ds ≡ true → next < 48 → prefix_len is_digit (ds ++ next ∷ rest) ≡ length ds
digits_len [] rest next all low = ap (λ t. cond t (1 + prefix_len is_digit rest) 0) (no_digit next low)
digits_len (d ∷ ds) rest next all low = by (is_digit d) all (λ more. digits_len ds rest next more low)
  where
    by : (t : Bool) → (t && list_all is_digit ds) ≡ true → (list_all is_digit ds ≡ true → prefix_len is_digit (ds ++ next ∷ rest) ≡ length ds)
        → cond t (1 + prefix_len is_digit (ds ++ next ∷ rest)) 0 ≡ length (d ∷ ds)
    by true more len = omega (arith, len more)
    by false more len = absurd (true≢false (sym more))

pub number_len : (n next : ℕ) (rest : List ℕ) → n < 2 ^ 64 → next < 48 → prefix_len is_digit (decimal n ++ next ∷ rest) ≡ length (decimal n)
number_len n next rest small low = digits_len (decimal n) rest next (are_digits n small) low

-- the number, and what stands behind it
pub number_split : (b : List ℕ) (len number next : ℕ) (rest : List ℕ) → b ≡ decimal number ++ next ∷ rest → len ≡ prefix_len is_digit b → number < 2 ^ 64
    → next < 48 → (take len b ≡ decimal number) × (take (length b - len) (drop len b) ≡ next ∷ rest)
number_split b len number next rest is count small low =
    let size : length (decimal number) ≡ len = sym (number_len number next rest small low) ∙ ap (prefix_len is_digit) (sym is) ∙ sym count in
    let front : take len b ≡ decimal number = ap (take len) is ∙ take_at (decimal number) (next ∷ rest) len size in
    let behind : drop len b ≡ next ∷ rest = ap (drop len) is ∙ drop_at (decimal number) (next ∷ rest) len size in
    let whole : length b ≡ length (decimal number) + length (next ∷ rest) = ap length is ∙ length-append (decimal number) (next ∷ rest) in
    (front, ap (take (length b - len)) behind ∙ take_all (length b - len) (next ∷ rest) (omega (arith, whole, size)))

-- the digits are parsed to the number
pub parsed : {E : Type 0} (word : List ℕ) (result : Result ℕ E) (n : ℕ) → ParsesUnsigned 64 10 word result → word ≡ decimal n → n < 2 ^ 64 → result ≡ Ok n
parsed {E = E} word result n parses is small =
    let digits : list_all is_digit word ≡ true = ap (list_all is_digit) is ∙ are_digits n small in
    let value : digits_value 10 word ≡ n = ap (digits_value 10) is ∙ digits_value-decimal all_digits n small in
    let some : 0 < length word = omega (arith, ap length is, decimal_nonempty n small) in
    by result (parse_digits all_digits 64 word result parses digits) value some
  where
    by : (r : Result ℕ E) → OkIff r ((0 < length word) × (digits_value 10 word < 2 ^ 64)) (digits_value 10 word) → digits_value 10 word ≡ n → 0 < length word → r ≡ Ok n
    by (Ok x) found value some = ap Ok (found.1 ∙ value)
    by (Err e) none value some = absurd (none (some, omega (arith, value, small)))

pub is_text : (word : List ℕ) (n : ℕ) → word ≡ decimal n → n < 2 ^ 64 → IsUtf8 word
is_text word n is small = subst IsUtf8 (sym is) (IsUtf8-from_ascii (decimal n) (IsAscii-decimal n small))

-- ---- the parts of the line

abbrev pub end_of_line : List ℕ
end_of_line = 10 ∷ []

-- the line from each word on
abbrev pub from_unlinked : Totals → List ℕ
from_unlinked t = codes " unlinked=" ++ decimal t.unlinked ++ end_of_line

abbrev pub from_ambiguous : Totals → List ℕ
from_ambiguous t = codes " ambiguous=" ++ decimal t.ambiguous ++ from_unlinked t

abbrev pub from_linked : Totals → List ℕ
from_linked t = codes " linked=" ++ decimal t.linked ++ from_ambiguous t

abbrev pub from_bibliographic : Totals → List ℕ
from_bibliographic t = codes " bibliographic=" ++ decimal t.bibliographic ++ from_linked t

abbrev pub from_authorities : Totals → List ℕ
from_authorities t = codes "TOTAL authorities=" ++ decimal t.authorities ++ from_bibliographic t

one_more : (before word number rest : List ℕ) → (before ++ word ++ number) ++ rest ≡ before ++ ((word ++ number) ++ rest)
one_more before word number rest = ap (λ l. l ++ rest) (append_assoc before word number) ∙ append_assoc before (word ++ number) rest

parts_of_five : (one a b c d e f g h end : List ℕ)
    → (((((((one ++ a) ++ b) ++ c) ++ d) ++ e) ++ f) ++ g ++ h) ++ end ≡ one ++ ((a ++ b) ++ ((c ++ d) ++ ((e ++ f) ++ ((g ++ h) ++ end))))
parts_of_five one a b c d e f g h end =
    one_more (((((one ++ a) ++ b) ++ c) ++ d) ++ e ++ f) g h end
    ∙ one_more ((((one ++ a) ++ b) ++ c) ++ d) e f ((g ++ h) ++ end)
    ∙ one_more ((one ++ a) ++ b) c d ((e ++ f) ++ ((g ++ h) ++ end))
    ∙ one_more one a b ((c ++ d) ++ ((e ++ f) ++ ((g ++ h) ++ end)))

pub line_parts : (t : Totals) → line_of_totals t ≡ from_authorities t
line_parts t =
    parts_of_five (codes "TOTAL authorities=" ++ decimal t.authorities) (codes " bibliographic=") (decimal t.bibliographic) (codes " linked=") (decimal t.linked)
    (codes " ambiguous=") (decimal t.ambiguous) (codes " unlinked=") (decimal t.unlinked) end_of_line

-- ---- no line ends in it but at its end

abbrev IsPlain : List ℕ → Type 0
IsPlain bytes = All (λ b. b ≢ 10) bytes

abbrev is_plain_byte : ℕ → Bool
is_plain_byte b = nat_le 11 b

plain_tested : (bytes : List ℕ) → list_all is_plain_byte bytes ≡ true → IsPlain bytes
plain_tested [] all = All-nil (λ b. b ≢ 10)
plain_tested (b ∷ bytes) all = by (nat_le 11 b) refl all (plain_tested bytes)
  where
    by : (t : Bool) → nat_le 11 b ≡ t → (t && list_all is_plain_byte bytes) ≡ true → (list_all is_plain_byte bytes ≡ true → IsPlain bytes) → IsPlain (b ∷ bytes)
    by true e more rest = All-cons (λ b. b ≢ 10) b bytes (λ same. absurd (omega (arith, leb-true 11 b e, same))) (rest more)
    by false e more rest = absurd (true≢false (sym more))

digit_plain : (ds : List ℕ) → list_all is_digit ds ≡ true → IsPlain ds
digit_plain [] all = All-nil (λ b. b ≢ 10)
digit_plain (d ∷ ds) all = by (nat_le 48 d) refl (nat_le d 57) all (digit_plain ds)
  where
    by : (t : Bool) → nat_le 48 d ≡ t → (u : Bool) → ((t && u) && list_all is_digit ds) ≡ true → (list_all is_digit ds ≡ true → IsPlain ds) → IsPlain (d ∷ ds)
    by true e true more rest = All-cons (λ b. b ≢ 10) d ds (λ same. absurd (omega (arith, leb-true 48 d e, same))) (rest more)
    by true e false more rest = absurd (true≢false (sym more))
    by false e u more rest = absurd (true≢false (sym more))

plain_more : (before word number : List ℕ) → IsPlain before → IsPlain word → IsPlain number → IsPlain (before ++ word ++ number)
plain_more before word number first second third =
    All-append (λ b. b ≢ 10) (before ++ word) number (All-append (λ b. b ≢ 10) before word first second) third

plain_number : (n : ℕ) → n < 2 ^ 64 → IsPlain (decimal n)
plain_number n small = digit_plain (decimal n) (are_digits n small)

-- the line without its end
abbrev pub words_of : Totals → List ℕ
words_of t =
    codes "TOTAL authorities=" ++ decimal t.authorities ++ codes " bibliographic=" ++ decimal t.bibliographic ++ codes " linked=" ++ decimal t.linked
    ++ codes " ambiguous=" ++ decimal t.ambiguous ++ codes " unlinked=" ++ decimal t.unlinked

pub plain_words : (t : Totals) → AreSmall t → IsPlain (words_of t)
plain_words t small =
    let one : List ℕ = codes "TOTAL authorities=" ++ decimal t.authorities in
    let two : List ℕ = one ++ codes " bibliographic=" ++ decimal t.bibliographic in
    let three : List ℕ = two ++ codes " linked=" ++ decimal t.linked in
    let four : List ℕ = three ++ codes " ambiguous=" ++ decimal t.ambiguous in
    plain_more four (codes " unlinked=") (decimal t.unlinked)
    (plain_more three (codes " ambiguous=") (decimal t.ambiguous)
    (plain_more two (codes " linked=") (decimal t.linked)
    (plain_more one (codes " bibliographic=") (decimal t.bibliographic)
    (All-append (λ b. b ≢ 10) (codes "TOTAL authorities=") (decimal t.authorities) (plain_tested (codes "TOTAL authorities=") refl) (plain_number t.authorities small.authorities))
    (plain_tested (codes " bibliographic=") refl) (plain_number t.bibliographic small.bibliographic))
    (plain_tested (codes " linked=") refl) (plain_number t.linked small.linked))
    (plain_tested (codes " ambiguous=") refl) (plain_number t.ambiguous small.ambiguous))
    (plain_tested (codes " unlinked=") refl) (plain_number t.unlinked small.unlinked)
