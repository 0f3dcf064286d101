-- What the tests of numbers say of their characters.
use Rattle.std.proofs.Common.{◌≡◌, ℕ, ◌%◌, ◌==◌, true, ◌&&◌, List, ◌∷◌, [], length, take, slice_index, ap}
use Rattle.std.specs.List.{list_all}
use Rattle.std.proofs.lemmas.Bool.{and_parts}
use Rattle.std.specs.Cmp.{unsigned_Decides}
use Rattle.marc_types.specs.Valid.{is_digit}
use Rattle.match_report.specs.Isbn.{weighted, in_turn, is_check, has_prefix, is_isbn_ten, is_isbn_thirteen}

pub ten_long : (ten : List ℕ) → is_isbn_ten ten ≡ true → length ten ≡ 10
unfolding is_isbn_ten
ten_long ten h =
    let first = and_parts ((length ten == 10) && list_all is_digit (take 9 ten) && is_check (slice_index ten 9)) (weighted (10 ∷ 9 ∷ 8 ∷ 7 ∷ 6 ∷ 5 ∷ 4 ∷ 3 ∷ 2 ∷ 1 ∷ []) ten % 11 == 0) h in
    let second = and_parts ((length ten == 10) && list_all is_digit (take 9 ten)) (is_check (slice_index ten 9)) first.0 in
    let third = and_parts (length ten == 10) (list_all is_digit (take 9 ten)) second.0 in
    (unsigned_Decides (length ten) 10).0 third.0

pub thirteen_long : (text : List ℕ) → is_isbn_thirteen text ≡ true → length text ≡ 13
unfolding is_isbn_thirteen
thirteen_long text h =
    let first = and_parts ((length text == 13) && list_all is_digit text && has_prefix text) (weighted in_turn text % 10 == 0) h in
    let second = and_parts ((length text == 13) && list_all is_digit text) (has_prefix text) first.0 in
    let third = and_parts (length text == 13) (list_all is_digit text) second.0 in
    (unsigned_Decides (length text) 13).0 third.0

pub ten_from : (text : List ℕ) (sum : ℕ) → length text ≡ 10 → list_all is_digit (take 9 text) ≡ true → is_check (slice_index text 9) ≡ true →
    sum ≡ weighted (10 ∷ 9 ∷ 8 ∷ 7 ∷ 6 ∷ 5 ∷ 4 ∷ 3 ∷ 2 ∷ 1 ∷ []) text → (sum % 11 == 0) ≡ is_isbn_ten text
unfolding is_isbn_ten
ten_from text sum long digits check is = rw (long, digits, check) (ap (λ n. n % 11 == 0) is)

pub thirteen_from : (text : List ℕ) (sum : ℕ) → length text ≡ 13 → list_all is_digit text ≡ true → has_prefix text ≡ true →
    sum ≡ weighted in_turn text → (sum % 10 == 0) ≡ is_isbn_thirteen text
unfolding is_isbn_thirteen
thirteen_from text sum long digits prefix is = rw (long, digits, prefix) (ap (λ n. n % 10 == 0) is)
