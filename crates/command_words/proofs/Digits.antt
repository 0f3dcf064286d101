-- The number that a word of digits spells.
use Rattle.std.proofs.Common.{◌≡◌, ℕ, ◌<◌, ◌^◌, true, List, length, Result, rules, tests}
use Rattle.std.specs.List.{list_all}
use Rattle.std.specs.Result.{OkIff}
use Rattle.std.specs.Str.Parse.{ParsesUnsigned, digits_value}
use Rattle.std.proofs.lemmas.Str.Parse.{IsNumeralModel, IsDigitsTest, numerals_by_value, parse_digits}
use Rattle.marc_types.specs.Valid.{is_digit}

all_digits_test : IsDigitsTest (λ ds. list_all is_digit ds ≡ true)
all_digits_test = search (rules, tests)

all_digits : IsNumeralModel (λ ds. list_all is_digit ds ≡ true) (digits_value 10)
all_digits = numerals_by_value _ all_digits_test

-- a word of digits alone parses to its value, if that is below the type's bound
pub parsed_digits : {E : Type 0} (word : List ℕ) (result : Result ℕ E) → ParsesUnsigned 64 10 word result → list_all is_digit word ≡ true
    → OkIff result ((0 < length word) × (digits_value 10 word < 2 ^ 64)) (digits_value 10 word)
parsed_digits word result parsed digits = parse_digits all_digits 64 word result parsed digits
