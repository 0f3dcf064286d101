-- Texts of a workload: none has a terminator or a delimiter, and each is short.
use Rattle.std.proofs.Common.{◌≡◌, ℕ, ◌+◌, ◌<◌, ◌≤◌, ◌^◌, true, List, [], ◌∷◌, ◌++◌, length, refl, arith, ◌∙◌, length-append}
use Rattle.std.specs.List.{list_all}
use Rattle.std.specs.Fmt.{decimal}
use Rattle.std.specs.Str.Parse.{AllDigits}
use Rattle.std.proofs.lemmas.Bool.{and_from}
use Rattle.std.proofs.lemmas.Bool.Decides.{nat_tests}
use Rattle.std.proofs.lemmas.List.Folds.{list_all-append}
use Rattle.std.proofs.lemmas.Fmt.{decimal_is_IsNumeral, length-decimal-le}
use Rattle.std.proofs.lemmas.Str.Parse.{digit_from_value}
use Rattle.marc_types.specs.Valid.{is_data, is_text}

-- data of so many bytes at most
pub record IsPlain (most : ℕ) (text : List ℕ) : Type 0 where
  pub good : is_text text ≡ true
  pub short : length text ≤ most

digit_is_data : (d : ℕ) → 48 ≤ d → d ≤ 57 → is_data d ≡ true
digit_is_data d low high = grind (arith, nat_tests)

digits_are_data : (ds : List ℕ) → AllDigits 10 ds → list_all is_data ds ≡ true
digits_are_data [] digits = refl
digits_are_data (d ∷ ds) digits =
    let range = digit_from_value d digits.0 in
    and_from _ _ (digit_is_data d (omega arith) (omega arith)) (digits_are_data ds digits.1)

pub plain_decimal : (n : ℕ) → n < 2 ^ 64 → IsPlain 20 (decimal n)
unfolding is_text
plain_decimal n small = record {
  good = digits_are_data (decimal n) (decimal_is_IsNumeral n small).0.1;
  short = length-decimal-le 20 n (omega arith) (omega arith) small;
}

pub plain_append : (p q : ℕ) (a b : List ℕ) → IsPlain p a → IsPlain q b → IsPlain (p + q) (a ++ b)
unfolding is_text
plain_append p q a b first second = record {
  good = list_all-append is_data a b ∙ and_from _ _ first.good second.good;
  short = let e = length-append a b in omega (arith, e, first.short, second.short);
}
