-- Numbers that are read back from their bytes.
use Rattle.std.proofs.Common.{◌≡◌, ◌∙◌, ℕ, zero, suc, ◌<◌, List, [], ◌∷◌, ◌++◌, length, get_or, take, drop, sym, ap, subst, arith, Fits, w8}
use Rattle.std.proofs.lemmas.List.{take-append-drop}
use Rattle.std.proofs.lemmas.Nat.{be_bytes_4, be_bytes_8}
use Rattle.std.specs.Int.{w32, w64, to_be_bytes, from_be_bytes}

pub byte : (n : ℕ) → Fits w8 n → n < 256
byte n fits = omega (arith, fits)

take_small : (n : ℕ) (xs : List ℕ) → ((i : ℕ) → Fits w8 (get_or xs i 0)) → (i : ℕ) → get_or (take n xs) i 0 < 256
take_small zero xs h i = omega arith
take_small (suc n) [] h i = omega arith
take_small (suc n) (x ∷ xs) h zero = byte x (h 0)
take_small (suc n) (x ∷ xs) h (suc i) = take_small n xs (λ k. h (suc k)) i

pub long_read : (bytes number rest : List ℕ) (n : ℕ) → number ≡ take 8 bytes → rest ≡ drop 8 bytes → length number ≡ 8
    → ((i : ℕ) → Fits w8 (get_or bytes i 0)) → n ≡ from_be_bytes w64 number → bytes ≡ to_be_bytes w64 n ++ rest
long_read bytes number rest n front behind len small is =
    sym (take-append-drop 8 bytes) ∙ ap (λ xs. take 8 bytes ++ xs) (sym behind) ∙ ap (λ xs. xs ++ rest) (sym front ∙ sym (be_bytes_8 number n len (λ i. subst (λ xs. get_or xs i 0 < 256) (sym front) (take_small 8 bytes small i)) is))

pub short_read : (bytes number rest : List ℕ) (n : ℕ) → number ≡ take 4 bytes → rest ≡ drop 4 bytes → length number ≡ 4
    → ((i : ℕ) → Fits w8 (get_or bytes i 0)) → n ≡ from_be_bytes w32 number → bytes ≡ to_be_bytes w32 n ++ rest
short_read bytes number rest n front behind len small is =
    sym (take-append-drop 4 bytes) ∙ ap (λ xs. take 4 bytes ++ xs) (sym behind) ∙ ap (λ xs. xs ++ rest) (sym front ∙ sym (be_bytes_4 number n len (λ i. subst (λ xs. get_or xs i 0 < 256) (sym front) (take_small 4 bytes small i)) is))
