-- How the bytes of a header are compared with both headers.
use Rattle.std.proofs.Common.{◌≡◌, ◌≢◌, ◌⊎◌, inl, inr, ℕ, ◌+◌, ◌<◌, List, length, get_or, drop, Some, cond, ◌==◌, ◌||◌, refl, ◌∷◌, arith}
use Rattle.std.proofs.lemmas.List.{drop_more}
use Rattle.std.proofs.lemmas.Bool.Decides.{nat_tests}
use Rattle.commit_journal.specs.Log.{first_differing}

first_differing_cons : (place a b byte : ℕ) (first second bytes : List ℕ)
    → first_differing place (a ∷ first) (b ∷ second) (byte ∷ bytes) ≡ cond ((byte == a) || (byte == b)) (first_differing (place + 1) first second bytes) (Some place)
unfolding first_differing
first_differing_cons place a b byte first second bytes = refl

step : (place i : ℕ) (first second bytes : List ℕ) → i < length first → i < length second → i < length bytes
    → first_differing place (drop i first) (drop i second) (drop i bytes)
    ≡ cond ((get_or bytes i 0 == get_or first i 0) || (get_or bytes i 0 == get_or second i 0))
    (first_differing (place + 1) (drop (i + 1) first) (drop (i + 1) second) (drop (i + 1) bytes)) (Some place)
step place i first second bytes in_first in_second in_bytes =
    rw (drop_more first i 0 in_first, drop_more second i 0 in_second, drop_more bytes i 0 in_bytes) (first_differing_cons place _ _ _ _ _ _)

-- a byte that is in its place in one of them
pub differing_passes : (place i : ℕ) (first second bytes : List ℕ) → i < length first → i < length second → i < length bytes
    → (get_or bytes i 0 ≡ get_or first i 0) ⊎ (get_or bytes i 0 ≡ get_or second i 0)
    → first_differing place (drop i first) (drop i second) (drop i bytes) ≡ first_differing (place + 1) (drop (i + 1) first) (drop (i + 1) second) (drop (i + 1) bytes)
differing_passes place i first second bytes in_first in_second in_bytes (inl same) = let s = step place i first second bytes in_first in_second in_bytes in grind (arith, nat_tests)
differing_passes place i first second bytes in_first in_second in_bytes (inr same) = let s = step place i first second bytes in_first in_second in_bytes in grind (arith, nat_tests)

-- a byte that is in its place in neither
pub differing_here : (place i : ℕ) (first second bytes : List ℕ) → i < length first → i < length second → i < length bytes
    → get_or bytes i 0 ≢ get_or first i 0 → get_or bytes i 0 ≢ get_or second i 0
    → first_differing place (drop i first) (drop i second) (drop i bytes) ≡ Some place
differing_here place i first second bytes in_first in_second in_bytes not_first not_second = let s = step place i first second bytes in_first in_second in_bytes in grind (arith, nat_tests)
