-- Marks in bytes.
use Rattle.std.proofs.Common.{◌≡◌, ℕ, ◌+◌, ◌-◌, ◌<◌, ◌≤◌, true, false, ◌==◌, List, [], ◌∷◌, length, get_or, take, Some, None, refl, sym, ◌∙◌, arith, inl, inr}
use Rattle.std.specs.List.{list_any}
use Rattle.std.proofs.lemmas.Bool.{eq-eqb, ne_eqb, false_from_ne_true, lt-ltb, cases_eq, and_from, and_left, and_right, not_from_true, not_from_false, not-true, and_parts, both_ways}
use Rattle.std.proofs.lemmas.List.{length-take, get_or-take, get_or_default}
use Rattle.std.proofs.lemmas.List.Folds.{list_any_none, list_any_at}
use Rattle.memchr.specs.Find.{IsFirstByte, is_byte}
use Rattle.iso2709_record.specs.Faults.{ends_once}

-- no byte before the place is the mark
pub none_before : (mark : ℕ) (bytes : List ℕ) (place : ℕ) → place ≤ length bytes → ((k : ℕ) → k < place → (get_or bytes k 0 == mark) ≡ true → ⊥)
    → list_any (λ b. b == mark) (take place bytes) ≡ false
none_before mark bytes place le none =
    list_any_none (λ b. b == mark) (take place bytes) (λ k d lt.
    let below : k < place = omega (arith, length-take place bytes) in
    let inside : k < length bytes = omega arith in
    rw (get_or-take place bytes k d below, get_or_default bytes k d 0 inside) (false_from_ne_true _ (none k below)))

pub ends_here : (mark : ℕ) (bytes : List ℕ) (place : ℕ) → place + 1 ≡ length bytes → (get_or bytes place 0 == mark) ≡ true
    → list_any (λ b. b == mark) (take place bytes) ≡ false → ends_once mark bytes ≡ true
unfolding ends_once
ends_here mark bytes place last here none =
    let is_last : length bytes - 1 ≡ place = omega arith in
    rw is_last (and_from _ _ (and_from _ _ (lt-ltb 0 (length bytes) (omega arith)) here) (not_from_false _ none))

ends_early : (mark : ℕ) (bytes : List ℕ) (place : ℕ) → place + 1 < length bytes → (get_or bytes place 0 == mark) ≡ true → ends_once mark bytes ≡ false
unfolding ends_once
ends_early mark bytes place early here =
    let before : place < length bytes - 1 = omega arith in
    let read : get_or (take (length bytes - 1) bytes) place 0 ≡ get_or bytes place 0 = get_or-take (length bytes - 1) bytes place 0 before in
    let some : list_any (λ b. b == mark) (take (length bytes - 1) bytes) ≡ true =
    list_any_at (λ b. b == mark) (take (length bytes - 1) bytes) place 0 (omega (arith, length-take (length bytes - 1) bytes)) (rw read here) in
    and_right _ _ (not_from_true _ some)

-- the first mark is the last byte, or not
pub ends_once_first : (mark : ℕ) (bytes : List ℕ) (place : ℕ) → IsFirstByte (is_byte mark) bytes (Some place) → (place + 1 == length bytes) ≡ ends_once mark bytes
ends_once_first mark bytes place found =
    elim (cases_eq (place + 1) (length bytes)) [
      | inl last ↦ eq-eqb (place + 1) (length bytes) last
          ∙ sym (ends_here mark bytes place last found.1 (none_before mark bytes place (omega (arith, found.0.high)) (λ k lt. found.0.before k (omega arith) lt)))
      | inr other ↦ ne_eqb (place + 1) (length bytes) other ∙ sym (ends_early mark bytes place (omega (arith, found.0.high)) found.1)
    ]

-- no byte is the mark
pub ends_once_none : (mark : ℕ) (bytes : List ℕ) → IsFirstByte (is_byte mark) bytes None → false ≡ ends_once mark bytes
unfolding ends_once
ends_once_none mark [] none = refl
ends_once_none mark (b ∷ bs) none =
    let other : (get_or (b ∷ bs) (length (b ∷ bs) - 1) 0 == mark) ≡ false = false_from_ne_true _ (none (length (b ∷ bs) - 1) (omega arith) (omega arith)) in
    sym (and_left _ _ (and_right _ _ other))

-- before the last byte no byte is the mark
pub unmarked_before : (mark : ℕ) (bytes : List ℕ) (k : ℕ) → ends_once mark bytes ≡ true → k < length bytes - 1 → (get_or bytes k 0 == mark) ≡ false
unfolding ends_once
unmarked_before mark bytes k once lt =
    let none : list_any (λ b. b == mark) (take (length bytes - 1) bytes) ≡ false = not-true _ (and_parts _ _ once).1 in
    let read : get_or (take (length bytes - 1) bytes) k 0 ≡ get_or bytes k 0 = get_or-take (length bytes - 1) bytes k 0 lt in
    false_from_ne_true _ (λ is_mark. both_ways _ none
    (list_any_at (λ b. b == mark) (take (length bytes - 1) bytes) k 0 (omega (arith, length-take (length bytes - 1) bytes)) (rw read is_mark)))
