-- The numbers of replacements, one field further on, and where a key's text is cut.
use Rattle.std.proofs.Common.{◌≡◌, ℕ, ◌+◌, ◌==◌, ◌<◌, ◌≤◌, Bool, true, false, nat_lt, List, [], ◌∷◌, ◌++◌, filter, length, get_or, take, drop, Some, None, cond, refl, sym, ap, ◌∙◌, arith}
use Rattle.std.specs.List.{flat_map, position, position_or_len, before_first, after_first}
use Rattle.std.proofs.lemmas.List.{take_more, append-nil, drop_all, take_all}
use Rattle.std.proofs.lemmas.List.Elements.{filter-append}
use Rattle.std.proofs.lemmas.Grind.{flat_map-append}
use Rattle.std.proofs.lemmas.Bool.Decides.{nat_tests}
use Rattle.marc_types.specs.declared.field.Subfield.{Subfield}
use Rattle.marc_types.specs.declared.field.Field.{Field}
use Rattle.marc_types.specs.Fields.{subfields_of}
use Rattle.entry_record.specs.Authority.{is_replacement, replacement_numbers}

abbrev is_number : Subfield → Bool
is_number s = s.code == 48

numbers-append : (xs ys : List Field) → replacement_numbers (xs ++ ys) ≡ replacement_numbers xs ++ replacement_numbers ys
numbers-append xs ys =
    ap (λ l. filter is_number (flat_map subfields_of l)) (filter-append is_replacement xs ys)
    ∙ ap (filter is_number) (flat_map-append subfields_of (filter is_replacement xs) (filter is_replacement ys))
    ∙ filter-append is_number (flat_map subfields_of (filter is_replacement xs)) (flat_map subfields_of (filter is_replacement ys))

pub numbers_more : (xs : List Field) (i : ℕ) (f : Field) → i < length xs →
    replacement_numbers (take (i + 1) xs) ≡ replacement_numbers (take i xs) ++ replacement_numbers (get_or xs i f ∷ [])
numbers_more xs i f h = ap replacement_numbers (take_more xs i f h) ∙ numbers-append (take i xs) (get_or xs i f ∷ [])

pub numbers_of_one : (f : Field) → is_replacement f ≡ true → replacement_numbers (f ∷ []) ≡ filter (λ s. s.code == 48) (subfields_of f)
numbers_of_one f e =
    ap (λ b. filter is_number (flat_map subfields_of (cond b (f ∷ []) []))) e ∙ ap (filter is_number) (append-nil (subfields_of f))

pub numbers_of_other : (f : Field) → is_replacement f ≡ false → replacement_numbers (f ∷ []) ≡ []
numbers_of_other f e = ap (λ b. filter is_number (flat_map subfields_of (cond b (f ∷ []) []))) e

at_place : (b : Bool) (n i : ℕ) → Some i ≡ cond b (Some n) None → n ≡ i
at_place true n i e = cc
at_place false n i e = cc

no_place : (b : Bool) (n : ℕ) → None ≡ cond b (Some n) None → b ≡ false
no_place true n e = cc
no_place false n e = refl

found_within : (b : Bool) (n i : ℕ) → Some i ≡ cond b (Some n) None → b ≡ true
found_within true n i e = refl
found_within false n i e = cc

below_from : (n k : ℕ) → nat_lt n k ≡ true → n < k
below_from n k h = grind (arith, nat_tests)

beyond_from : (n k : ℕ) → nat_lt n k ≡ false → k ≤ n
beyond_from n k h = grind (arith, nat_tests)

pub place_within : (p : ℕ → Bool) (xs : List ℕ) (i : ℕ) → Some i ≡ position p xs → i < length xs
place_within p xs i e =
    let within : position_or_len p xs < length xs = below_from _ _ (found_within (nat_lt (position_or_len p xs) (length xs)) (position_or_len p xs) i e) in
    let same : position_or_len p xs ≡ i = at_place (nat_lt (position_or_len p xs) (length xs)) (position_or_len p xs) i e in
    omega arith

pub place_before : (p : ℕ → Bool) (xs : List ℕ) (i : ℕ) → Some i ≡ position p xs → take i xs ≡ before_first p xs
place_before p xs i e = ap (λ n. take n xs) (sym (at_place (nat_lt (position_or_len p xs) (length xs)) (position_or_len p xs) i e))

pub place_after : (p : ℕ → Bool) (xs : List ℕ) (i : ℕ) → Some i ≡ position p xs → drop (i + 1) xs ≡ after_first p xs
place_after p xs i e = ap (λ n. drop (n + 1) xs) (sym (at_place (nat_lt (position_or_len p xs) (length xs)) (position_or_len p xs) i e))

pub nowhere_before : (p : ℕ → Bool) (xs : List ℕ) → None ≡ position p xs → xs ≡ before_first p xs
nowhere_before p xs e =
    sym (take_all (position_or_len p xs) xs (beyond_from _ _ (no_place (nat_lt (position_or_len p xs) (length xs)) (position_or_len p xs) e)))

pub nowhere_after : (p : ℕ → Bool) (xs : List ℕ) → None ≡ position p xs → [] ≡ after_first p xs
nowhere_after p xs e =
    let beyond : length xs ≤ position_or_len p xs = beyond_from _ _ (no_place (nat_lt (position_or_len p xs) (length xs)) (position_or_len p xs) e) in
    sym (drop_all (position_or_len p xs + 1) xs (omega arith))
