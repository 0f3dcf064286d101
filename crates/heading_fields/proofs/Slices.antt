-- A slice cut at the first place that passes a test.
use Rattle.std.proofs.Common.{◌≡◌, ◌≤◌, ℕ, ◌+◌, suc, Bool, true, false, not, cond, List, [], ◌∷◌, take, drop, length, position, unwrap_or, if◌then◌else◌, refl, sym, ap, ◌∙◌, arith}
use Rattle.std.proofs.lemmas.Grind.{common_steps}
use Rattle.std.specs.List.{position_or_len}
use Rattle.marc_types.specs.declared.field.Subfield.{Subfield}
use Rattle.marc_types.specs.declared.field.Field.{Field}
use Rattle.marc_types.specs.declared.field.Field.TheVariants.{Control, Variable}
use Rattle.marc_types.specs.Valid.{subfields_size, field_size}
use Rattle.heading_fields.specs.Parts.{before, onward, region, is_dividing}
use Rattle.marc_types.specs.Fields.{subfields_of}

before_step : {A : Type 0} (x : A) (xs : List A) (n : ℕ) (b : Bool) → (if b then [] else x ∷ take n xs) ≡ take (cond (not b) (1 + n) 0) (x ∷ xs)
before_step x xs n true = refl
before_step x xs n false = let e : 1 + n ≡ suc n = omega arith in rw e refl

before_place : {A : Type 0} (test : A → Bool) (xs : List A) → before test xs ≡ take (position_or_len test xs) xs
before_place test [] = refl
before_place test (x ∷ xs) =
    ap (λ ys. if test x then [] else x ∷ ys) (before_place test xs) ∙ before_step x xs (position_or_len test xs) (test x)

onward_step : {A : Type 0} (x : A) (xs : List A) (n : ℕ) (b : Bool) → (if b then x ∷ xs else drop n xs) ≡ drop (cond (not b) (1 + n) 0) (x ∷ xs)
onward_step x xs n true = refl
onward_step x xs n false = let e : 1 + n ≡ suc n = omega arith in rw e refl

onward_place : {A : Type 0} (test : A → Bool) (xs : List A) → onward test xs ≡ drop (position_or_len test xs) xs
onward_place test [] = refl
onward_place test (x ∷ xs) =
    ap (λ ys. if test x then x ∷ xs else ys) (onward_place test xs) ∙ onward_step x xs (position_or_len test xs) (test x)

place_within : {A : Type 0} (test : A → Bool) (xs : List A) → position_or_len test xs ≤ length xs
place_within test [] = grind arith
place_within test (x ∷ xs) = grind (arith, common_steps, place_within test xs)

place_of : {A : Type 0} (test : A → Bool) (xs : List A) → unwrap_or (position test xs) (length xs) ≡ position_or_len test xs
place_of test xs = grind (arith, common_steps, place_within test xs)

-- a slice up to the first place that passes
pub before_at : {A : Type 0} (test : A → Bool) (xs : List A) → take (unwrap_or (position test xs) (length xs)) xs ≡ before test xs
before_at test xs = ap (λ n. take n xs) (place_of test xs) ∙ sym (before_place test xs)

-- a slice from that place on
pub onward_at : {A : Type 0} (test : A → Bool) (xs : List A) → drop (unwrap_or (position test xs) (length xs)) xs ≡ onward test xs
onward_at test xs = ap (λ n. drop n xs) (place_of test xs) ∙ sym (onward_place test xs)

pub at_within : {A : Type 0} (test : A → Bool) (xs : List A) → unwrap_or (position test xs) (length xs) ≤ length xs
at_within test xs = rw (place_of test xs) (place_within test xs)

-- the front of a slice is no longer than the slice
pub size_before : (test : Subfield → Bool) (xs : List Subfield) → subfields_size (before test xs) ≤ subfields_size xs
size_before test [] = grind arith
size_before test (x ∷ xs) = grind (arith, common_steps, size_before test xs)

-- the subfields before the first subdivision are within the size of the field
pub size_region : (f : Field) → subfields_size (region false (subfields_of f)) ≤ field_size f
unfolding field_size
size_region (Control tag text) = omega arith
size_region (Variable tag ind1 ind2 subs) = size_before is_dividing subs
