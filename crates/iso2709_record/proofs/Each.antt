-- What holds of each field of a record that fits.
use Rattle.std.proofs.Common.{◌≡◌, ℕ, zero, suc, ◌≤◌, ◌<◌, Bool, true, List, [], ◌∷◌, length, take, get_or, ap, ◌∙◌, arith}
use Rattle.std.specs.Prelude.{nat_le}
use Rattle.std.specs.List.{list_all}
use Rattle.std.proofs.lemmas.Bool.{and_parts, leb-true}
use Rattle.marc_types.specs.declared.field.Leader.{Leader}
use Rattle.marc_types.specs.declared.field.Field.{Field}
use Rattle.marc_types.specs.Valid.{is_leader, is_field, is_record}
use Rattle.iso2709_record.specs.Written.{field_length, fields_length, fits}
use Rattle.iso2709_record.proofs.Lengths.{fits_parts}

pub leader_valid : (l : Leader) (fs : List Field) → is_record l fs ≡ true → is_leader l ≡ true
unfolding is_record
leader_valid l fs h = (and_parts _ _ (and_parts _ _ (and_parts _ _ h).0).0).0

pub fields_valid : (l : Leader) (fs : List Field) → is_record l fs ≡ true → list_all is_field fs ≡ true
unfolding is_record
fields_valid l fs h = (and_parts _ _ (and_parts _ _ (and_parts _ _ h).0).0).1

pub fields_short : (fs : List Field) → fits fs ≡ true → list_all (λ f. nat_le (field_length f) 9999) fs ≡ true
unfolding fits
fields_short fs h = (and_parts _ _ h).1

-- a test that holds of all holds of each
pub each_passes : {X : Type 0} (test : X → Bool) (xs : List X) (i : ℕ) (x : X) → list_all test xs ≡ true → i < length xs → x ≡ get_or xs i x
    → test x ≡ true
each_passes test [] i x all within is = absurd (omega arith)
each_passes test (y ∷ ys) zero x all within is = ap test is ∙ (and_parts _ _ all).0
each_passes test (y ∷ ys) (suc i) x all within is = each_passes test ys i x (and_parts _ _ all).1 (omega arith) is

pub field_valid : (l : Leader) (fs : List Field) (i : ℕ) (f : Field) → is_record l fs ≡ true → i < length fs → f ≡ get_or fs i f → is_field f ≡ true
field_valid l fs i f valid within is = each_passes is_field fs i f (fields_valid l fs valid) within is

-- a field's length has four digits
pub field_short : (fs : List Field) (i : ℕ) (f : Field) → fits fs ≡ true → i < length fs → f ≡ get_or fs i f → field_length f ≤ 9999
field_short fs i f fitting within is = leb-true _ _ (each_passes (λ g. nat_le (field_length g) 9999) fs i f (fields_short fs fitting) within is)

pub fields_length-take : (i : ℕ) (fs : List Field) → fields_length (take i fs) ≤ fields_length fs
fields_length-take zero fs = omega arith
fields_length-take (suc i) [] = omega arith
fields_length-take (suc i) (f ∷ fs) = omega (arith, fields_length-take i fs)

-- where a field starts has five digits
pub start_short : (fs : List Field) (i : ℕ) → fits fs ≡ true → fields_length (take i fs) ≤ 99999
start_short fs i fitting = let parts = fits_parts fs fitting in omega (arith, parts.0, fields_length-take i fs)
